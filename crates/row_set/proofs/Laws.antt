-- The laws that proofs of other crates cite by name; all else of proofs/ is this crate's own.

-- ---- one of each row: a row more, which rows are found, and what holds of each
pub use Rattle.row_set.proofs.Each.{each_more, found_among, each_fit}
-- ---- rows by codes that tell them apart, and by their bytes
pub use Rattle.row_set.proofs.Each.{same_codes, found_by_codes, rows_fit, spelled_once}
