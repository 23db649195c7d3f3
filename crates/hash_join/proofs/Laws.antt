-- The laws that proofs of other crates cite by name; all else of proofs/ is this crate's own.

-- ---- joins as what probe rows give
pub use Rattle.hash_join.proofs.Joins.{left_probed, right_probed, full_probed}
-- ---- what more probe rows give
pub use Rattle.hash_join.proofs.Pairs.{gives_more}
