-- The laws that proofs of other crates cite by name; all else of proofs/ is this crate's own.

-- ---- what is collected in parts
pub use Rattle.row_collector.proofs.Collecting.{none_collected, both_collected}
