-- The laws that proofs of other crates cite by name; all else of proofs/ is this crate's own.

-- ---- a chain of nothing, and of a sum
pub use Rattle.row_steps.proofs.Chains.{chained_sum, chained_none}
-- ---- batches that are pushed one after another
pub use Rattle.row_steps.proofs.Stepping.{collects_as, nothing_pushed, more_pushed}
