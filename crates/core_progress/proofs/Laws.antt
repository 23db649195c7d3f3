-- The laws that proofs of other crates cite by name, passed on from one place; all else of proofs/ is this crate's own.

-- ---- the work that is left, by events and by steps
pub use Rattle.core_progress.proofs.Working.{made_less, widened_less, decided_less, won_less}
pub use Rattle.core_progress.proofs.Advancing.{advances, bounded}
