-- The laws that proofs of other crates cite by name; all else of proofs/ is this crate's own.

pub use Rattle.task_parts.proofs.ByBags.{same_length, by_bags}
pub use Rattle.task_parts.proofs.Sharing.{cell_is, share_cells}
