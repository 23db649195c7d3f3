-- The laws that proofs of other crates cite.
pub use Rattle.row_view.proofs.Fronts.{all_more}
