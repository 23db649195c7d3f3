-- The laws that proofs of other crates cite by name; all else of proofs/ is this crate's own.

-- ---- items of lists
pub use Rattle.rerun_set.proofs.Items.{both_left, both_right, from_filter, in_nothing, in_one, into_filter, same_number, same_yes}
