-- The laws that proofs of other crates cite by name; all else of proofs/ is this crate's own.

-- ---- what is told of the rows of each key, of which one more came: its key is there, or it is new
pub use Rattle.row_groups.proofs.Grouping.{told_by, none_with, found_each}
pub use Rattle.row_groups.proofs.Holding.{held_there, held_new}
-- ---- keys by the bytes of their values
pub use Rattle.row_groups.proofs.Keys.{key_fits, all_fit, keys_tell}
