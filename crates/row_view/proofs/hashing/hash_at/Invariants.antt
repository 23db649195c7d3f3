use Rattle.std.proofs.Common.{◌≡◌, take}
use Rattle.row_core.specs.Hashing.{hash_of_key, key_of}
use Rattle.row_view.specs.Views.{row_seen}
use Rattle.row_view.proofs.hashing.hash_at.Given as goal

abbrev pub invariant-loop-column : goal.invariant-loop-column
invariant-loop-column l = l.state ≡ hash_of_key (key_of (take l.column-index l.columns) (row_seen l.row))
