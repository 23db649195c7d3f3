use Rattle.std.proofs.Common.{◌≡◌, ◌++◌, take}
use Rattle.row_core.specs.Encoding.{values_bytes}
use Rattle.row_core.specs.Hashing.{key_of}
use Rattle.row_view.specs.Views.{row_seen}
use Rattle.row_groups.proofs.key_bytes.put_key.Given as goal

abbrev pub invariant-loop-column : goal.invariant-loop-column
invariant-loop-column l = l.bytes ≡ l.fn.bytes ++ values_bytes (key_of (take l.column-index l.columns) (row_seen l.row))
