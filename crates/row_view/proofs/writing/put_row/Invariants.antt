use Rattle.std.proofs.Common.{◌≡◌, ◌++◌, length, take}
use Rattle.std.specs.Int.{w16, to_be_bytes}
use Rattle.row_core.specs.Encoding.{values_bytes}
use Rattle.row_view.specs.Views.{row_seen}
use Rattle.row_view.proofs.writing.put_row.Given as goal

abbrev pub invariant-loop-value : goal.invariant-loop-value
invariant-loop-value l = l.bytes ≡ l.fn.bytes ++ (to_be_bytes w16 (length l.row) ++ values_bytes (row_seen (take l.value-index l.row)))
