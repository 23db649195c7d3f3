use Rattle.std.proofs.Common.{◌≡◌, ◌++◌, length, take}
use Rattle.std.specs.List.{AllByRecursion}
use Rattle.std.specs.Int.{w16, to_be_bytes}
use Rattle.row_core.specs.Encoding.{values_bytes, ValueFits}
use Rattle.row_core.proofs.encoding.encode_row.Given as goal

abbrev pub invariant-loop-value : goal.invariant-loop-value
invariant-loop-value l = record {
  spelled : l.bytes ≡ to_be_bytes w16 (length l.row) ++ values_bytes (take l.value-index l.row);
  fits : AllByRecursion ValueFits (take l.value-index l.row);
}
