use Rattle.std.proofs.Common.{◌≡◌, take}
use Rattle.op_join.specs.Keys.{rows_of, AreKeyed}
use Rattle.op_join.proofs.sorted_side.all_keyed.Given as goal

abbrev pub invariant-loop-row : goal.invariant-loop-row
invariant-loop-row l = record { rows : rows_of l.all.items ≡ take l.row-index l.rows; keyed : AreKeyed l.columns l.all.items }
