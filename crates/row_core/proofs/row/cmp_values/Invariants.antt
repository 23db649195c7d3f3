use Rattle.std.proofs.Common.{◌≡◌, drop, length}
use Rattle.row_core.specs.Values.{row_cmp}
use Rattle.row_core.proofs.row.cmp_values.Given as goal

abbrev pub invariant-loop-x : goal.invariant-loop-x
invariant-loop-x l = row_cmp l.a l.b ≡ row_cmp (drop (length l.yielded) l.a) (drop (length l.yielded) l.b)
