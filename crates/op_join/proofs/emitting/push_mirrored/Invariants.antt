use Rattle.std.proofs.Common.{◌≡◌, ◌++◌, map, take}
use Rattle.op_join.specs.Keys.{rows_of}
use Rattle.op_join.proofs.emitting.push_mirrored.Given as goal

abbrev pub invariant-loop-other : goal.invariant-loop-other
invariant-loop-other l = l.out ≡ l.initial.out ++ map (λ other. other ++ l.row) (rows_of (take l.other-index l.matches))
