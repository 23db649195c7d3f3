use Rattle.std.proofs.Common.{◌≡◌, ◌++◌, map}
use Rattle.std.specs.Vec.Iter.{into_iter_items}
use Rattle.op_unary.specs.Accumulators.{finish}
use Rattle.op_unary.proofs.group.Group.into_row.Given as goal

abbrev pub invariant-loop-accumulator : goal.invariant-loop-accumulator
invariant-loop-accumulator l = l.row ++ map finish (into_iter_items l.accumulator-iterator) ≡ l.fn.self.key ++ map finish l.fn.self.accumulators.items
