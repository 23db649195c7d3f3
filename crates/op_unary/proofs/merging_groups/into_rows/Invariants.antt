use Rattle.std.proofs.Common.{◌≡◌, ◌++◌, map}
use Rattle.std.specs.Vec.Iter.{into_iter_items}
use Rattle.op_unary.specs.Accumulators.{finish}
use Rattle.op_unary.proofs.merging_groups.into_rows.Given as goal

abbrev pub invariant-loop-group : goal.invariant-loop-group
invariant-loop-group l =
    l.rows ++ map (λ group. group.key ++ map finish group.accumulators.items) (into_iter_items l.group-iterator) ≡ map (λ group. group.key ++ map finish group.accumulators.items) l.fn.groups.items
