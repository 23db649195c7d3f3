use Rattle.std.proofs.Common.{◌≡◌, map, take}
use Rattle.op_unary.specs.Accumulators.{accumulator_of}
use Rattle.op_unary.proofs.grouping.accumulators_of.Given as goal

abbrev pub invariant-loop-agg : goal.invariant-loop-agg
invariant-loop-agg l = l.accumulators.items ≡ map (accumulator_of (map (λ keyed. keyed.row.now) l.run)) (take l.agg-index l.aggs)
