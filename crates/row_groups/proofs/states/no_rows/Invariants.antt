use Rattle.std.proofs.Common.{◌≡◌, [], map, take}
use Rattle.row_groups.specs.Accumulators.{accumulator_of}
use Rattle.row_groups.proofs.states.no_rows.Given as goal

abbrev pub invariant-loop-agg : goal.invariant-loop-agg
invariant-loop-agg l = l.made.items ≡ map (accumulator_of []) (take l.agg-index l.aggs)
