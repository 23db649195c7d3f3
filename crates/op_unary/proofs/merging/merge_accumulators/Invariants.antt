use Rattle.std.proofs.Common.{◌≡◌, List, map}
use Rattle.std.specs.Vec.Iter.{into_iter_items}
use Rattle.bag_laws.specs.Rows.{OneRow}
use Rattle.plan_model.specs.declared.agg.Agg.{Agg}
use Rattle.op_unary.specs.Accumulators.{accumulator_of}
use Rattle.op_unary.proofs.Merges.{Left}
use Rattle.op_unary.proofs.merging.merge_accumulators.Given as goal

abbrev pub invariant-loop-accumulator : goal.invariant-loop-accumulator
invariant-loop-accumulator l =
    (aggs : List Agg) (rows more : List OneRow) → l.fn.ours.items ≡ map (accumulator_of rows) aggs → l.fn.theirs.items ≡ map (accumulator_of more) aggs
    → Left aggs rows more l.all.items (into_iter_items l.accumulator-iterator) (into_iter_items l.theirs)
