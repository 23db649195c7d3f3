use Rattle.std.proofs.Common.{◌∷◌, ◌++◌, [], arith, sym, ◌∙◌}
use Rattle.std.specs.List.{sum_by}
use Rattle.std.proofs.lemmas.List.FromFn.{map-range_with_len_more}
use Rattle.grid_groups.specs.Sizes.{capped, column_size}
use Rattle.grid_groups.proofs.Sums.{long_places, few_places}
use Rattle.grid_groups.proofs.sizes.column_sizes.Goals as goal

pub loop-column-preserved : goal.loop-column-preserved
loop-column-preserved c =
    c.in_ok-push.ensures.items
    ∙ (λ i. c.loop-column.invariant i ++ (c.from.ensures ∙ c.size_of_all.ensures) i ∷ [])
    ∙ sym (map-range_with_len_more (λ s. capped (sum_by (λ grid. column_size grid s) c.args.grids.now)) 0 c.loop-column.column c.loop-column.column (omega arith))

pub returns-clause-few : goal.returns-clause-few
returns-clause-few c =
    long_places (λ s. sum_by (λ grid. column_size grid s) c.args.grids.now) c.loop-column.column c.args.columns c.from_vec.result
    (c.from_vec.ensures ∙ c.loop-column.invariant) (omega arith) (omega arith)

pub returns-clause-summable : goal.returns-clause-summable
returns-clause-summable c =
    few_places (λ s. sum_by (λ grid. column_size grid s) c.args.grids.now) c.loop-column.column c.args.columns c.from_vec.result
    (c.from_vec.ensures ∙ c.loop-column.invariant) (omega arith) (omega arith)
