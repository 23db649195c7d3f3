use Rattle.std.proofs.Common.{◌∷◌, ◌++◌, [], arith, sym, ◌∙◌}
use Rattle.std.proofs.lemmas.List.FromFn.{map-range_with_len_more}
use Rattle.grid_groups.specs.Sizes.{capped, column_size}
use Rattle.skew_splitter.proofs.columns.side_sizes.Goals as goal

pub loop-column-preserved : goal.loop-column-preserved
loop-column-preserved c =
    c.in_ok-push.ensures.items
    ∙ (λ i. c.loop-column.invariant i ++ c.column_size.ensures i ∷ [])
    ∙ sym (map-range_with_len_more (λ s. capped (column_size c.args.grid.now s)) 0 c.loop-column.column c.loop-column.column (omega arith))
