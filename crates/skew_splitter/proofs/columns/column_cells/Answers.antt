use Rattle.std.proofs.Common.{◌∷◌, ◌++◌, [], arith, sym, ◌∙◌}
use Rattle.std.proofs.lemmas.List.FromFn.{map-range_with_len_more}
use Rattle.grid_groups.specs.Sizes.{cell_size}
use Rattle.skew_splitter.proofs.columns.column_cells.Goals as goal

pub loop-producer-preserved : goal.loop-producer-preserved
loop-producer-preserved c =
    c.in_ok-push.ensures.items
    ∙ (λ i. c.loop-producer.invariant i ++ (c.from.ensures ∙ c.cell_size.ensures) i ∷ [])
    ∙ sym (map-range_with_len_more (λ p. cell_size c.args.grid.now p c.args.column) 0 c.loop-producer.producer c.loop-producer.producer (omega arith))
