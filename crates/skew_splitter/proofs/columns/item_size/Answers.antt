use Rattle.std.proofs.Common.{ℕ, ◌+◌, ◌-◌, ◌^◌, min, ◌∙◌, ap}
use Rattle.grid_groups.specs.Sizes.{cell_size}
use Rattle.skew_splitter.proofs.Steps.{capped_next}
use Rattle.skew_splitter.proofs.columns.item_size.Goals as goal

pub loop-producer-preserved : goal.loop-producer-preserved
loop-producer-preserved c = λ before is.
    capped_next (λ p. cell_size c.args.own.now p c.args.column) c.args.start c.loop-producer.producer before c.loop-producer.size c.saturating_add-size.result
    c.loop-producer.auto.producer (c.loop-producer.invariant before is)
    (c.saturating_add-size.ensures ∙ ap (λ (n : ℕ). min (c.loop-producer.size + n) (2 ^ 64 - 1)) c.cell_size.ensures)
