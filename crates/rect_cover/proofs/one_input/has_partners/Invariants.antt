use Rattle.std.proofs.Common.{◌≡◌, ℕ, ◌<◌}
use Rattle.rect_cover.specs.Cells.{times}
use Rattle.rect_cover.proofs.one_input.has_partners.Given as goal

abbrev pub invariant-loop-cell : goal.invariant-loop-cell
invariant-loop-cell l = (p q s : ℕ) → p < l.left.producers → s < l.cell → q < l.right.producers → 0 < times l.lefts p s → times l.rights q s ≡ 1
