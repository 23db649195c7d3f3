use Rattle.std.proofs.Common.{arith}
use Rattle.rect_cover.proofs.one_input.is_input.Goals as goal

pub returns-then-all_lie_in : goal.returns-then-all_lie_in
returns-then-all_lie_in c = (
  λ is. record { lie = c.all_lie_in.ensures.0 c.if-all_lie_in.true; single = λ p s lt less. (c.has_cells.ensures.0 is p s lt less).1 },
  λ input. c.has_cells.ensures.1 (λ p s lt less. (omega arith, input.single p s lt less)),
)
