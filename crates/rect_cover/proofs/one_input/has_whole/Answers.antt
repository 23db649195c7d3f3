use Rattle.std.proofs.Common.{◌≤◌, arith}
use Rattle.rect_cover.specs.Cells.{times}
use Rattle.rect_cover.proofs.one_input.has_whole.Goals as goal

pub returns : goal.returns
returns c = (
  λ is. record {
    each = λ p s lt less.
        let least : 1 ≤ times c.args.rects.now p s = (c.has_cells.ensures.0 is p s lt less).0 in
        let most : times c.args.rects.now p s ≤ 1 = (c.has_cells.ensures.0 is p s lt less).1 in
        omega arith;
  },
  λ whole. c.has_cells.ensures.1 (λ p s lt less. let one = whole.each p s lt less in (omega arith, omega arith)),
)
