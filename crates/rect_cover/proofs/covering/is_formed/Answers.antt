use Rattle.std.proofs.Common.{List, sym, subst, arith}
use Rattle.std.specs.List.{AllZip}
use Rattle.rect_cover.specs.declared.rect.Rect.{Rect}
use Rattle.rect_cover.specs.Covers.{IsInput, HasWhole}
use Rattle.rect_cover.proofs.Steps.{answers_no, clash}
use Rattle.rect_cover.proofs.Zipped.{zip-front, zip-back, zip-join, zip-enough}
use Rattle.rect_cover.proofs.covering.is_formed.Goals as goal

pub returns-then-inputs-heads : goal.returns-then-inputs-heads
returns-then-inputs-heads c = answers_no (λ formed. let enough = zip-enough IsInput c.args.heads.now c.args.wide.now c.args.inputs.now formed.0 in omega arith)

pub returns-then-are_inputs : goal.returns-then-are_inputs
returns-then-are_inputs c = (
  λ is. (
    zip-join IsInput c.args.heads.now c.args.wide.now c.args.inputs.now c.if-inputs-heads.false
        (subst (λ (l : List (List Rect)). AllZip IsInput c.args.heads.now l) c.split_at.ensures.front (c.are_inputs.ensures.0 c.if-are_inputs.true))
        (subst (λ (l : List (List Rect)). AllZip IsInput c.args.wide.now l) c.split_at.ensures.back (c.are_wide.ensures.0 is).0),
    subst (λ (l : List (List Rect)). AllZip HasWhole c.args.wide.now l) c.split_at.ensures.back (c.are_wide.ensures.0 is).1,
  ),
  λ formed. c.are_wide.ensures.1 (
    subst (λ (l : List (List Rect)). AllZip IsInput c.args.wide.now l) (sym c.split_at.ensures.back) (zip-back IsInput c.args.heads.now c.args.wide.now c.args.inputs.now formed.0),
    subst (λ (l : List (List Rect)). AllZip HasWhole c.args.wide.now l) (sym c.split_at.ensures.back) formed.1,
  ),
)

pub returns-else-are_inputs : goal.returns-else-are_inputs
returns-else-are_inputs c = (
  λ is. absurd (clash c.are_inputs.result is c.if-are_inputs.false),
  λ formed. c.are_inputs.ensures.1
      (subst (λ (l : List (List Rect)). AllZip IsInput c.args.heads.now l) (sym c.split_at.ensures.front) (zip-front IsInput c.args.heads.now c.args.wide.now c.args.inputs.now formed.0)),
)
