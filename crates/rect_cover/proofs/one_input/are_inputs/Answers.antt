use Rattle.std.proofs.Common.{rules, eqb-true, sym}
use Rattle.std.proofs.lemmas.Iterator.{YieldsList-from_slice, YieldsList-from_zip, cases_from_all}
use Rattle.std.proofs.lemmas.Slice.Zip.{AllZip-long}
use Rattle.rect_cover.specs.Covers.{IsInput}
use Rattle.rect_cover.proofs.Zipped.{zip_decides}
use Rattle.rect_cover.proofs.one_input.are_inputs.Goals as goal

pub returns-then-grids-inputs : goal.returns-then-grids-inputs
returns-then-grids-inputs c = zip_decides IsInput c.args.grids.now c.args.inputs.now c.all.result c.if-grids-inputs.true
    (cases_from_all c.all.new.self _ _ (λ p. IsInput p.0 p.1) (λ p. IsInput p.0 p.1 → ⊥) c.all.ensures.ran
    (YieldsList-from_zip (YieldsList-from_slice c.args.grids.now cc) (YieldsList-from_slice c.args.inputs.now cc)) (λ x q k. search rules) (λ x q k. search rules))

pub returns-else-grids-inputs : goal.returns-else-grids-inputs
returns-else-grids-inputs c = (
  λ long. absurd (c.if-grids-inputs.false (eqb-true _ _ long)),
  λ each. absurd (c.if-grids-inputs.false (sym (AllZip-long IsInput c.args.grids.now c.args.inputs.now each))),
)
