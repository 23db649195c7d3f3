-- Operators that go row by row, one after another.
use Rattle.std.proofs.Common.{◌≡◌, ℕ, List, [], ◌∷◌, ◌++◌, refl, ◌∙◌, ap}
use Rattle.bag_laws.specs.Rows.{OneRow as Row}
use Rattle.plan_model.specs.Widths.{width_of}
use Rattle.plan_model.specs.declared.op.Op.{Op}
use Rattle.operator_laws.specs.Applied.{applied}
use Rattle.operator_laws.proofs.Laws.{row_sum, row_each}
use Rattle.row_steps.specs.Chained.{chained, StepsFit}

-- of a sum they give the sum of what they give
pub chained_sum : (ops : List Op) (width last : ℕ) (rows more : List Row) → StepsFit width ops last → chained ops (rows ++ more) ≡ chained ops rows ++ chained ops more
chained_sum [] width last rows more fit = refl
chained_sum (op ∷ ops) width last rows more fit =
    ap (chained ops) (row_sum op rows more fit.0.row_wise) ∙ chained_sum ops (width_of op (width ∷ [])) last (applied op rows) (applied op more) fit.1

-- and of nothing nothing
pub chained_none : (ops : List Op) (width last : ℕ) → StepsFit width ops last → chained ops [] ≡ []
chained_none [] width last fit = refl
chained_none (op ∷ ops) width last fit = ap (chained ops) (row_each op [] fit.0.row_wise) ∙ chained_none ops (width_of op (width ∷ [])) last fit.1
