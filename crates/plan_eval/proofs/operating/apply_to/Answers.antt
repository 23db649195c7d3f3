use Rattle.std.proofs.Common.{All, IsTrue, length, ◌∷◌, [], subst, sym}
use Rattle.plan_model.specs.Checks.{columns_fit}
use Rattle.plan_model.specs.Plans.{Bag}
use Rattle.plan_eval.proofs.Operated.{columns_found}
use Rattle.plan_eval.proofs.operating.apply_to.Goals as goal

pub apply-requires-clause-columns : goal.apply-requires-clause-columns
apply-requires-clause-columns c =
    subst (λ (bag : Bag). All (λ row. IsTrue (columns_fit c.args.op.now (length row ∷ []))) bag.rows) (sym c.input.view_is) (columns_found c.args.op.now c.args.input.now c.requires.good)
