use Rattle.std.proofs.Common.{◌∙◌, ◌++◌, ◌∷◌, [], map, sym, ap}
use Rattle.std.proofs.lemmas.Result.{on_ok_weaker}
use Rattle.row_core.specs.Exprs.{value_at}
use Rattle.plan_model.specs.declared.op.Op.{Op}
use Rattle.operator_laws.specs.Applied.{applied}
use Rattle.op_unary.proofs.by_row.apply_to.Goals as goal

pub returns-in_ok-project_row-in-Project : goal.returns-in_ok-project_row-in-Project
returns-in_ok-project_row-in-Project c =
    let is = c.in_ok-project_row-in-Project.ensures ∙ ap (map (value_at c.args.row.now)) c.as_slice.ensures in
    on_ok_weaker c.push.result (λ out. out ∙ (λ i. c.args.out.now ++ is i ∷ []) ∙ ap (λ (op : Op). c.args.out.now ++ applied op (c.args.row.now ∷ [])) (sym c.in-Project.is)) c.push.ensures.ok
