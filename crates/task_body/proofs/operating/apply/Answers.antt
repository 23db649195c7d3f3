use Rattle.std.proofs.Common.{◌≡◌, [], ◌∷◌, List, false, sym, ◌∙◌, ap, subst}
use Rattle.std.specs.List.{AllByRecursion}
use Rattle.bag_laws.specs.Rows.{OneRow as Row}
use Rattle.bag_laws.proofs.Laws.{same_refl}
use Rattle.row_core.specs.Bags.{SameBag}
use Rattle.operator_laws.specs.Applied.{applied}
use Rattle.plan_model.specs.Operators.{is_sink}
use Rattle.plan_model.specs.Plans.{Bag}
use Rattle.plan_model.specs.Widths.{width_of}
use Rattle.row_view.specs.Encoded.{RowOf}
use Rattle.task_body.proofs.Alike.{applied_alike, given_fits, one_fits, unary_of}
use Rattle.task_body.proofs.Inputs.{rows_of_width}
use Rattle.task_body.proofs.operating.apply.Goals as goal

pub apply-requires-clause-rows : goal.apply-requires-clause-rows
apply-requires-clause-rows c = subst (λ (bag : Bag). AllByRecursion (RowOf bag.width) bag.rows) (sym c.batch.view_is) (rows_of_width c.args.batch c.requires.fit)

pub returns-clause-fit : goal.returns-clause-fit
returns-clause-fit c =
    let op = c.args.op.now in
    let batch = c.args.batch in
    let rows = c.in_ok-rows.rows in
    let given : Bag = record { width = c.width-width.result; rows = rows } in
    let plain : is_sink op ≡ false = sym c.is_sink.ensures ∙ c.if-is_sink.false in
    let width : c.width-width.result ≡ width_of op (batch.width ∷ []) = c.width-width.ensures ∙ ap (λ (bag : Bag). width_of op (bag.width ∷ [])) c.batch.view_is in
    let as_given : SameBag rows (applied op c.batch.inside.rows) = subst (λ (all : List Row). SameBag rows all) c.in_ok-rows.ensures (same_refl rows) in
    let same = subst (λ (bag : Bag). SameBag rows (applied op bag.rows)) c.batch.view_is as_given in
    given_fits op (batch ∷ []) given c.requires.good c.requires.constants (one_fits batch c.requires.fit)
    (applied_alike op batch c.width-width.result rows c.requires.good (unary_of op c.requires.good.number plain) width same)
