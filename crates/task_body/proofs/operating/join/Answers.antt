use Rattle.std.proofs.Common.{◌≡◌, [], ◌∷◌, ◌∙◌, ap, subst, sym}
use Rattle.std.specs.List.{AllByRecursion}
use Rattle.row_view.specs.Encoded.{RowOf}
use Rattle.task_body.proofs.Inputs.{rows_of_width}
use Rattle.row_core.specs.Bags.{SameBag}
use Rattle.plan_model.specs.Joins.{joined}
use Rattle.plan_model.specs.Plans.{Bag, join_width}
use Rattle.plan_model.specs.declared.op.Op.TheVariants.{Join}
use Rattle.task_body.proofs.Alike.{given_fits, two_fit}
use Rattle.task_body.proofs.operating.join.Goals as goal

pub join-requires-clause-left : goal.join-requires-clause-left
join-requires-clause-left c = subst (λ (bag : Bag). AllByRecursion (RowOf bag.width) bag.rows) (sym c.left.view_is) (rows_of_width c.args.left c.requires.left)

pub join-requires-clause-right : goal.join-requires-clause-right
join-requires-clause-right c = subst (λ (bag : Bag). AllByRecursion (RowOf bag.width) bag.rows) (sym c.right.view_is) (rows_of_width c.args.right c.requires.right)

pub returns-clause-fit : goal.returns-clause-fit
returns-clause-fit c =
    let left = c.args.left in
    let right = c.args.right in
    let keys = c.args.keys.now in
    let kind = c.args.kind in
    let rows = c.in_ok-rows.rows in
    let given : Bag = record { width = c.width-width.result; rows = rows } in
    let wide = λ (bag : Bag). bag.width in
    let width : c.width-width.result ≡ join_width kind left.width right.width =
    c.width-width.ensures ∙ (λ i. join_width kind ((c.from.ensures ∙ ap wide c.left.view_is) i) ((c.from-2.ensures ∙ ap wide c.right.view_is) i)) in
    let one = subst (λ (bag : Bag). SameBag rows (joined keys bag.width c.right.inside.width bag.rows c.right.inside.rows kind)) c.left.view_is c.in_ok-rows.ensures in
    let both = subst (λ (bag : Bag). SameBag rows (joined keys left.width bag.width left.rows bag.rows kind)) c.right.view_is one in
    given_fits (Join kind keys) (left ∷ right ∷ []) given c.requires.good tt (two_fit left right c.requires.left c.requires.right) (record { width = width; rows = both })
