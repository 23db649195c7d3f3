use Rattle.std.proofs.Common.{◌++◌, List, sym, subst, ◌∙◌}
use Rattle.row_core.specs.Bags.{SameBag}
use Rattle.bag_laws.specs.Rows.{OneRow as Row}
use Rattle.bag_laws.proofs.Laws.{same_refl, same_sym}
use Rattle.plan_model.specs.Joins.{joined}
use Rattle.hash_join.proofs.Laws.{left_probed, right_probed}
use Rattle.row_operators.proofs.Sides.{by_left_rows, by_right_rows, full_rows}
use Rattle.row_operators.proofs.join_operator.join.Goals as goal

pub returns-in_ok-rows-in-Right : goal.returns-in_ok-rows-in-Right
returns-in_ok-rows-in-Right c =
    let keys = c.args.keys.now in
    let lw = c.args.widths.left in
    let rw = c.args.widths.right in
    let all = joined keys lw rw c.args.left.now c.args.right.now c.args.kind in
    subst (λ (rows : List Row). SameBag rows all) (sym c.in_ok-rows-in-Right.ensures.given)
    (same_sym (right_probed c.args.kind keys lw rw c.args.left.now c.args.right.now (by_right_rows c.args.kind c.in-Right.is)))

pub returns-in_ok-all-in-Full : goal.returns-in_ok-all-in-Full
returns-in_ok-all-in-Full c =
    let keys = c.args.keys.now in
    let lw = c.args.widths.left in
    let rw = c.args.widths.right in
    let all = joined keys lw rw c.args.left.now c.args.right.now c.args.kind in
    let both = (λ i. c.in_ok-rows-in-Full.ensures.given i ++ c.in_ok-more-in-Full.ensures.given i) ∙ sym (full_rows c.args.kind keys lw rw c.args.left.now c.args.right.now c.in-Full.is) in
    subst (λ (rows : List Row). SameBag rows all) (sym (c.in_ok-all-in-Full.ensures ∙ both)) (same_refl all)

pub returns-in_ok-rows-in_default : goal.returns-in_ok-rows-in_default
returns-in_ok-rows-in_default c =
    let keys = c.args.keys.now in
    let lw = c.args.widths.left in
    let rw = c.args.widths.right in
    let kind = c.args.kind in
    let all = joined keys lw rw c.args.left.now c.args.right.now kind in
    let same = left_probed kind keys lw rw c.args.left.now c.args.right.now (by_left_rows kind c.in_default.not-Right c.in_default.not-Full) in
    subst (λ (rows : List Row). SameBag rows all) (sym (c.in_ok-rows-in_default.ensures.given ∙ sym same)) (same_refl all)
