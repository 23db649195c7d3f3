use Rattle.std.proofs.Common.{◌∙◌, [], ◌∷◌, ◌++◌, IsTrue, length, take, sym, ap, subst}
use Rattle.std.proofs.lemmas.List.{take_more}
use Rattle.bag_laws.specs.Rows.{OneRow as Row}
use Rattle.operator_laws.proofs.Laws.{row_sum}
use Rattle.operator_laws.specs.Applied.{applied}
use Rattle.plan_model.specs.Checks.{columns_fit}
use Rattle.op_unary.proofs.by_row.by_row.Goals as goal

pub apply_to-requires : goal.apply_to-requires
apply_to-requires c = record {
  by_row = c.requires.by_row;
  columns = subst (λ (row : Row). IsTrue (columns_fit c.args.op.now (length row ∷ []))) (sym c.row-item.is) (c.requires.columns c.loop-row.row-index c.row-item.result c.loop-row-test.true);
}

pub loop-row-preserved : goal.loop-row-preserved
loop-row-preserved c =
    let rows = c.args.rows.now in
    let i = c.loop-row.row-index in
    let row = c.row-item.result in
    c.in_ok-apply_to.ensures
    ∙ (λ j. c.loop-row.invariant j ++ applied c.args.op.now (c.row-item.is j ∷ []))
    ∙ sym (row_sum c.args.op.now (take i rows) _ c.requires.by_row)
    ∙ ap (applied c.args.op.now) (sym (take_more rows i row c.loop-row-test.true))
