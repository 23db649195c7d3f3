use Rattle.std.proofs.Common.{◌≡◌, ◌+◌, ◌∷◌, List, get_or, map, drop, sym, ap, ◌∙◌}
use Rattle.std.proofs.lemmas.List.{drop_more}
use Rattle.row_core.specs.declared.value.Value.{Value}
use Rattle.row_core.specs.declared.value.Value.TheVariants.{Null}
use Rattle.plan_model.specs.Operators.{column_of, greatest, greater_value}
use Rattle.op_unary.specs.declared.keyed.Keyed.{Keyed}
use Rattle.op_unary.specs.Cells.{or_null}
use Rattle.operator_laws.proofs.Laws.{greater-assoc, greater-null}
use Rattle.op_unary.proofs.accumulating.max.Goals as goal

pub loop-keyed-preserved : goal.loop-keyed-preserved
loop-keyed-preserved c =
    let rows = c.args.rows.now in
    let i = c.loop-keyed.keyed-index in
    let keyed = c.keyed-item.result in
    let told = λ (more : List Keyed). greatest (column_of c.args.column (map (λ keyed. keyed.row.now) more)) in
    let cut : drop i rows ≡ keyed ∷ drop (i + 1) rows = drop_more rows i keyed c.loop-keyed-test.true ∙ ap (λ (first : Keyed). first ∷ drop (i + 1) rows) (sym c.keyed-item.is) in
    ap (λ (value : Value). greater_value value (told (drop (i + 1) rows))) (c.greater-greatest.ensures ∙ ap (greater_value (or_null c.loop-keyed.greatest)) c.cell.ensures)
    ∙ sym (greater-assoc (or_null c.loop-keyed.greatest) (get_or keyed.row.now c.args.column Null) (told (drop (i + 1) rows)))
    ∙ ap (λ (more : List Keyed). greater_value (or_null c.loop-keyed.greatest) (told more)) (sym cut)
    ∙ c.loop-keyed.invariant

pub loop-keyed-init : goal.loop-keyed-init
loop-keyed-init c = greater-null (greatest (column_of c.args.column (map (λ keyed. keyed.row.now) c.args.rows.now)))
