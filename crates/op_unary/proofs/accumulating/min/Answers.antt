use Rattle.std.proofs.Common.{◌≡◌, ◌+◌, ◌∷◌, List, get_or, map, drop, sym, ap, ◌∙◌}
use Rattle.std.proofs.lemmas.List.{drop_more}
use Rattle.row_core.specs.declared.value.Value.{Value}
use Rattle.row_core.specs.declared.value.Value.TheVariants.{Null}
use Rattle.plan_model.specs.Operators.{column_of, least, lesser_value}
use Rattle.op_unary.specs.declared.keyed.Keyed.{Keyed}
use Rattle.op_unary.specs.Cells.{or_null}
use Rattle.operator_laws.proofs.Laws.{lesser-assoc}
use Rattle.op_unary.proofs.accumulating.min.Goals as goal

pub loop-keyed-preserved : goal.loop-keyed-preserved
loop-keyed-preserved c =
    let rows = c.args.rows.now in
    let i = c.loop-keyed.keyed-index in
    let keyed = c.keyed-item.result in
    let told = λ (more : List Keyed). least (column_of c.args.column (map (λ keyed. keyed.row.now) more)) in
    let cut : drop i rows ≡ keyed ∷ drop (i + 1) rows = drop_more rows i keyed c.loop-keyed-test.true ∙ ap (λ (first : Keyed). first ∷ drop (i + 1) rows) (sym c.keyed-item.is) in
    ap (λ (value : Value). lesser_value value (told (drop (i + 1) rows))) (c.lesser-least.ensures ∙ ap (lesser_value (or_null c.loop-keyed.least)) c.cell.ensures)
    ∙ sym (lesser-assoc (or_null c.loop-keyed.least) (get_or keyed.row.now c.args.column Null) (told (drop (i + 1) rows)))
    ∙ ap (λ (more : List Keyed). lesser_value (or_null c.loop-keyed.least) (told more)) (sym cut)
    ∙ c.loop-keyed.invariant
