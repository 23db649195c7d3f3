use Rattle.std.proofs.Common.{◌∙◌, ◌++◌, length, map, take, sym, ap}
use Rattle.std.proofs.lemmas.List.{take_all}
use Rattle.plan_model.specs.Sinks.{line_of}
use Rattle.csv_tables.specs.Lines.{cut, total}
use Rattle.csv_tables.proofs.Cuts.{cut_more, total_more}
use Rattle.csv_tables.proofs.lines.write_lines.Goals as goal

pub invariant_of-result : goal.invariant_of-result
invariant_of-result c =
    let had = c.loop-row.invariant in
    let lines = map line_of (take c.loop-row.row-index c.args.rows.now) in
    ap total had.lengths ∙ total_more c.args.lengths.items c.args.text.items lines c.requires ∙ sym (ap length (c.in-Ok.ensures.ok ∙ had.text))

pub returns-in-Ok : goal.returns-in-Ok
returns-in-Ok c =
    let had = c.loop-row.invariant in
    let text = c.in-Ok.ensures.ok ∙ had.text in
    let lines = map line_of (take c.loop-row.row-index c.args.rows.now) in
    (λ i. cut (had.lengths i) (text i))
    ∙ cut_more c.args.lengths.items c.args.text.items lines c.requires
    ∙ (λ i. cut c.args.lengths.items c.args.text.items ++ map line_of (take_all c.loop-row.row-index c.args.rows.now c.loop-row-test.false i))
