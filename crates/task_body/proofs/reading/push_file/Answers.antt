use Rattle.std.proofs.Common.{◌≡◌, map, sym, ◌∙◌, ap}
use Rattle.std.proofs.lemmas.Result.{on_ok_weaker}
use Rattle.plan_model.specs.Tables.{table_rows}
use Rattle.plan_model.specs.declared.column.Column.{Column}
use Rattle.plan_model.specs.declared.op.Op.{Op}
use Rattle.row_steps.proofs.Laws.{collects_as}
use Rattle.task_body.specs.Cells.{file_rows}
use Rattle.task_body.proofs.reading.push_file.Goals as goal

pub returns-in_ok-kinds-in-Source-clause-takes : goal.returns-in_ok-kinds-in-Source-clause-takes
returns-in_ok-kinds-in-Source-clause-takes g c =
    let kinds = c.as_slice-in-Source-2.ensures.value ∙ c.in_ok-kinds-in-Source.ensures ∙ ap (map (λ (column : Column). column.kind)) c.as_slice.ensures in
    let is : table_rows c.as_slice-in-Source-2.result.now c.as_slice-in-Source.result.now ≡ file_rows c.args.op.now c.args.bytes.now =
    (λ i. table_rows (kinds i) (c.as_slice-in-Source.ensures i)) ∙ ap (λ (op : Op). file_rows op c.args.bytes.now) (sym c.in-Source.is) in
    on_ok_weaker c.scan_table.result
    (λ taken. collects_as g.C.Collector.holds c.args.out.now c.scan_table.new.out (table_rows c.as_slice-in-Source-2.result.now c.as_slice-in-Source.result.now) (file_rows c.args.op.now c.args.bytes.now) is taken)
    c.scan_table.ensures.takes
