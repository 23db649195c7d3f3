use Rattle.std.proofs.Common.{◌∙◌}
use Rattle.plan_model.specs.declared.kind.Kind.TheVariants.{IntKind}
use Rattle.csv.specs.Records.{fields_of}
use Rattle.csv_tables.proofs.Rows.{row_of_more}
use Rattle.csv_tables.proofs.table.read_row.Goals as goal

pub loop-place-preserved : goal.loop-place-preserved
loop-place-preserved c =
    let more = row_of_more c.args.kinds.now (fields_of c.args.cells.now) c.loop-place.place IntKind c.loop-place-test.true in
    let value = c.in_ok-owned.ensures ∙ c.read_field.ensures in
    let was = c.loop-place.invariant in
    let pushed = c.in_ok-push.ensures.ok in
    cc (more, value, was, pushed)
