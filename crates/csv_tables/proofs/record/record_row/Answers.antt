use Rattle.std.proofs.Common.{◌∷◌, []}
use Rattle.std.proofs.lemmas.List.{map-append}
use Rattle.plan_model.specs.declared.kind.Kind.TheVariants.{IntKind}
use Rattle.csv.specs.Records.{fields_of}
use Rattle.row_view.specs.Views.{seen}
use Rattle.csv_tables.proofs.Rows.{row_of_more}
use Rattle.csv_tables.proofs.record.record_row.Goals as goal

pub loop-place-preserved : goal.loop-place-preserved
loop-place-preserved c =
    let more = row_of_more c.args.kinds.now (fields_of c.args.cells.now) c.loop-place.place IntKind c.loop-place-test.true in
    let value = c.read_field.ensures in
    let was = c.loop-place.invariant in
    let pushed = c.in_ok-push.ensures.items in
    let mapped = map-append seen c.loop-place.row.items (c.read_field.result ∷ []) in
    cc (more, value, was, pushed, mapped)
