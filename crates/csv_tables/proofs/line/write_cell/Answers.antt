use Rattle.std.proofs.Common.{◌≢◌}
use Rattle.csv.specs.Writing.{writer_setup}
use Rattle.csv.specs.declared.writer.QuoteStyle.TheVariants as style
use Rattle.plan_model.specs.Sinks.{cell_text}
use Rattle.csv_tables.proofs.Cells.{one_more}
use Rattle.csv_tables.proofs.line.write_cell.Goals as goal

pub returns : goal.returns
returns c text cells short had =
    let wrote = c.in_default.ensures in
    let plain : (writer_setup c.args.writer.now).style ≢ style.NonNumeric = rw had.setup (λ e. cc e) in
    let appended = rw c.shown.ensures at (wrote.text plain) in
    one_more text cells (cell_text c.args.value.now) c.args.writer.now c.write_field.new.self had short appended wrote.same wrote.count (λ none. rw c.shown.ensures at (wrote.wrote none plain)) wrote.stays
