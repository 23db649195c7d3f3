use Rattle.std.proofs.Common.{map}
use Rattle.plan_model.specs.Sinks.{cell_text}
use Rattle.csv_tables.specs.Writing.{text_in}
use Rattle.csv_tables.proofs.Cells.{one_line}
use Rattle.csv_tables.proofs.line.write_line.Goals as goal

pub returns-clause-text : goal.returns-clause-text
returns-clause-text c =
    one_line (text_in c.args.writer.now) (map cell_text c.args.row.now) c.write_cells.new.writer c.end_record.new.self c.flush.new.self
    c.in_ok-write_cells.ensures c.in_default.ensures.bytes c.in_default-flush.ensures.bytes
