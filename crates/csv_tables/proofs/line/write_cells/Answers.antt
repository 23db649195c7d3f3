use Rattle.csv_tables.proofs.Cells.{no_cells}
use Rattle.csv_tables.proofs.line.write_cells.Goals as goal

pub loop-value-init : goal.loop-value-init
loop-value-init c = no_cells c.args.writer.now c.requires
