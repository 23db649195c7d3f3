use Rattle.std.proofs.Common.{map, take}
use Rattle.plan_model.specs.Sinks.{cell_text}
use Rattle.csv_tables.specs.Writing.{HasCells, text_in}
use Rattle.csv_tables.proofs.line.write_cells.Given as goal

abbrev pub invariant-loop-value : goal.invariant-loop-value
invariant-loop-value l = HasCells (text_in l.fn.writer) (map cell_text (take l.value-index l.row)) l.writer
