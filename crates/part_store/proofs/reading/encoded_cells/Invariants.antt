use Rattle.part_store.proofs.Reached.{Reached}
use Rattle.part_store.proofs.reading.encoded_cells.Given as goal

abbrev pub invariant-loop-cell : goal.invariant-loop-cell
invariant-loop-cell g l = Reached l.name l.edge l.s0 l.s1 l.cell l.width (g.E.Estate.world l.initial.estate) (g.E.Estate.world l.estate) l.cells
