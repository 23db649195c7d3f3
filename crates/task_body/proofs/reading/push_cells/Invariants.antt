use Rattle.std.proofs.Common.{◌≡◌, take}
use Rattle.std.specs.List.{flat_map}
use Rattle.row_collector.specs.Collecting.{Collects}
use Rattle.task_body.specs.Cells.{cell_rows}
use Rattle.task_body.proofs.reading.push_cells.Given as goal

abbrev pub invariant-loop-cell : goal.invariant-loop-cell
invariant-loop-cell g l = record {
  width : g.C.Collector.width l.out ≡ g.C.Collector.width l.initial.out;
  kept : g.C.Collector.kept l.out ≡ g.C.Collector.kept l.initial.out;
  takes : Collects g.C.Collector.holds l.initial.out l.out (flat_map (cell_rows l.op) (take l.cell-index l.cells));
}
