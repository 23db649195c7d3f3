use Rattle.std.proofs.Common.{take}
use Rattle.std.specs.List.{AllZip}
use Rattle.row_cells.specs.Cutting.{IsCutInto}
use Rattle.task_body.proofs.outputs.cut_each.Given as goal

abbrev pub invariant-loop-output : goal.invariant-loop-output
invariant-loop-output l = AllZip (λ output cells. IsCutInto l.width l.attempt output l.rows cells) (take l.output-index l.outputs) l.edges
