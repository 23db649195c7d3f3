use Rattle.std.proofs.Common.{All}
use Rattle.task_body.specs.Cells.{HasWidth}
use Rattle.task_tests.proofs.task_body_tests.input.Given as goal

abbrev pub invariant-loop-one : goal.invariant-loop-one
invariant-loop-one l = All (HasWidth l.width) l.cells.items
