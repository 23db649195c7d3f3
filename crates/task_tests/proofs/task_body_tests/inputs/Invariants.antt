use Rattle.std.proofs.Common.{◌≡◌, map, take}
use Rattle.task_tests.proofs.task_body_tests.inputs.Given as goal

abbrev pub invariant-loop-width : goal.invariant-loop-width
invariant-loop-width l = map (λ input. input.width) l.inputs.items ≡ take l.width-index l.widths
