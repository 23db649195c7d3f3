use Rattle.std.proofs.Common.{◌≡◌, map, take}
use Rattle.task_body.specs.Inputs.{width_into}
use Rattle.task_body.proofs.widths.input_widths.Given as goal

abbrev pub invariant-loop-input : goal.invariant-loop-input
invariant-loop-input l = l.found.items ≡ map (width_into l.plan) (take l.input-index l.inputs)
