use Rattle.std.proofs.Common.{◌≡◌, take}
use Rattle.plan_model.specs.Checks.{all_inputs}
use Rattle.plan_model.proofs.checking.all_inputs.Given as goal

abbrev pub invariant-loop-node : goal.invariant-loop-node
invariant-loop-node l = l.inputs.items ≡ all_inputs (take l.node-index l.nodes)
