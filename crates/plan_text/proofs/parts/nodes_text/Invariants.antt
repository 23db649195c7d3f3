use Rattle.std.proofs.Common.{◌≡◌, map, take}
use Rattle.std.specs.Fmt.{decimal}
use Rattle.plan_text.proofs.parts.nodes_text.Given as goal

abbrev pub invariant-loop-node : goal.invariant-loop-node
invariant-loop-node l = l.texts.items ≡ map decimal (take l.node-index l.nodes)
