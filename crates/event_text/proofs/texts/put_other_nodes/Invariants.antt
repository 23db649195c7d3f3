use Rattle.std.proofs.Common.{◌≡◌, ◌++◌, take}
use Rattle.std.specs.Fmt.{decimal}
use Rattle.event_text.specs.Lines.{behind_commas}
use Rattle.event_text.proofs.texts.put_other_nodes.Given as goal

abbrev pub invariant-loop-node : goal.invariant-loop-node
invariant-loop-node l = l.text ≡ l.fn.text ++ behind_commas decimal (take l.node-index l.nodes)
