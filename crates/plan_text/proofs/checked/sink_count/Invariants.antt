use Rattle.std.proofs.Common.{◌≡◌, ◌≤◌, take}
use Rattle.plan_text.specs.Checked.{sink_count}
use Rattle.plan_text.proofs.checked.sink_count.Given as goal

abbrev pub invariant-loop-node : goal.invariant-loop-node
invariant-loop-node l = record {
  counted : l.count ≡ sink_count (take l.node-index l.nodes);
  few : l.count ≤ l.node-index;
}
