use Rattle.std.proofs.Common.{◌≡◌, ◌≤◌, All, take}
use Rattle.plan_model.specs.Widths.{widths_of}
use Rattle.task_body.proofs.widths.node_widths.Given as goal

abbrev pub invariant-loop-node : goal.invariant-loop-node
invariant-loop-node l = record {
  widths : l.widths.items ≡ widths_of (take l.node-index l.nodes);
  narrow : All (λ width. width ≤ 256) l.widths.items;
}
