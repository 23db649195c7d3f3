use Rattle.std.proofs.Common.{◌≡◌, ◌≤◌, All, take}
use Rattle.plan_model.specs.Checks.{node_kinds}
use Rattle.plan_model.specs.Widths.{widths_of}
use Rattle.plan_model.proofs.Told.{from}
use Rattle.plan_model.proofs.checking.node_fault.Given as goal

abbrev pub invariant-loop-place : goal.invariant-loop-place
invariant-loop-place l = record {
  from_here : from node_kinds l.nodes l.place ≡ from node_kinds l.nodes 0;
  widths : l.widths.items ≡ widths_of (take l.place l.nodes);
  narrow : All (λ width. width ≤ 256) l.widths.items;
}
