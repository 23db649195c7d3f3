use Rattle.std.proofs.Common.{◌≡◌, map, take}
use Rattle.plan_model.specs.Checks.{same_sink_kinds, sink_names}
use Rattle.plan_model.proofs.Told.{from}
use Rattle.plan_model.proofs.checking.same_sink_fault.Given as goal

abbrev pub invariant-loop-place : goal.invariant-loop-place
invariant-loop-place l = record {
  from_here : from same_sink_kinds l.nodes l.place ≡ from same_sink_kinds l.nodes 0;
  names : map (λ key. key.now) l.names.keys ≡ sink_names (take l.place l.nodes);
}
