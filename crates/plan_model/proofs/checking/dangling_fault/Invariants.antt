use Rattle.std.proofs.Common.{◌≡◌}
use Rattle.plan_model.specs.Checks.{dangling_kinds}
use Rattle.plan_model.proofs.Told.{from}
use Rattle.plan_model.proofs.checking.dangling_fault.Given as goal

abbrev pub invariant-loop-place : goal.invariant-loop-place
invariant-loop-place l = from (dangling_kinds l.nodes) l.nodes l.place ≡ from (dangling_kinds l.nodes) l.nodes 0
