use Rattle.std.proofs.Common.{◌≡◌, take}
use Rattle.op_join.specs.Probes.{probe_outputs}
use Rattle.op_join.proofs.probe.Probe.rows.Given as goal

abbrev pub invariant-loop-row : goal.invariant-loop-row
invariant-loop-row l = l.out ≡ probe_outputs l.self (take l.row-index l.rows)
