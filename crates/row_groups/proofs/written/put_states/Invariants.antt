use Rattle.std.proofs.Common.{◌≡◌, ◌++◌, map, take}
use Rattle.row_core.specs.Encoding.{values_bytes}
use Rattle.row_groups.specs.Accumulators.{finish}
use Rattle.row_groups.proofs.written.put_states.Given as goal

abbrev pub invariant-loop-state : goal.invariant-loop-state
invariant-loop-state l = l.bytes ≡ l.fn.bytes ++ values_bytes (map finish (take l.state-index l.states))
