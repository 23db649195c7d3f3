use Rattle.std.proofs.Common.{◌≡◌, take}
use Rattle.row_groups.specs.Accumulators.{states_of}
use Rattle.row_groups.specs.Written.{groups_bytes}
use Rattle.row_groups.proofs.written.write_groups.Given as goal

abbrev pub invariant-loop-place : goal.invariant-loop-place
invariant-loop-place l = l.bytes ≡ groups_bytes l.width (take l.place l.keys) (take l.place (states_of l.groups))
