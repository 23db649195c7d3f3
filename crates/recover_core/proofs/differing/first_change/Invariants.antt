use Rattle.std.proofs.Common.{◌≡◌, take}
use Rattle.recover_core.proofs.differing.first_change.Given as goal

abbrev pub invariant-loop-table : goal.invariant-loop-table
invariant-loop-table l = take l.table l.old ≡ take l.table l.new
