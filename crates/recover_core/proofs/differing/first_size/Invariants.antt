use Rattle.std.proofs.Common.{◌≡◌, ◌≤◌, length, take}
use Rattle.recover_core.proofs.differing.first_size.Given as goal

abbrev pub invariant-loop-at : goal.invariant-loop-at
invariant-loop-at l = (take l.at l.old ≡ take l.at l.new) × (l.at ≤ length l.new)
