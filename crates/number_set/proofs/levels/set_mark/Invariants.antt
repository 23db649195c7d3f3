use Rattle.number_set.proofs.Rising.{IsUnderway}
use Rattle.number_set.proofs.levels.set_mark.Given as goal

abbrev pub invariant-loop-above : goal.invariant-loop-above
invariant-loop-above l = IsUnderway l.fn.levels.items l.levels.items l.place l.mark l.above l.at
