use Rattle.std.proofs.Common.{◌<◌, length}
use Rattle.number_set.specs.Levels.{level_at}
use Rattle.number_set.specs.Members.{IsFirst}
use Rattle.number_set.proofs.levels.first_mark.Given as goal

abbrev pub invariant-loop-level : goal.invariant-loop-level
invariant-loop-level l = (l.level < length l.levels) × IsFirst (level_at l.levels l.level) l.at

abbrev pub decreases-loop-level : goal.decreases-loop-level
decreases-loop-level l = l.level
