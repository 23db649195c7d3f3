use Rattle.std.proofs.Common.{◌≡◌, ◌<◌, length}
use Rattle.number_set.specs.Levels.{level_at}
use Rattle.number_set.specs.Members.{members}
use Rattle.number_set.proofs.levels.marked_places.Given as goal

abbrev pub invariant-loop-level : goal.invariant-loop-level
invariant-loop-level l = (l.level < length l.levels) × (l.found.items ≡ members (level_at l.levels l.level))

abbrev pub decreases-loop-level : goal.decreases-loop-level
decreases-loop-level l = l.level
