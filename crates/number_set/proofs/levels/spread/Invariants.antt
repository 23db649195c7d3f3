use Rattle.std.proofs.Common.{◌≡◌, take}
use Rattle.std.specs.List.{flat_map}
use Rattle.number_set.specs.Levels.{marked_below}
use Rattle.number_set.proofs.levels.spread.Given as goal

abbrev pub invariant-loop-place : goal.invariant-loop-place
invariant-loop-place l = l.found.items ≡ flat_map (marked_below l.below) (take l.place l.above)
