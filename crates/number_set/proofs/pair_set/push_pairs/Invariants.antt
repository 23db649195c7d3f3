use Rattle.std.proofs.Common.{◌≡◌, ◌++◌, map, take}
use Rattle.number_set.specs.Pairs.{pair_of}
use Rattle.number_set.proofs.pair_set.push_pairs.Given as goal

abbrev pub invariant-loop-place : goal.invariant-loop-place
invariant-loop-place l = l.found.items ≡ l.initial.found.items ++ map (pair_of l.group) (take l.place l.members.items)
