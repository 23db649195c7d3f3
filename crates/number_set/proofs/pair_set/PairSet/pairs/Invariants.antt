use Rattle.std.proofs.Common.{◌≡◌, take}
use Rattle.std.specs.List.{flat_map}
use Rattle.number_set.specs.Pairs.{pairs_at}
use Rattle.number_set.proofs.pair_set.PairSet.pairs.Given as goal

abbrev pub invariant-loop-place : goal.invariant-loop-place
invariant-loop-place l = l.found.items ≡ flat_map (pairs_at l.self-inside.groups.items) (take l.place l.filled.items)
