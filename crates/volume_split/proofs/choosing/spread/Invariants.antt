use Rattle.std.proofs.Common.{◌≡◌, map}
use Rattle.std.specs.List.{range_with_len}
use Rattle.volume_split.specs.Groups.{even_group}
use Rattle.volume_split.proofs.choosing.spread.Given as goal

abbrev pub invariant-loop-k : goal.invariant-loop-k
invariant-loop-k l = l.groups.items ≡ map (even_group l.n l.m) (range_with_len 0 l.k)
