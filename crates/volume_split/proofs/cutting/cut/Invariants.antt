use Rattle.std.proofs.Common.{◌≡◌, ◌+◌, ◌++◌, drop}
use Rattle.volume_split.proofs.Filling.{cut_from}
use Rattle.volume_split.proofs.cutting.cut.Given as goal

-- the groups so far, with those that what is left adds, are all of them
abbrev pub invariant-loop-size : goal.invariant-loop-size
invariant-loop-size l = record {
  all : l.groups.items ++ cut_from l.limit l.group.start l.group.end l.total (drop l.size-index l.rest) ≡ cut_from l.limit 0 1 l.initial.total l.rest;
  at : l.group.end ≡ l.size-index + 1;
}
