use Rattle.std.proofs.Common.{◌≡◌, ◌+◌, ◌≤◌, drop}
use Rattle.volume_split.proofs.Filling.{count_from}
use Rattle.volume_split.proofs.cutting.count_runs.Given as goal

-- the runs so far, with those that what is left adds, are all of them
abbrev pub invariant-loop-size : goal.invariant-loop-size
invariant-loop-size l = record {
  all : l.count + count_from l.limit l.total (drop l.size-index l.rest) ≡ 1 + count_from l.limit l.initial.total l.rest;
  small : l.count ≤ l.size-index + 1;
}
