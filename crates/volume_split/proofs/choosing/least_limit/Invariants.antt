use Rattle.std.proofs.Common.{◌-◌, ◌<◌, ◌≤◌, length}
use Rattle.volume_split.specs.Runs.{greedy_runs}
use Rattle.volume_split.proofs.choosing.least_limit.Given as goal

abbrev pub invariant-loop-high : goal.invariant-loop-high
invariant-loop-high l = record {
  many : l.most < length (greedy_runs l.low l.sizes);
  few : length (greedy_runs l.high l.sizes) ≤ l.most;
  ordered : l.low < l.high;
}

abbrev pub decreases-loop-high : goal.decreases-loop-high
decreases-loop-high l = l.high - l.low
