use Rattle.std.proofs.Common.{◌++◌, ◌-◌, ◌≤◌, List, map, take, length}
use Rattle.bag_laws.specs.Rows.{OneRow}
use Rattle.op_unary.specs.Groups.{AreGroupsOf}
use Rattle.op_unary.proofs.grouping.with_runs.Given as goal

abbrev pub invariant-loop-start : goal.invariant-loop-start
invariant-loop-start l = record {
  within : l.start ≤ length l.sorted;
  holds : (before : List OneRow) → AreGroupsOf l.keys l.aggs l.fn.groups.items before → AreGroupsOf l.keys l.aggs l.all.items (before ++ map (λ keyed. keyed.row.now) (take l.start l.sorted));
}

abbrev pub decreases-loop-start : goal.decreases-loop-start
decreases-loop-start l = length l.sorted - l.start
