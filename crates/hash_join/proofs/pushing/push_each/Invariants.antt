use Rattle.std.proofs.Common.{◌≡◌, ◌++◌, List, length, map}
use Rattle.bag_laws.specs.Rows.{OneRow as Row}
use Rattle.hash_join.specs.Rules.{pair}
use Rattle.row_collector.specs.Collecting.{Collects}
use Rattle.row_steps.specs.Chained.{chained, ops_of}
use Rattle.row_view.specs.Views.{row_seen}
use Rattle.hash_join.proofs.pushing.push_each.Given as goal

abbrev pub invariant-loop-other : goal.invariant-loop-other
invariant-loop-other g l =
    (done : List Row) × (l.fn.reader ≡ done ++ l.reader) × (g.C.Collector.width l.out ≡ g.C.Collector.width l.fn.out)
    × (g.C.Collector.kept l.out ≡ g.C.Collector.kept l.fn.out)
    × Collects g.C.Collector.holds l.fn.out l.out (chained (ops_of l.steps) (map (pair l.side (row_seen l.row)) done))

abbrev pub decreases-loop-other : goal.decreases-loop-other
decreases-loop-other g l = length l.reader
