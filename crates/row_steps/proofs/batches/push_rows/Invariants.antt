use Rattle.std.proofs.Common.{◌≡◌, ◌++◌, List, length}
use Rattle.bag_laws.specs.Rows.{OneRow as Row}
use Rattle.row_collector.specs.Collecting.{Collects}
use Rattle.row_steps.specs.Chained.{chained, ops_of}
use Rattle.row_steps.proofs.batches.push_rows.Given as goal

abbrev pub invariant-loop-row : goal.invariant-loop-row
invariant-loop-row g l =
    (done : List Row) × (l.fn.rows ≡ done ++ l.reader) × (g.C.Collector.width l.out ≡ g.C.Collector.width l.fn.out)
    × (g.C.Collector.kept l.out ≡ g.C.Collector.kept l.fn.out)
    × Collects g.C.Collector.holds l.fn.out l.out (chained (ops_of l.steps) done)

abbrev pub decreases-loop-row : goal.decreases-loop-row
decreases-loop-row g l = length l.reader
