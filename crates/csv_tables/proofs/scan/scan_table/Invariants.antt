use Rattle.std.proofs.Common.{◌≡◌, List, ℕ, Some, map}
use Rattle.plan_model.specs.Tables.{row_of}
use Rattle.row_collector.specs.Collecting.{Collects}
use Rattle.row_steps.specs.Chained.{chained, ops_of}
use Rattle.csv_tables.specs.Reading.{HasRead}
use Rattle.csv_tables.proofs.scan.scan_table.Given as goal

abbrev pub invariant-loop : goal.invariant-loop
invariant-loop g l =
    (records : List (List (List ℕ))) × HasRead (λ s. Some s.now) l.reader l.fn.text records
    × (g.C.Collector.width l.out ≡ g.C.Collector.width l.fn.out)
    × (g.C.Collector.kept l.out ≡ g.C.Collector.kept l.fn.out)
    × Collects g.C.Collector.holds l.fn.out l.out (chained (ops_of l.steps) (map (row_of l.kinds) records))
