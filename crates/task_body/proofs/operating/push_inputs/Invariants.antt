use Rattle.std.proofs.Common.{◌≡◌, List, take}
use Rattle.std.specs.List.{flat_map}
use Rattle.bag_laws.specs.Rows.{OneRow as Row}
use Rattle.row_collector.specs.Collecting.{Collects}
use Rattle.row_core.specs.Bags.{SameBag}
use Rattle.task_body.specs.Inputs.{input_rows}
use Rattle.task_body.proofs.operating.push_inputs.Given as goal

abbrev pub invariant-loop-input : goal.invariant-loop-input
invariant-loop-input g l = record {
  width : g.C.Collector.width l.out ≡ g.C.Collector.width l.initial.out;
  kept : g.C.Collector.kept l.out ≡ g.C.Collector.kept l.initial.out;
  takes : (read : List Row) × (SameBag read (flat_map (input_rows l.op) (take l.input-index l.inputs)) × Collects g.C.Collector.holds l.initial.out l.out read);
}
