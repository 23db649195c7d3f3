use Rattle.std.proofs.Common.{◌≡◌, drop, map}
use Rattle.serde_json.specs.View.{view}
use Rattle.job_json.specs.Members.{each}
use Rattle.job_json.specs.Parts.{agg_in}
use Rattle.job_json.proofs.Shapes.{with_front}
use Rattle.job_json.proofs.aggs.aggs_from.Given as goal

abbrev pub invariant-loop-item : goal.invariant-loop-item
invariant-loop-item l = with_front l.aggs.items (each agg_in (map view (drop l.item-index l.items))) ≡ each agg_in (map view l.items)
