use Rattle.std.proofs.Common.{◌≡◌, drop, map}
use Rattle.serde_json.specs.View.{view}
use Rattle.job_json.specs.Members.{each}
use Rattle.job_json.specs.Parts.{column_in}
use Rattle.job_json.proofs.Shapes.{with_front}
use Rattle.job_json.proofs.columns.columns_from.Given as goal

abbrev pub invariant-loop-item : goal.invariant-loop-item
invariant-loop-item l = with_front l.columns.items (each column_in (map view (drop l.item-index l.items))) ≡ each column_in (map view l.items)
