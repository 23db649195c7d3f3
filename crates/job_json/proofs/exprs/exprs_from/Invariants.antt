use Rattle.std.proofs.Common.{◌≡◌, IsTrue, drop, map}
use Rattle.std.specs.List.{list_all}
use Rattle.serde_json.specs.View.{view}
use Rattle.expr_json.specs.Ranges.{has_utf8_texts}
use Rattle.expr_json.specs.Reading.{expr_of}
use Rattle.job_json.specs.Members.{each}
use Rattle.job_json.proofs.Shapes.{with_front}
use Rattle.job_json.proofs.exprs.exprs_from.Given as goal

abbrev pub invariant-loop-item : goal.invariant-loop-item
invariant-loop-item l = record {
  reads : with_front l.exprs.items (each expr_of (map view (drop l.item-index l.items))) ≡ each expr_of (map view l.items);
  texts : IsTrue (list_all has_utf8_texts l.exprs.items);
}
