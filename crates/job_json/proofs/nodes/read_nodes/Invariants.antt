use Rattle.std.proofs.Common.{◌≡◌, IsTrue, drop, map}
use Rattle.std.specs.List.{list_all}
use Rattle.serde_json.specs.View.{view}
use Rattle.job_json.specs.Nodes.{nodes_from}
use Rattle.job_json.specs.WellFormed.{has_utf8_texts_in}
use Rattle.job_json.proofs.Shapes.{nodes_then}
use Rattle.job_json.proofs.nodes.read_nodes.Given as goal

abbrev pub invariant-loop-number : goal.invariant-loop-number
invariant-loop-number l = record {
  reads : nodes_then l.nodes.items (nodes_from l.number (map view (drop l.number l.items))) ≡ nodes_from 0 (map view l.items);
  texts : IsTrue (list_all has_utf8_texts_in l.nodes.items);
}
