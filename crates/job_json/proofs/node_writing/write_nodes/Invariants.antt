use Rattle.std.proofs.Common.{◌≡◌, ◌++◌, drop, map}
use Rattle.serde_json.specs.View.{view}
use Rattle.job_json.specs.Spelling.{node_value}
use Rattle.job_json.proofs.node_writing.write_nodes.Given as goal

abbrev pub invariant-loop-node : goal.invariant-loop-node
invariant-loop-node l = map view l.values.items ++ map node_value (drop l.node-index l.nodes) ≡ map node_value l.nodes
