use Rattle.std.proofs.Common.{ℕ, ◌<◌}
use Rattle.std.specs.Prelude.{IsTrue}
use Rattle.graph_model.specs.States.{vertex_at, maker, is_decided}
use Rattle.graph_vertices.proofs.made_vertices.are_decided.Given as goal

abbrev pub invariant-loop-node : goal.invariant-loop-node
invariant-loop-node l = (k : ℕ) → k < l.node → IsTrue (is_decided (vertex_at l.vertices (maker l.vertices k)))
