use Rattle.std.proofs.Common.{◌≡◌, ◌<◌, ◌≤◌, ℕ, All, get_or, length}
use Rattle.plan_model.specs.declared.node.Node.{Node}
use Rattle.plan_eval.proofs.takers.last_takers.Given as goal

abbrev pub invariant-loop-place : goal.invariant-loop-place
invariant-loop-place l = record {
  long : length l.last.items ≡ length l.nodes;
  taken : (other : ℕ) (node : Node) → other < l.place → node ≡ get_or l.nodes other node
      → All (λ input. input < length l.nodes → other ≤ get_or l.last.items input 0) node.inputs;
}
