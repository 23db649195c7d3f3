use Rattle.std.proofs.Common.{◌≡◌, ◌≤◌, ◌-◌, ◌+◌, ℕ, None, get_or, length}
use Rattle.graph_vertices.proofs.makers.cover_node.Given as goal

abbrev pub invariant-loop-makers : goal.invariant-loop-makers
invariant-loop-makers l = ((n : ℕ) → get_or l.makers.items n None ≡ get_or l.initial.makers.items n None) × (length l.initial.makers.items ≤ length l.makers.items)

abbrev pub decreases-loop-makers : goal.decreases-loop-makers
decreases-loop-makers l = (l.node + 1) - length l.makers.items
