use Rattle.recover_core.specs.Gone.{GoneBefore}
use Rattle.recover_core.proofs.gone.gone_winners.Given as goal

abbrev pub invariant-loop-vertex : goal.invariant-loop-vertex
invariant-loop-vertex l = GoneBefore l.vertices l.numbers l.held.items (record { vertex = l.vertex; subtask = 0 }) l.gone.items
