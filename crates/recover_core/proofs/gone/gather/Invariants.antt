use Rattle.recover_core.specs.Gone.{GoneBefore}
use Rattle.recover_core.proofs.gone.gather.Given as goal

abbrev pub invariant-loop-subtask : goal.invariant-loop-subtask
invariant-loop-subtask l = GoneBefore l.vertices l.numbers l.held (record { vertex = l.vertex; subtask = l.subtask }) l.gone.items
