use Rattle.recover_core.specs.Unfinished.{AllWon}
use Rattle.recover_core.proofs.unfinished.first_unwon.Given as goal

abbrev pub invariant-loop-k : goal.invariant-loop-k
invariant-loop-k l = AllWon l.subtasks l.k
