use Rattle.std.proofs.Common.{take}
use Rattle.recover_core.specs.Gone.{AreHeld}
use Rattle.recover_core.proofs.gone.held_marks.Given as goal

abbrev pub invariant-loop-place : goal.invariant-loop-place
invariant-loop-place l = AreHeld l.vertices l.numbers (take l.place l.names) l.marks.items
