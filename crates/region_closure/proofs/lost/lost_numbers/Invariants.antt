use Rattle.std.proofs.Common.{take}
use Rattle.region_closure.specs.Closing.{AreGone}
use Rattle.region_closure.proofs.lost.lost_numbers.Given as goal

abbrev pub invariant-loop-place : goal.invariant-loop-place
invariant-loop-place l = AreGone l.vertices (take l.place l.gone) l.subs l.lost.items
