use Rattle.std.proofs.Common.{take}
use Rattle.region_closure.specs.Closing.{AreAwaited}
use Rattle.region_closure.proofs.awaited.awaited_numbers.Given as goal

abbrev pub invariant-loop-number : goal.invariant-loop-number
invariant-loop-number l = AreAwaited l.vertices l.subs (take l.number-index l.lost) l.awaited.items
