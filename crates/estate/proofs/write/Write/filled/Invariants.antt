use Rattle.std.proofs.Common.{◌≡◌, take, map}
use Rattle.estate.proofs.write.Write.filled.Given as goal

abbrev pub invariant-loop : goal.invariant-loop
invariant-loop l = l.bytes ≡ map (λ _. 255) (take l.index l.items)
