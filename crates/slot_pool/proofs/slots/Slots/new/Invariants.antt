use Rattle.std.proofs.Common.{◌≡◌, replicate}
use Rattle.slot_pool.specs.Pool.{idle}
use Rattle.slot_pool.proofs.slots.Slots.new.Given as goal

abbrev pub invariant-loop : goal.invariant-loop
invariant-loop l = l.pool.items ≡ replicate l.counter (idle l.each)
