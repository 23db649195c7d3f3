use Rattle.std.proofs.Common.{◌≡◌, ◌*◌, sym, ap, ◌∙◌, arith, replicate}
use Rattle.slot_pool.specs.Pool.{idle, free_slots, slots_of}
use Rattle.slot_pool.proofs.Counts.{free_slots-replicate, slots_of-replicate}
use Rattle.slot_pool.proofs.slots.Slots.new.Goals as goal

pub invariant_of-result : goal.invariant_of-result
invariant_of-result c =
    let all : c.loop.pool.items ≡ replicate c.args.workers (idle c.args.each) =
    c.loop.invariant ∙ ap (λ n. replicate n (idle c.args.each)) (omega arith) in
    let free : free_slots c.loop.pool.items ≡ c.args.workers * c.args.each =
    ap free_slots all ∙ free_slots-replicate c.args.workers c.args.each in
    let slots : slots_of c.loop.pool.items ≡ c.args.workers * c.args.each =
    ap slots_of all ∙ slots_of-replicate c.args.workers c.args.each in
    (sym free, omega arith)
