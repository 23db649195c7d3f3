use Rattle.std.proofs.Common.{◌≡◌, List, true, false, get_or, sym, ap, subst, ◌∙◌, arith, cond, not, zero}
use Rattle.std.proofs.Math.ListN.{set}
use Rattle.slot_pool.specs.Pool.{WorkerSlots, worker_of, is_taken, with_slot}
use Rattle.slot_pool.proofs.Counts.{worker_of-inside, is_taken-inside, free_slots-lt-slots_of, free_slots-with_slot, slots_of-with_slot, ChangesOnly-with_slot}
use Rattle.slot_pool.proofs.slots.Slots.give.Goals as goal

pub overflow_add-self : goal.overflow_add-self
overflow_add-self c =
    let pool : List WorkerSlots = c.self.inside.workers.items in
    let taken : is_taken pool c.args.slot ≡ true = subst (λ v. is_taken v c.args.slot ≡ true) (sym c.self.view_is) c.requires in
    omega (arith, free_slots-lt-slots_of pool c.args.slot taken)

pub invariant_of-self : goal.invariant_of-self
invariant_of-self c =
    let pool : List WorkerSlots = c.self.inside.workers.items in
    let taken : is_taken pool c.args.slot ≡ true = subst (λ v. is_taken v c.args.slot ≡ true) (sym c.self.view_is) c.requires in
    let inside = is_taken-inside pool c.args.slot taken in
    let lent : worker_of pool c.args.slot.worker ≡ c.index_mut.result.now =
    worker_of-inside pool c.args.slot.worker c.index_mut.result.now inside.0 c.index_mut.ensures.value in
    let new : set pool c.args.slot.worker c.mark.new.self ≡ with_slot pool c.args.slot false = cc in
    let counted : cond (not (is_taken pool c.args.slot)) 1 0 ≡ zero = ap (λ b. cond (not b) 1 0) taken in
    let free = free_slots-with_slot pool c.args.slot false inside.0 inside.1 in
    let slots = slots_of-with_slot pool c.args.slot false inside.0 in
    rw new (omega arith, omega arith)

pub returns-clause-others : goal.returns-clause-others
returns-clause-others c =
    let pool : List WorkerSlots = c.args.self.now in
    let inside = is_taken-inside pool c.args.slot c.requires in
    let lent : worker_of pool c.args.slot.worker ≡ c.index_mut.result.now =
    worker_of-inside pool c.args.slot.worker c.index_mut.result.now inside.0 (c.index_mut.ensures.value ∙ ap (λ v. get_or v c.args.slot.worker c.index_mut.result.now) c.self.view_is) in
    let new : set c.self.inside.workers.items c.args.slot.worker c.mark.new.self ≡ with_slot pool c.args.slot false = cc in
    rw new (ChangesOnly-with_slot pool c.args.slot false inside.0 inside.1)
