use Rattle.std.proofs.Common.{◌≡◌, ◌<◌, List, true, false, get_or, length, sym, ap, subst, ◌∙◌, arith, cond, not, suc, refl}
use Rattle.std.proofs.Math.ListN.{set}
use Rattle.slot_pool.specs.declared.slot_id.SlotId.{SlotId}
use Rattle.slot_pool.specs.Pool.{WorkerSlots, worker_of, is_taken, with_slot}
use Rattle.slot_pool.proofs.Counts.{worker_of-inside, free_slots-with_slot, slots_of-with_slot, ChangesOnly-with_slot}
use Rattle.slot_pool.proofs.slots.Slots.take.Goals as goal

pub returns-in_err-slot-clause-none : goal.returns-in_err-slot-clause-none
returns-in_err-slot-clause-none c =
    let read : worker_of c.args.self.now c.args.worker ≡ c.index.result.now =
    worker_of-inside c.args.self.now c.args.worker c.index.result.now c.requires (c.index.ensures ∙ ap (λ v. get_or v c.args.worker c.index.result.now) c.self.view_is) in
    rw (c.from_residual.ensures, read) c.in_err-slot.ensures.none

pub overflow_sub-self : goal.overflow_sub-self
overflow_sub-self c =
    let pool : List WorkerSlots = c.self.inside.workers.items in
    let id : SlotId = record { worker = c.args.worker; slot = c.in_ok-slot.slot } in
    let inside : c.args.worker < length pool = subst (λ v. c.args.worker < length v) (sym c.self.view_is) c.requires in
    let read : worker_of pool c.args.worker ≡ c.index.result.now = worker_of-inside pool c.args.worker c.index.result.now inside c.index.ensures in
    let has : c.in_ok-slot.slot < length (worker_of pool c.args.worker).taken = rw read c.in_ok-slot.ensures.free.0 in
    let was : is_taken pool id ≡ false = rw read c.in_ok-slot.ensures.free.1 in
    let counted : cond (not (is_taken pool id)) 1 0 ≡ suc 0 = ap (λ b. cond (not b) 1 0) was in
    omega (arith, free_slots-with_slot pool id true inside has)

pub invariant_of-self : goal.invariant_of-self
invariant_of-self c =
    let pool : List WorkerSlots = c.self.inside.workers.items in
    let id : SlotId = record { worker = c.args.worker; slot = c.in_ok-slot.slot } in
    let inside : c.args.worker < length pool = subst (λ v. c.args.worker < length v) (sym c.self.view_is) c.requires in
    let read : worker_of pool c.args.worker ≡ c.index.result.now = worker_of-inside pool c.args.worker c.index.result.now inside c.index.ensures in
    let lent : worker_of pool c.args.worker ≡ c.index_mut.result.now = worker_of-inside pool c.args.worker c.index_mut.result.now inside c.index_mut.ensures.value in
    let has : c.in_ok-slot.slot < length (worker_of pool c.args.worker).taken = rw read c.in_ok-slot.ensures.free.0 in
    let was : is_taken pool id ≡ false = rw read c.in_ok-slot.ensures.free.1 in
    let counted : cond (not (is_taken pool id)) 1 0 ≡ suc 0 = ap (λ b. cond (not b) 1 0) was in
    let new : set pool c.args.worker c.mark.new.self ≡ with_slot pool id true = cc in
    let free = free_slots-with_slot pool id true inside has in
    let slots = slots_of-with_slot pool id true inside in
    rw new (omega arith, omega arith)

pub returns-clause-free : goal.returns-clause-free
returns-clause-free c =
    let read : worker_of c.args.self.now c.args.worker ≡ c.index.result.now =
    worker_of-inside c.args.self.now c.args.worker c.index.result.now c.requires (c.index.ensures ∙ ap (λ v. get_or v c.args.worker c.index.result.now) c.self.view_is) in
    rw read (refl, λ taken. let clash : false ≡ true = sym c.in_ok-slot.ensures.free.1 ∙ taken in cc)

pub returns-clause-others : goal.returns-clause-others
returns-clause-others c =
    let pool : List WorkerSlots = c.args.self.now in
    let id : SlotId = record { worker = c.args.worker; slot = c.in_ok-slot.slot } in
    let read : worker_of pool c.args.worker ≡ c.index.result.now =
    worker_of-inside pool c.args.worker c.index.result.now c.requires (c.index.ensures ∙ ap (λ v. get_or v c.args.worker c.index.result.now) c.self.view_is) in
    let lent : worker_of pool c.args.worker ≡ c.index_mut.result.now =
    worker_of-inside pool c.args.worker c.index_mut.result.now c.requires (c.index_mut.ensures.value ∙ ap (λ v. get_or v c.args.worker c.index_mut.result.now) c.self.view_is) in
    let has : c.in_ok-slot.slot < length (worker_of pool c.args.worker).taken = rw read c.in_ok-slot.ensures.free.0 in
    let new : set c.self.inside.workers.items c.args.worker c.mark.new.self ≡ with_slot pool id true = cc in
    rw new (ChangesOnly-with_slot pool id true c.requires has)

pub returns-clause-none : goal.returns-clause-none
returns-clause-none c =
    let read : worker_of c.args.self.now c.args.worker ≡ c.index.result.now =
    worker_of-inside c.args.self.now c.args.worker c.index.result.now c.requires (c.index.ensures ∙ ap (λ v. get_or v c.args.worker c.index.result.now) c.self.view_is) in
    rw read (c.in_ok-slot.ensures.none)
