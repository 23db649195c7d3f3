-- How the number of free slots changes with a slot.
use Rattle.std.proofs.Common.{◌≡◌, ◌≢◌, ℕ, ◌+◌, ◌*◌, ◌<◌, ◌≤◌, Bool, true, false, not, List, [], ◌∷◌, length, replicate, count_by, get_or, cond, arith, zero, ap, ◌∙◌, sym}
use Rattle.std.proofs.Math.ListN.{set, length-set}
use Rattle.std.proofs.lemmas.List.Folds.{sum_by-replicate}
use Rattle.std.proofs.lemmas.List.{length-replicate, get_or_past, get_or_default, get_or-set_same, get_or-set_other}
use Rattle.slot_pool.specs.declared.slot_id.SlotId.{SlotId}
use Rattle.std.proofs.lemmas.List.Sums.{sum_by-set, sum_by-cons, count_by-le-length}
use Rattle.slot_pool.specs.Pool.{WorkerSlots, idle, worker_of, is_taken, with_slot, free_slots, slots_of, ChangesOnly}

pub count_by-replicate : (n : ℕ) → count_by not (replicate n false) ≡ n
count_by-replicate n = sum_by-replicate (λ taken. cond (not taken) 1 0) n false ∙ omega arith

pub count_by-set : (taken : List Bool) (slot : ℕ) (now : Bool) → slot < length taken →
    count_by not (set taken slot now) + cond (not (get_or taken slot false)) 1 0 ≡ count_by not taken + cond (not now) 1 0
count_by-set taken slot now inside = sum_by-set (λ taken. cond (not taken) 1 0) taken slot now false inside

pub free_slots-replicate : (workers each : ℕ) → free_slots (replicate workers (idle each)) ≡ workers * each
free_slots-replicate workers each =
    sum_by-replicate (λ worker. count_by not worker.taken) workers (idle each) ∙ ap (λ n. workers * n) (count_by-replicate each)

pub slots_of-replicate : (workers each : ℕ) → slots_of (replicate workers (idle each)) ≡ workers * each
slots_of-replicate workers each =
    sum_by-replicate (λ worker. length worker.taken) workers (idle each) ∙ ap (λ n. workers * n) (length-replicate each false)

pub free_slots-le-slots_of : (pool : List WorkerSlots) → free_slots pool ≤ slots_of pool
free_slots-le-slots_of [] = omega arith
free_slots-le-slots_of (worker ∷ pool) =
    omega (
      arith,
      sum_by-cons (λ worker. count_by not worker.taken) worker pool,
      sum_by-cons (λ worker. length worker.taken) worker pool,
      count_by-le-length not worker.taken,
      free_slots-le-slots_of pool,
    )

-- a slot that is taken is there
pub is_taken-inside : (pool : List WorkerSlots) (id : SlotId) → is_taken pool id ≡ true →
    (id.worker < length pool) × (id.slot < length (worker_of pool id.worker).taken)
is_taken-inside pool id taken = (
  grind (arith, get_or_past pool id.worker (idle zero), get_or_past (worker_of pool id.worker).taken id.slot false),
  grind (arith, get_or_past (worker_of pool id.worker).taken id.slot false),
)

pub free_slots-with_slot : (pool : List WorkerSlots) (id : SlotId) (now : Bool) →
    id.worker < length pool → id.slot < length (worker_of pool id.worker).taken →
    free_slots (with_slot pool id now) + cond (not (is_taken pool id)) 1 0 ≡ free_slots pool + cond (not now) 1 0
free_slots-with_slot pool id now inside has =
    let old : WorkerSlots = worker_of pool id.worker in
    let new : WorkerSlots = record old { taken = set old.taken id.slot now } in
    omega (
      arith,
      sum_by-set (λ worker. count_by not worker.taken) pool id.worker new (idle zero) inside,
      count_by-set old.taken id.slot now has,
    )

pub slots_of-with_slot : (pool : List WorkerSlots) (id : SlotId) (now : Bool) →
    id.worker < length pool → slots_of (with_slot pool id now) ≡ slots_of pool
slots_of-with_slot pool id now inside =
    let old : WorkerSlots = worker_of pool id.worker in
    let new : WorkerSlots = record old { taken = set old.taken id.slot now } in
    omega (
      arith,
      sum_by-set (λ worker. length worker.taken) pool id.worker new (idle zero) inside,
      length-set old.taken id.slot now,
    )

-- a slot that is taken is not counted
pub free_slots-lt-slots_of : (pool : List WorkerSlots) (id : SlotId) → is_taken pool id ≡ true → free_slots pool < slots_of pool
free_slots-lt-slots_of pool id taken =
    let inside = is_taken-inside pool id taken in
    let counted : cond (not (is_taken pool id)) 1 0 ≡ zero = ap (λ b. cond (not b) 1 0) taken in
    omega (
      arith,
      free_slots-with_slot pool id false inside.0 inside.1,
      counted,
      slots_of-with_slot pool id false inside.0,
      free_slots-le-slots_of (with_slot pool id false),
    )

-- the worker of this number, as an index reads it
pub worker_of-inside : (pool : List WorkerSlots) (worker : ℕ) (read : WorkerSlots) →
    worker < length pool → read ≡ get_or pool worker read → worker_of pool worker ≡ read
worker_of-inside pool worker read inside is = get_or_default pool worker (idle zero) read inside ∙ sym is

pub is_taken-with_slot : (pool : List WorkerSlots) (id : SlotId) (now : Bool) →
    id.worker < length pool → id.slot < length (worker_of pool id.worker).taken → is_taken (with_slot pool id now) id ≡ now
is_taken-with_slot pool id now inside has = grind (arith, get_or-set_same)

pub is_taken-with_slot_other : (pool : List WorkerSlots) (id : SlotId) (now : Bool) (other : SlotId) →
    id.worker < length pool → other ≢ id → is_taken (with_slot pool id now) other ≡ is_taken pool other
is_taken-with_slot_other pool id now other inside differs = grind (arith, get_or-set_same, get_or-set_other)

pub block_end-with_slot : (pool : List WorkerSlots) (id : SlotId) (now : Bool) (worker : ℕ) →
    id.worker < length pool → (worker_of (with_slot pool id now) worker).block_end ≡ (worker_of pool worker).block_end
block_end-with_slot pool id now worker inside = grind (arith, get_or-set_same, get_or-set_other)

pub ChangesOnly-with_slot : (pool : List WorkerSlots) (id : SlotId) (now : Bool) →
    id.worker < length pool → id.slot < length (worker_of pool id.worker).taken → ChangesOnly pool (with_slot pool id now) id now
ChangesOnly-with_slot pool id now inside has = record {
  changed = is_taken-with_slot pool id now inside has;
  others = λ other. is_taken-with_slot_other pool id now other inside;
  blocks = λ worker. block_end-with_slot pool id now worker inside;
  workers = length-set pool id.worker _;
}
