-- The slots of all workers: a list, by the workers' numbers.
use Rattle.std.specs.Prelude.{◌≡◌, ◌≢◌, ℕ, Bool, false, not, List, Option, replicate, get_or, length, option_map, position, count_by, sum_by, slice_set}
use Rattle.slot_pool.specs.declared.slot_id.SlotId.{SlotId}

-- which slots of a worker are taken, by their numbers, and the millisecond at which its block ends
pub record WorkerSlots : Type 0 where
  pub taken : List Bool
  pub block_end : ℕ

-- a worker with this many slots, all free, that was never blocked
abbrev pub idle : ℕ → WorkerSlots
idle each = record { taken = replicate each false; block_end = 0 }

-- the worker of this number; past the last one, a worker without slots
abbrev pub worker_of : List WorkerSlots → ℕ → WorkerSlots
worker_of pool worker = get_or pool worker (idle 0)

-- whether this is a slot of the pool that is taken
abbrev pub is_taken : List WorkerSlots → SlotId → Bool
is_taken pool id = get_or (worker_of pool id.worker).taken id.slot false

-- the worker's lowest free slot
abbrev pub lowest_free : List WorkerSlots → ℕ → Option SlotId
lowest_free pool worker =
    option_map (λ slot. record { worker = worker; slot = slot })
    (position not (worker_of pool worker).taken)

-- the pool with this slot taken, or free
abbrev pub with_slot : List WorkerSlots → SlotId → Bool → List WorkerSlots
with_slot pool id taken =
    let worker = worker_of pool id.worker in
    slice_set pool id.worker (record worker { taken = slice_set worker.taken id.slot taken })

-- how many slots of all workers are free
abbrev pub free_slots : List WorkerSlots → ℕ
free_slots pool = sum_by (λ worker. count_by not worker.taken) pool

-- how many slots all workers have
abbrev pub slots_of : List WorkerSlots → ℕ
slots_of pool = sum_by (λ worker. length worker.taken) pool

-- this slot is now taken or free; all other slots, the blocks and the number of workers are kept
pub record ChangesOnly (old new : List WorkerSlots) (id : SlotId) (taken : Bool) : Type 0 where
  pub changed : is_taken new id ≡ taken
  pub others : (other : SlotId) → other ≢ id → is_taken new other ≡ is_taken old other
  pub blocks : (worker : ℕ) → (worker_of new worker).block_end ≡ (worker_of old worker).block_end
  pub workers : length new ≡ length old
