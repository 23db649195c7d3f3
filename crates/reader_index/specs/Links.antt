-- How reads are kept: in order of their readers, and linked by their producers. A read is named by
-- its place and one, and none by 0.
use Rattle.std.specs.Prelude.{◌≡◌, ℕ, zero, suc, ◌-◌, ◌<◌, ◌≤◌, nat_eq, Bool, List, [], ◌∷◌, length, filter, take, drop, get_or, count_by, All}
use Rattle.reader_index.specs.Tasks.{Tasks, is_of, is_between, missing, undone}
use Rattle.reader_index.specs.declared.read.Read.{Read}

abbrev pub no_read : Read
no_read = record { reader = 0; producer = 0 }

-- the readers at a read and at those of its producer before it, so many at most
abbrev pub chain : List Read → List ℕ → ℕ → ℕ → List ℕ
chain reads earlier zero at = []
chain reads earlier (suc most) zero = []
chain reads earlier (suc most) (suc k) =
    (get_or reads k no_read).reader ∷ chain reads earlier most (get_or earlier k 0)

abbrev pub chain_at : List Read → List ℕ → ℕ → List ℕ
chain_at reads earlier at = chain reads earlier at at

-- a read of tasks below a number
pub record IsInside (count : ℕ) (read : Read) : Type 0 where
  pub reader : read.reader < count
  pub producer : read.producer < count

-- the reads of each producer are linked, beginning with its last
pub record AreLinked (readers producers : ℕ) (reads : List Read)
    (earlier last : List ℕ) : Type 0 where
  pub earlier_len : length earlier ≡ length reads
  pub last_len : length last ≡ producers
  pub readers_inside : All (λ read. read.reader < readers) reads
  pub producers_inside : All (λ read. read.producer < producers) reads
  pub back : (k : ℕ) → get_or earlier k 0 ≤ k
  pub lasts : (p : ℕ) → get_or last p 0 ≤ length reads
  pub chains : (n p : ℕ)
      → count_by (nat_eq n) (chain_at reads earlier (get_or last p 0))
      ≡ count_by (is_between n p) reads

-- where the reads of a task begin: behind those of the task before
abbrev pub start_of : List ℕ → ℕ → ℕ
start_of ends zero = 0
start_of ends (suc n) = get_or ends n 0

-- each task's reads stand together, and end there
pub record AreEnds (reads : List Read) (ends : List ℕ) : Type 0 where
  pub whole : start_of ends (length ends) ≡ length reads
  pub order : (n : ℕ) → n < length ends → start_of ends n ≤ get_or ends n 0
  pub within : (n : ℕ) → get_or ends n 0 ≤ length reads
  pub each : (n : ℕ) → n < length ends
      → take (get_or ends n 0 - start_of ends n) (drop (start_of ends n) reads)
      ≡ filter (is_of n) reads

-- the tasks of these parts
abbrev pub tasks_in : List Read → List Bool → Tasks
tasks_in reads done = record { reads = reads; done = done }

-- by task: the last read from it, where its own reads end, and how many of them wait
pub record IsIndex (tasks : Tasks) (earlier last ends counts : List ℕ)
    (open_tasks : ℕ) : Type 0 where
  pub linked : AreLinked (length tasks.done) (length tasks.done) tasks.reads earlier last
  pub ends_len : length ends ≡ length tasks.done
  pub ended : AreEnds tasks.reads ends
  pub counts_len : length counts ≡ length tasks.done
  pub counted : (n : ℕ) → get_or counts n 0 ≡ missing tasks n
  pub open_count : open_tasks ≡ undone tasks
