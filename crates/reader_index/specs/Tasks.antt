-- Numbered tasks that read from earlier ones, and which of them are done.
use Rattle.std.specs.Prelude.{ℕ, nat_eq, Bool, false, not, ◌&&◌, List, [], ◌∷◌, ◌++◌, length, map, filter, get_or, set, count_by}
use Rattle.reader_index.specs.declared.read.Read.{Read}

-- who reads from whom, in order of the readers, and whether each task is done
pub record Tasks : Type 0 where
  pub reads : List Read
  pub done : List Bool

abbrev pub no_tasks : Tasks
no_tasks = record { reads = []; done = [] }

abbrev pub is_done : List Bool → ℕ → Bool
is_done done n = get_or done n false

-- the read is this task's
abbrev pub is_of : ℕ → Read → Bool
is_of n read = nat_eq n read.reader

-- the read is this task's, from the producer
abbrev pub is_between : ℕ → ℕ → Read → Bool
is_between n p read = nat_eq n read.reader && nat_eq p read.producer

-- what a task reads
abbrev pub reads_of : Tasks → ℕ → List Read
reads_of tasks n = filter (is_of n) tasks.reads

-- the read is this task's, from a producer that isn't done
abbrev pub is_waiting : List Bool → ℕ → Read → Bool
is_waiting done n read = is_of n read && not (is_done done read.producer)

-- how many of a task's reads are from producers that aren't done
abbrev pub missing : Tasks → ℕ → ℕ
missing tasks n = count_by (is_waiting tasks.done n) tasks.reads

-- how many tasks aren't done
abbrev pub undone : Tasks → ℕ
undone tasks = count_by not tasks.done

-- ---- changes

abbrev pub read_by : ℕ → ℕ → Read
read_by reader producer = record { reader = reader; producer = producer }

-- one task more, that reads from these and isn't done
abbrev pub with_task : Tasks → List ℕ → Tasks
with_task tasks producers = record {
  reads = tasks.reads ++ map (read_by (length tasks.done)) producers;
  done = tasks.done ++ false ∷ [];
}

-- and several
abbrev pub with_tasks : Tasks → List (List ℕ) → Tasks
with_tasks tasks [] = tasks
with_tasks tasks (producers ∷ more) = with_tasks (with_task tasks producers) more

-- the task is done, or no longer
abbrev pub with_done : Tasks → ℕ → Bool → Tasks
with_done tasks n done = record tasks { done = set tasks.done n done }
