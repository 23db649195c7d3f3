-- Which tasks run again where results of some are gone: the least set with these rules.
use Rattle.std.specs.Prelude.{◌≡◌, ◌≢◌, ◌⊎◌, ◌<◌, ℕ, Bool, true, false, IsTrue, List, length, All, AllPairs, Contains}
use Rattle.reader_index.specs.Tasks.{Tasks, is_done}
use Rattle.reader_index.specs.declared.read.Read.{Read}

-- a read by the one task from the other
abbrev pub Reads : Tasks → ℕ → ℕ → Type 0
Reads tasks reader producer =
    (read : Read) × Contains tasks.reads read × (read.reader ≡ reader) × (read.producer ≡ producer)

-- a reader of the task that isn't done
abbrev pub HasOpenReader : Tasks → ℕ → Type 0
HasOpenReader tasks n =
    (reader : ℕ) × Reads tasks reader n × (is_done tasks.done reader ≡ false)

-- a task whose result is wanted whatever else runs again: awaited from outside, or gone where a
-- reader isn't done
abbrev pub IsWanted : Tasks → List ℕ → List ℕ → ℕ → Type 0
IsWanted tasks gone awaited n = Contains awaited n ⊎ (Contains gone n × HasOpenReader tasks n)

-- where the one runs again, so does the other: a reader of it that is done, or a producer whose
-- result is gone
abbrev pub LeadsTo : Tasks → List ℕ → ℕ → ℕ → Type 0
LeadsTo tasks gone n m =
    (Reads tasks m n × (is_done tasks.done m ≡ true)) ⊎ (Reads tasks n m × Contains gone m)

-- the rules don't lead out of the set
pub record IsClosed (tasks : Tasks) (gone awaited : List ℕ) (set : ℕ → Type 0) : Type 0 where
  pub first : (n : ℕ) → IsWanted tasks gone awaited n → set n
  pub onward : (n m : ℕ) → set n → LeadsTo tasks gone n m → set m

-- the tasks that run again, each once
pub record AreReruns (tasks : Tasks) (gone awaited again : List ℕ) : Type 0 where
  pub inside : All (λ n. n < length tasks.done) again
  pub once : AllPairs ◌≢◌ again
  pub closed : IsClosed tasks gone awaited (Contains again)
  pub least : (other : ℕ → Bool) → IsClosed tasks gone awaited (λ n. IsTrue (other n))
      → All (λ n. IsTrue (other n)) again
