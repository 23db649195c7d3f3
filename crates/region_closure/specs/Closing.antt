-- The subtasks that run again, by their numbers.
use Rattle.std.specs.Prelude.{◌≡◌, ◌↔◌, ℕ, ◌<◌, List, Some, length, map, All, Any, AllPairs, Contains}
use Rattle.estate.specs.declared.part_name.PartName.{PartName}
use Rattle.reader_index.specs.Links.{IsInside}
use Rattle.reader_index.specs.Tasks.{Tasks, is_done, reads_of}
use Rattle.graph_model.specs.declared.made_vertex.MadeVertex.{MadeVertex}
use Rattle.graph_model.specs.declared.sub.Sub.{Sub}
use Rattle.graph_model.specs.Closures.{IsAwaited, IsBefore, IsClosure, IsGone}
use Rattle.graph_model.specs.Indexes.{sub_at}
use Rattle.graph_model.specs.Reads.{reads_from}
use Rattle.graph_model.specs.States.{is_finished, sub_of, subtasks_at, vertex_at, winner_name}
use Rattle.rerun_set.specs.Reruns.{AreReruns}

-- the number of a subtask
abbrev pub HasNumber : List Sub → Sub → Type 0
HasNumber subs sub = (n : ℕ) × (n < length subs) × (sub_at subs n ≡ sub)

-- the subtasks of all decided vertices are numbered; the tasks are theirs: which are finished, and
-- who reads from whom
pub record AreNumbered (vertices : List MadeVertex) (subs : List Sub) (tasks : Tasks) : Type 0 where
  pub len : length tasks.done ≡ length subs
  pub inside : All (IsInside (length subs)) tasks.reads
  pub each : (sub : Sub) → sub.subtask < length (subtasks_at vertices sub.vertex)
      → HasNumber subs sub
  pub once : (n m : ℕ) → n < length subs → m < length subs
      → sub_at subs n ≡ sub_at subs m → n ≡ m
  pub done : (n : ℕ) → n < length subs
      → is_done tasks.done n ≡ is_finished vertices (sub_at subs n)
  pub reads : (n : ℕ) → n < length subs
      → map (λ read. sub_at subs read.producer) (reads_of tasks n)
      ≡ reads_from vertices (sub_at subs n)

-- a winner's part is its subtask's
abbrev pub OwnParts : List MadeVertex → Type 0
OwnParts vertices = (sub : Sub) (name : PartName) → winner_name vertices sub ≡ Some name
    → sub_of name ≡ sub

-- the subtasks whose part is gone
pub record AreGone (vertices : List MadeVertex) (gone : List PartName) (subs : List Sub)
    (lost : List ℕ) : Type 0 where
  pub inside : All (λ n. n < length subs) lost
  pub each : (n : ℕ) → n < length subs
      → (Contains lost n ↔ IsGone vertices gone (sub_at subs n))

-- the vertex of a subtask ends in a sink, or has a consumer that is in no decided vertex
abbrev pub HasAwaited : List MadeVertex → Sub → Type 0
HasAwaited vertices sub = Any (IsAwaited vertices) (vertex_at vertices sub.vertex).vertex.outputs

-- those of the lost that are awaited by their vertex
pub record AreAwaited (vertices : List MadeVertex) (subs : List Sub)
    (lost awaited : List ℕ) : Type 0 where
  pub each : (n : ℕ) → Contains awaited n ↔ (Contains lost n × HasAwaited vertices (sub_at subs n))

-- the subtasks of these numbers, in ascending order
pub record ArePicked (subs : List Sub) (numbers : List ℕ) (set : List Sub) : Type 0 where
  pub ascending : AllPairs IsBefore set
  pub picked : (sub : Sub) → Contains set sub
      → (n : ℕ) × Contains numbers n × (sub_at subs n ≡ sub)
  pub all : (n : ℕ) → Contains numbers n → Contains set (sub_at subs n)

-- the subtasks whose tasks run again are the closure
abbrev pub ClosureLaw : Type 0
ClosureLaw = (vertices : List MadeVertex) (names : List PartName) (subs : List Sub) (tasks : Tasks)
    (lost awaited again : List ℕ) (set : List Sub)
    → AreNumbered vertices subs tasks → AreGone vertices names subs lost
    → AreAwaited vertices subs lost awaited → AreReruns tasks lost awaited again
    → ArePicked subs again set → IsClosure vertices names set

-- two lists that are the closure of the same parts are one
abbrev pub SameLaw : Type 0
SameLaw = (vertices : List MadeVertex) (gone : List PartName) (set other : List Sub)
    → IsClosure vertices gone set → IsClosure vertices gone other → set ≡ other
