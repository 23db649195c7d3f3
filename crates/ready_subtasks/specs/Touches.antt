-- Which marks an event touches, and what a refresh of them leaves.
use Rattle.std.specs.Prelude.{◌≡◌, ℕ, Bool, List, length, All, Contains}
use Rattle.attempt_names.specs.Attempts.{Attempts}
use Rattle.graph_model.specs.declared.made_vertex.MadeVertex.{MadeVertex}
use Rattle.graph_model.specs.declared.sub.Sub.{Sub}
use Rattle.graph_model.specs.Reads.{reads_from}
use Rattle.number_set.specs.Pairs.{group_at}
use Rattle.ready_subtasks.specs.Marks.{IsDecidedSub, mark_at}
use Rattle.ready_subtasks.specs.Ready.{is_ready}

-- among the touched, which are decided, are those that are changed and their readers
pub record AreTouched (vertices : List MadeVertex) (changed touched : List Sub) : Type 0 where
  pub decided : All (IsDecidedSub vertices) touched
  pub own : (sub : Sub) → IsDecidedSub vertices sub → Contains changed sub → Contains touched sub
  pub readers : (sub producer : Sub) → IsDecidedSub vertices sub
      → Contains (reads_from vertices sub) producer → Contains changed producer
      → Contains touched sub

-- the marks of these subtasks tell whether they are ready, the others are as before
pub record IsRefreshed (vertices : List MadeVertex) (attempts : Attempts) (subs : List Sub)
    (old new : List (List Bool)) : Type 0 where
  pub len : length new ≡ length old
  pub sizes : (v : ℕ) → length (group_at new v) ≡ length (group_at old v)
  pub are : (sub : Sub) → Contains subs sub → mark_at new sub ≡ is_ready vertices attempts sub
  pub others : (sub : Sub) → (Contains subs sub → ⊥) → mark_at new sub ≡ mark_at old sub
