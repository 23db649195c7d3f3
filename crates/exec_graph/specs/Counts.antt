-- Subtasks that are counted.
use Rattle.std.specs.Prelude.{◌≡◌, ℕ, ◌<◌, not, Bool, List, length, All, Contains}
use Rattle.graph_model.specs.declared.made_vertex.MadeVertex.{MadeVertex}
use Rattle.graph_model.specs.declared.sub.Sub.{Sub}
use Rattle.graph_model.specs.Indexes.{sub_at}
use Rattle.graph_model.specs.States.{is_finished}
use Rattle.ready_subtasks.specs.Marks.{IsDecidedSub}

abbrev pub is_unwon : List MadeVertex → Sub → Bool
is_unwon vertices sub = not (is_finished vertices sub)

-- all subtasks of decided vertices, each once
pub record AreAllSubs (vertices : List MadeVertex) (subs : List Sub) : Type 0 where
  pub decided : All (IsDecidedSub vertices) subs
  pub all : (sub : Sub) → IsDecidedSub vertices sub → Contains subs sub
  pub once : (n m : ℕ) → n < length subs → m < length subs → sub_at subs n ≡ sub_at subs m → n ≡ m
