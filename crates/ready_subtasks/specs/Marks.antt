-- A mark for each subtask, by vertices.
use Rattle.std.specs.Prelude.{◌≡◌, ℕ, ◌<◌, ◌≤◌, ◌^◌, Bool, List, length, map, set, All}
use Rattle.attempt_names.specs.Attempts.{Attempts}
use Rattle.graph_model.specs.declared.made_vertex.MadeVertex.{MadeVertex}
use Rattle.graph_model.specs.declared.sub.Sub.{Sub}
use Rattle.graph_model.specs.States.{subtasks_at}
use Rattle.graph_model.specs.Valid.{IsOfSubtask}
use Rattle.number_set.specs.Members.{is_marked}
use Rattle.number_set.specs.Pairs.{group_at, pairs}
use Rattle.number_set.specs.declared.pair.Pair.{Pair}
use Rattle.ready_subtasks.specs.Ready.{is_ready, ready_subs}

abbrev pub mark_at : List (List Bool) → Sub → Bool
mark_at marks sub = is_marked (group_at marks sub.vertex) sub.subtask

-- the subtask has this mark
abbrev pub put_mark : List (List Bool) → Sub → Bool → List (List Bool)
put_mark marks sub mark =
    set marks sub.vertex (set (group_at marks sub.vertex) sub.subtask mark)

abbrev pub sub_of_pair : Pair → Sub
sub_of_pair pair = record { vertex = pair.group; subtask = pair.number }

-- the marked subtasks, by vertex and then by number
abbrev pub marked_subs : List (List Bool) → List Sub
marked_subs marks = map sub_of_pair (pairs marks)

-- the numbers of vertices and of subtasks are those of a Sub
pub record AreSmall (marks : List (List Bool)) : Type 0 where
  pub vertices : length marks ≤ 2 ^ 32
  pub subtasks : (v : ℕ) → length (group_at marks v) < 2 ^ 32

-- the subtask is one of a decided vertex
abbrev pub IsDecidedSub : List MadeVertex → Sub → Type 0
IsDecidedSub vertices sub = sub.subtask < length (subtasks_at vertices sub.vertex)

-- there is a mark for each subtask, and no other
abbrev pub AreMarked : List MadeVertex → List (List Bool) → Type 0
AreMarked vertices marks =
    (v : ℕ) → length (group_at marks v) ≡ length (subtasks_at vertices v)

-- each subtask's mark tells whether it is ready, and attempts that run are of decided subtasks
pub record IsReadiness (vertices : List MadeVertex) (attempts : Attempts)
    (marks : List (List Bool)) : Type 0 where
  pub len : length vertices ≤ length marks
  pub sizes : AreMarked vertices marks
  pub running : All (IsOfSubtask vertices) attempts.running
  pub is : (sub : Sub) → IsDecidedSub vertices sub
      → mark_at marks sub ≡ is_ready vertices attempts sub

-- the marked subtasks are the ready ones
abbrev pub MarkedLaw : Type 0
MarkedLaw = (vertices : List MadeVertex) (attempts : Attempts) (marks : List (List Bool))
    → IsReadiness vertices attempts marks → marked_subs marks ≡ ready_subs vertices attempts
