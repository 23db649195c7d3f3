-- How many subtasks of each vertex have no winner.
use Rattle.std.specs.Prelude.{◌≡◌, ℕ, Bool, not, List, map, count_by}
use Rattle.std.specs.Option.{is_some}
use Rattle.graph_model.specs.declared.made_vertex.MadeVertex.{MadeVertex}
use Rattle.graph_model.specs.declared.subtask_state.SubtaskState.{SubtaskState}

-- the subtask has no winner
abbrev pub is_unwon : SubtaskState → Bool
is_unwon subtask = not (is_some subtask.winner)

-- how many of a vertex have none
abbrev pub unwon_count : MadeVertex → ℕ
unwon_count made = count_by is_unwon made.subtasks

-- these numbers, by vertex
abbrev pub AreCounts : List MadeVertex → List ℕ → Type 0
AreCounts vertices counts = counts ≡ map unwon_count vertices
