-- Which subtask is the first without a winner.
use Rattle.std.specs.Prelude.{◌≡◌, ◌≢◌, ℕ, ◌<◌, List, length, get_or, Option, Some, None}
use Rattle.graph_model.specs.Closures.{IsBefore}
use Rattle.graph_model.specs.Legal.{IsUnfinished}
use Rattle.graph_model.specs.States.{no_subtask}
use Rattle.graph_model.specs.declared.made_vertex.MadeVertex.{MadeVertex}
use Rattle.graph_model.specs.declared.sub.Sub.{Sub}
use Rattle.graph_model.specs.declared.subtask_state.SubtaskState.{SubtaskState}

-- of a vertex' subtasks the first so many have winners
abbrev pub AllWon : List SubtaskState → ℕ → Type 0
AllWon subtasks count = (k : ℕ) → k < count → (get_or subtasks k no_subtask).winner ≢ None

pub record IsFirstUnwon (subtasks : List SubtaskState) (k : ℕ) : Type 0 where
  pub within : k < length subtasks
  pub unwon : (get_or subtasks k no_subtask).winner ≡ None
  pub before : AllWon subtasks k

-- the first decided subtask without a winner, or none where each has one
abbrev pub IsFirstUnfinished : List MadeVertex → Option Sub → Type 0
IsFirstUnfinished vertices None = (sub : Sub) → IsUnfinished vertices sub → ⊥
IsFirstUnfinished vertices (Some sub) = IsUnfinished vertices sub
    × ((other : Sub) → IsBefore other sub → IsUnfinished vertices other → ⊥)
