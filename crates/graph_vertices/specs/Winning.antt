-- Whose parts have won.
use Rattle.std.specs.Prelude.{◌≡◌, ℕ, ◌<◌, List, length, get_or, Some}
use Rattle.estate.specs.declared.part_name.PartName.{PartName}
use Rattle.graph_model.specs.declared.made_vertex.MadeVertex.{MadeVertex}
use Rattle.graph_model.specs.declared.sub.Sub.{Sub}
use Rattle.graph_model.specs.States.{sub_of, winner_name}

-- the subtask's winner has this part
abbrev pub IsWonBy : List MadeVertex → Sub → PartName → Type 0
IsWonBy vertices sub name = winner_name vertices sub ≡ Some name

-- the part is the present winner of its subtask
abbrev pub IsPresent : List MadeVertex → PartName → Type 0
IsPresent vertices name = winner_name vertices (sub_of name) ≡ Some name

-- the first of the names that is no present winner
pub record IsFirstStale (vertices : List MadeVertex) (names : List PartName)
    (name : PartName) : Type 0 where
  pub at : ℕ
  pub within : at < length names
  pub is : get_or names at name ≡ name
  pub before : (k : ℕ) → k < at → IsPresent vertices (get_or names k name)
  pub stale : IsPresent vertices name → ⊥
