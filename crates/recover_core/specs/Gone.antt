-- Which winners' parts are not held.
use Rattle.std.specs.Prelude.{◌≡◌, ◌⊎◌, ◌↔◌, ◌<◌, Bool, true, false, List, ◌∷◌, [], ◌++◌, length, get_or, Some, Contains}
use Rattle.estate.specs.Parts.{IsAscending}
use Rattle.estate.specs.declared.part_name.PartName.{PartName}
use Rattle.event_graph.specs.Numbers.{Numbering, number_of}
use Rattle.graph_model.specs.Closures.{IsBefore}
use Rattle.graph_model.specs.States.{sub_of, subtasks_at, winner_name}
use Rattle.graph_model.specs.declared.made_vertex.MadeVertex.{MadeVertex}
use Rattle.graph_model.specs.declared.sub.Sub.{Sub}
use Rattle.graph_vertices.specs.Winning.{IsPresent}

abbrev pub IsDecidedSub : List MadeVertex → Sub → Type 0
IsDecidedSub vertices sub = sub.subtask < length (subtasks_at vertices sub.vertex)

-- a winner's part is its subtask's own
abbrev pub AreOwn : List MadeVertex → Type 0
AreOwn vertices = (sub : Sub) (name : PartName) → winner_name vertices sub ≡ Some name
    → sub_of name ≡ sub

-- ---- those that are held are marked

-- the subtask's mark, by its number
abbrev pub IsMarked : Numbering → List Bool → Sub → Type 0
IsMarked numbering marks sub = get_or marks (number_of numbering sub) false ≡ true

-- the winner's part of a subtask is among the names
abbrev pub IsHeldSub : List MadeVertex → List PartName → Sub → Type 0
IsHeldSub vertices names sub =
    (name : PartName) × (winner_name vertices sub ≡ Some name) × Contains names name

-- those are marked
pub record AreHeld (vertices : List MadeVertex) (numbering : Numbering) (names : List PartName)
    (marks : List Bool) : Type 0 where
  pub len : length marks ≡ length numbering.subs
  pub each : (sub : Sub) → IsDecidedSub vertices sub
      → IsMarked numbering marks sub ↔ IsHeldSub vertices names sub

-- the subtask of a name is marked too, if it is its winner's part
pub record Notes (vertices : List MadeVertex) (numbering : Numbering) (name : PartName)
    (old new : List Bool) : Type 0 where
  pub len : length new ≡ length old
  pub each : (sub : Sub) → IsDecidedSub vertices sub → IsMarked numbering new sub
      ↔ (IsMarked numbering old sub ⊎ (winner_name vertices sub ≡ Some name))

-- ---- the others are gone

-- the subtask's winner's part is added, unless it is marked
abbrev pub AddsGone : List MadeVertex → Numbering → List Bool → Sub → List PartName → List PartName
    → Type 0
AddsGone vertices numbering marks sub old new =
    ((new ≡ old) × ((name : PartName) → winner_name vertices sub ≡ Some name
    → IsMarked numbering marks sub))
    ⊎ ((name : PartName) × (winner_name vertices sub ≡ Some name)
    × (IsMarked numbering marks sub → ⊥) × (new ≡ old ++ name ∷ []))

-- the parts of present winners before this subtask that are not marked
pub record GoneBefore (vertices : List MadeVertex) (numbering : Numbering) (marks : List Bool)
    (end : Sub) (gone : List PartName) : Type 0 where
  pub ascending : IsAscending gone
  pub are : (name : PartName) → Contains gone name ↔ (IsBefore (sub_of name) end
      × IsPresent vertices name × (IsMarked numbering marks (sub_of name) → ⊥))
