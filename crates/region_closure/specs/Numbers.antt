-- The numbers of the subtasks of decided vertices: those of a vertex follow one another.
use Rattle.std.specs.Prelude.{◌≡◌, ◌⊎◌, ℕ, ◌+◌, ◌<◌, ◌≤◌, List, [], ◌∷◌, ◌++◌, length, get_or}
use Rattle.estate.specs.declared.part_name.PartName.{PartName}
use Rattle.graph_model.specs.declared.made_vertex.MadeVertex.{MadeVertex}
use Rattle.graph_model.specs.declared.sub.Sub.{Sub}
use Rattle.graph_model.specs.Indexes.{sub_at}
use Rattle.graph_model.specs.States.{sub_of, subtasks_at, vertex_at}
use Rattle.graph_vertices.specs.Winning.{IsPresent}

-- a subtask's number: it is counted from its vertex's first one
abbrev pub number_of : List ℕ → Sub → ℕ
number_of places sub = get_or places sub.vertex 0 + sub.subtask

-- each subtask of a decided vertex has its number, and no others have one
pub record ArePlaced (vertices : List MadeVertex) (places : List ℕ)
    (subs : List Sub) : Type 0 where
  pub len : length vertices ≤ length places
  pub within : (sub : Sub) → sub.subtask < length (subtasks_at vertices sub.vertex)
      → number_of places sub < length subs
  pub is : (sub : Sub) → sub.subtask < length (subtasks_at vertices sub.vertex)
      → sub_at subs (number_of places sub) ≡ sub
  pub decided : (n : ℕ) → n < length subs
      → (sub_at subs n).subtask < length (subtasks_at vertices (sub_at subs n).vertex)
  pub number : (n : ℕ) → n < length subs → number_of places (sub_at subs n) ≡ n

-- the number of the part's subtask is added, if it is a present winner's
abbrev pub Notes : List MadeVertex → List ℕ → PartName → List ℕ → List ℕ → Type 0
Notes vertices places name old new =
    (IsPresent vertices name × (new ≡ old ++ number_of places (sub_of name) ∷ []))
    ⊎ ((IsPresent vertices name → ⊥) × (new ≡ old))
