-- The names of parts, and what the cells of a stored part have.
use Rattle.std.specs.Prelude.{◌≡◌, ◌⊎◌, ◌↔◌, ℕ, ◌<◌, Bool, ◌==◌, ◌&&◌, List, [], ◌∷◌, if◌then◌else◌, AllPairs, Contains}
use Rattle.std.specs.List.{slice_index_or}
use Rattle.estate.specs.declared.part_name.PartName.{PartName}
use Rattle.estate.specs.Holding.{StoredPart}

abbrev pub is_same_name : PartName → PartName → Bool
is_same_name a b =
    a.vertex == b.vertex && a.subtask == b.subtask && a.epoch == b.epoch && a.attempt == b.attempt

-- the edges of the first part of this name
abbrev pub edges_of : PartName → List StoredPart → List (List (List ℕ))
edges_of name [] = []
edges_of name (part ∷ parts) =
    if is_same_name part.name name then part.edges else edges_of name parts

-- an edge or a cell that the part lacks reads as no bytes
abbrev pub cell_of : PartName → ℕ → ℕ → List StoredPart → List ℕ
cell_of name edge cell ever = slice_index_or (slice_index_or (edges_of name ever) edge []) cell []

-- by vertex, then by subtask, epoch and attempt
abbrev pub IsBefore : PartName → PartName → Type 0
IsBefore a b =
    (a.vertex < b.vertex)
    ⊎ ((a.vertex ≡ b.vertex) × (a.subtask < b.subtask))
    ⊎ ((a.vertex ≡ b.vertex) × (a.subtask ≡ b.subtask) × (a.epoch < b.epoch))
    ⊎ ((a.vertex ≡ b.vertex) × (a.subtask ≡ b.subtask) × (a.epoch ≡ b.epoch)
    × (a.attempt < b.attempt))

abbrev pub IsAscending : List PartName → Type 0
IsAscending names = AllPairs IsBefore names

-- the names are those that are held, in ascending order
abbrev pub AnswersNames : List PartName → List PartName → Type 0
AnswersNames held names =
    IsAscending names × ((name : PartName) → Contains names name ↔ Contains held name)
