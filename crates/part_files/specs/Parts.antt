-- What the file of a part holds. Numbers are big endian.
use Rattle.std.specs.Prelude.{◌≡◌, ℕ, ◌^◌, ◌≤◌, ◌⊎◌, Contains, List, [], ◌++◌, length}
use Rattle.std.specs.List.{flat_map, slice_index_or}
use Rattle.std.specs.Int.{w32, w64, to_be_bytes}

-- a length in eight bytes, and the bytes
abbrev pub cell_file : List ℕ → List ℕ
cell_file cell = to_be_bytes w64 (length cell) ++ cell

-- the number of cells in four bytes, and one cell after another
abbrev pub edge_file : List (List ℕ) → List ℕ
edge_file cells = to_be_bytes w32 (length cells) ++ flat_map cell_file cells

-- the number of edges in four bytes, and one edge after another
abbrev pub part_file : List (List (List ℕ)) → List ℕ
part_file edges = to_be_bytes w32 (length edges) ++ flat_map edge_file edges

-- more than four bytes count
abbrev pub IsTooMany : {A : Type 0} → List A → Type 0
IsTooMany items = 2 ^ 32 ≤ length items

-- more edges, or more cells of an edge, than four bytes count
abbrev pub IsTooWide : List (List (List ℕ)) → Type 0
IsTooWide edges =
    IsTooMany edges ⊎ ((cells : List (List ℕ)) × Contains edges cells × IsTooMany cells)

-- these bytes are the file of a part, and this is its cell there, nothing where it has none
abbrev pub HasCell : List ℕ → ℕ → ℕ → List ℕ → Type 0
HasCell bytes edge cell found =
    (edges : List (List (List ℕ))) × (bytes ≡ part_file edges)
    × (found ≡ slice_index_or (slice_index_or edges edge []) cell [])
