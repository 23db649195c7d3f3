-- What parts have: the bytes of their cells, and the rows that these spell.
use Rattle.std.specs.Prelude.{◌≡◌, ℕ, ◌-◌, List, [], ◌∷◌, ◌++◌, length, map}
use Rattle.std.specs.List.{AllByRecursion, range_with_len, slice_index_or}
use Rattle.estate.specs.declared.part_name.PartName.{PartName}
use Rattle.estate.specs.Holding.{StoredPart, Holding, part_of}
use Rattle.estate.specs.Parts.{cell_of}
use Rattle.estate.specs.World.{World}
use Rattle.row_core.specs.declared.value.Value.{Value}
use Rattle.row_core.specs.Encoding.{rows_bytes}
use Rattle.row_view.specs.Encoded.{RowOf}
use Rattle.part_store.specs.declared.part.Part.{Part}

-- the part as a shelf stores it
abbrev pub stored : Part → StoredPart
stored part = part_of part.name part.edges

-- a cell of these edges; an edge or a cell that they lack has no bytes
abbrev pub cell_in : List (List (List ℕ)) → ℕ → ℕ → List ℕ
cell_in edges edge cell = slice_index_or (slice_index_or edges edge []) cell []

-- the lengths of the cells, edge by edge
abbrev pub sizes_of : List (List (List ℕ)) → List (List ℕ)
sizes_of edges = map (λ cells. map length cells) edges

-- the bytes of a part's cells from s0 up to s1, not including it
abbrev pub cells_of : PartName → ℕ → ℕ → ℕ → List StoredPart → List (List ℕ)
cells_of name edge s0 s1 ever =
    map (λ cell. cell_of name edge cell ever) (range_with_len s0 (s1 - s0))

-- lists of rows, each row of this width
abbrev pub AreWide : ℕ → List (List (List Value)) → Type 0
AreWide width lists = AllByRecursion (AllByRecursion (RowOf width)) lists

-- each cell spells its list of rows, each row of this width
abbrev pub SpellEach : ℕ → List (List ℕ) → List (List (List Value)) → Type 0
SpellEach width cells lists = AreWide width lists × (cells ≡ map rows_bytes lists)

-- whatever a crash now leaves, the part stands behind those that stood before
abbrev pub Lands : StoredPart → World → World → Type 0
Lands part old new =
    (image : Holding) → new.images new.now image → image.ever ≡ old.holding.ever ++ part ∷ []
