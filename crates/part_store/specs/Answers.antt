-- What the answers of a part store say.
use Rattle.std.specs.Prelude.{◌≡◌, ◌⊎◌, ⊤, ℕ, ◌-◌, ◌<◌, ◌≤◌, List, length, Contains, Result, Ok, Err, IsErrOf}
use Rattle.std.specs.List.{AllByRecursion}
use Rattle.estate.specs.declared.part_name.PartName.{PartName}
use Rattle.estate.specs.declared.estate_error.EstateError.{EstateError}
use Rattle.estate.specs.declared.estate_error.EstateError.TheVariants as estate
use Rattle.estate.specs.Parts.{cell_of}
use Rattle.estate.specs.World.{World}
use Rattle.row_core.specs.declared.value.Value.{Value}
use Rattle.row_view.specs.Encoded.{RowOf, Spells, StopsAtRow}
use Rattle.part_store.specs.Cells.{cells_of, AreWide, SpellEach}
use Rattle.part_store.specs.declared.store_error.StoreError.{StoreError}
use Rattle.part_store.specs.declared.store_error.StoreError.TheVariants.{Gone, ShelfFault, BadCell, NoMemory}

-- the error that a shelf's error becomes
abbrev pub store_error : EstateError → StoreError
store_error estate.Failed = ShelfFault
store_error estate.NoMemory = NoMemory

-- a put answers no other error
abbrev pub IsPutAnswer : {T : Type 0} → Result T StoreError → Type 0
IsPutAnswer (Ok done) = ⊤
IsPutAnswer (Err ShelfFault) = ⊤
IsPutAnswer (Err NoMemory) = ⊤
IsPutAnswer (Err (Gone name)) = ⊥
IsPutAnswer (Err (BadCell name edge cell at)) = ⊥

-- a fault of the shelf is counted only where it is answered, and none of another part of the estate
abbrev pub StoreSteady : {T : Type 0} → World → World → Result T StoreError → Type 0
StoreSteady old new result =
    (IsErrOf result ShelfFault ⊎ (new.counts.shelf_faults ≡ old.counts.shelf_faults))
    × (new.counts.log_faults ≡ old.counts.log_faults)
    × (new.counts.sink_faults ≡ old.counts.sink_faults)

-- one cell's rows have the width, and an error names the part and the cell, whatever the shelf tells
abbrev pub IsCellAnswer : PartName → ℕ → ℕ → ℕ → Result (List (List Value)) StoreError
    → Type 0
IsCellAnswer name edge cell width (Ok rows) = AllByRecursion (RowOf width) rows
IsCellAnswer name edge cell width (Err (Gone other)) = other ≡ name
IsCellAnswer name edge cell width (Err ShelfFault) = ⊤
IsCellAnswer name edge cell width (Err (BadCell other from bad at)) =
    (other ≡ name) × (from ≡ edge) × (bad ≡ cell)
IsCellAnswer name edge cell width (Err NoMemory) = ⊤

-- The rows are what the part has in the cell. It is gone where it isn't held then, and its cell is
-- bad where the rows stop at that place.
abbrev pub ReadsCell : PartName → ℕ → ℕ → ℕ → World → World
    → Result (List (List Value)) StoreError → Type 0
ReadsCell name edge cell width old new (Ok rows) =
    Contains new.holding.held name × Spells width (cell_of name edge cell old.holding.ever) rows
ReadsCell name edge cell width old new (Err (Gone other)) = ¬ (Contains new.holding.held name)
ReadsCell name edge cell width old new (Err ShelfFault) = ⊤
ReadsCell name edge cell width old new (Err (BadCell other from bad at)) =
    Contains new.holding.held name
    × StopsAtRow width (cell_of name edge cell old.holding.ever) at
ReadsCell name edge cell width old new (Err NoMemory) = ⊤

-- the same of the cells from s0 up to s1, of which some are asked for where one is named
abbrev pub IsCellsAnswer : PartName → ℕ → ℕ → ℕ → ℕ → Result (List (List (List Value))) StoreError
    → Type 0
IsCellsAnswer name edge s0 s1 width (Ok lists) = AreWide width lists × (length lists ≡ s1 - s0)
IsCellsAnswer name edge s0 s1 width (Err (Gone other)) = (other ≡ name) × (s0 < s1)
IsCellsAnswer name edge s0 s1 width (Err ShelfFault) = ⊤
IsCellsAnswer name edge s0 s1 width (Err (BadCell other from bad at)) =
    (other ≡ name) × (from ≡ edge) × (s0 ≤ bad) × (bad < s1)
IsCellsAnswer name edge s0 s1 width (Err NoMemory) = ⊤

-- The lists are what the part has in the cells, and it is held then. It is gone where it isn't, and
-- a cell is bad where the cells before it are rows and its own rows stop at that place.
abbrev pub ReadsCells : PartName → ℕ → ℕ → ℕ → ℕ → World → World
    → Result (List (List (List Value))) StoreError → Type 0
ReadsCells name edge s0 s1 width old new (Ok lists) =
    (s0 < s1 → Contains new.holding.held name)
    × SpellEach width (cells_of name edge s0 s1 old.holding.ever) lists
ReadsCells name edge s0 s1 width old new (Err (Gone other)) = ¬ (Contains new.holding.held name)
ReadsCells name edge s0 s1 width old new (Err ShelfFault) = ⊤
ReadsCells name edge s0 s1 width old new (Err (BadCell other from bad at)) =
    Contains new.holding.held name
    × ((before : List (List (List Value)))
    × SpellEach width (cells_of name edge s0 bad old.holding.ever) before)
    × StopsAtRow width (cell_of name edge bad old.holding.ever) at
ReadsCells name edge s0 s1 width old new (Err NoMemory) = ⊤
