-- Bytes that are read by their places.
use Rattle.std.specs.Prelude.{◌≡◌, ℕ, List, ◌++◌, take, drop, map, Option, Some}
use Rattle.part_files.specs.declared.cell_place.CellPlace.{CellPlace}

-- where a source tells its bytes, this holds of them
abbrev pub Told : Option (List ℕ) → (List ℕ → Type 0) → Type 0
Told told claim = (bytes : List ℕ) → told ≡ Some bytes → claim bytes

-- from this place up to that one these bytes stand
abbrev pub Stands : List ℕ → ℕ → List ℕ → ℕ → Type 0
Stands bytes start part end = drop start bytes ≡ part ++ drop end bytes

-- so many bytes from a place on
abbrev pub bytes_from : List ℕ → ℕ → ℕ → List ℕ
bytes_from bytes at len = take len (drop at bytes)

-- what stands at the places of the cells of an edge
abbrev pub cells_at : List ℕ → List CellPlace → List (List ℕ)
cells_at bytes places = map (λ place. bytes_from bytes place.at place.len) places
