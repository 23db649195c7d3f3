-- Rows by their places.
use Rattle.std.specs.Prelude.{◌≡◌, ◌<◌, ℕ, suc, All, List, [], get_or, length, map, take}
use Rattle.row_core.specs.Bags.{SameBag}
use Rattle.row_core.specs.declared.value.Value.{Value}
use Rattle.op_unary.specs.Hashes.{hash_of}
use Rattle.op_unary.specs.declared.hashed_row.HashedRow.{HashedRow}

-- the row at a place
abbrev pub row_at : List (List Value) → HashedRow → List Value
row_at rows hashed = get_or rows hashed.place []

-- the rows at these places
abbrev pub rows_at : List (List Value) → List HashedRow → List (List Value)
rows_at rows places = map (row_at rows) places

-- places of rows, with their hashes
pub record ArePlaces (rows : List (List Value)) (places : List HashedRow) : Type 0 where
  pub within : All (λ hashed. hashed.place < length rows) places
  pub hashes : All (λ hashed. hashed.hash ≡ hash_of (row_at rows hashed)) places

-- the places of as many first rows, in some order
pub record IsOrder (rows : List (List Value)) (order : List HashedRow) : Type 0 where
  pub places : ArePlaces rows order
  pub front : SameBag (rows_at rows order) (take (length order) rows)

-- each hash is greater than the one before
abbrev pub Rises : List HashedRow → Type 0
Rises places = (k : ℕ) (d : HashedRow) → suc k < length places
    → (get_or places k d).hash < (get_or places (suc k) d).hash
