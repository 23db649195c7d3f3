-- Values and rows that are seen where they stand.
use Rattle.std.specs.Prelude.{◌≡◌, Bool, true, false, List, [], ◌∷◌, map}
use Rattle.row_core.specs.declared.value.Value.{Value}
use Rattle.row_core.specs.declared.value.Value.TheVariants as whole
use Rattle.row_view.specs.declared.value_ref.ValueRef.{ValueRef}
use Rattle.row_view.specs.declared.value_ref.ValueRef.TheVariants.{Null, Int, Text}

-- the value itself
abbrev pub seen : ValueRef → Value
seen Null = whole.Null
seen (Int n) = whole.Int n
seen (Text t) = whole.Text t.now

-- the row itself
abbrev pub row_seen : List ValueRef → List Value
row_seen values = map seen values

-- a row was taken, the first of the old ones; or none was left
abbrev pub Takes : Bool → List (List Value) → List Value → List (List Value) → Type 0
Takes true old row new = old ≡ row ∷ new
Takes false old row new = (old ≡ []) × (new ≡ [])
