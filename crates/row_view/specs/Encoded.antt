-- Bytes that are rows.
use Rattle.std.specs.Prelude.{◌≡◌, ℕ, ◌<◌, List, ◌++◌, length, take, drop}
use Rattle.std.specs.List.{AllByRecursion, AllByRecursion-prop}
use Rattle.std.specs.Coded.{×_prop, Unit-prop, le_prop, Coded-set, coded_list, coded_ℕ}
use mir.ValLaws.{SFits-prop}
use Rattle.std.specs.Int.{w64}
use mathlib.Core.HLevel.{Σ_prop_path}
use Rattle.std.proofs.Common.{sym, ◌∙◌}
use Rattle.row_core.specs.declared.value.Value.{Value}
use Rattle.row_core.specs.declared.value.Value.TheVariants.{Null, Int, Text}
use Rattle.row_core.specs.Encoding.{row_bytes, rows_bytes, ValueFits, RowFits, RowsFit}
use Rattle.row_core.proofs.Laws.{rows_same}

-- a row of this width that has a spelling
pub record RowOf (width : ℕ) (row : List Value) : Type 0 where
  pub fits : RowFits row
  pub wide : length row ≡ width

-- the bytes spell these rows, all of this width
abbrev pub Spells : ℕ → List ℕ → List (List Value) → Type 0
Spells width bytes rows = AllByRecursion (RowOf width) rows × (bytes ≡ rows_bytes rows)

-- Up to a place the bytes spell rows of this width, more bytes follow, and they begin with no such
-- row's spelling.
pub record StopsAtRow (width : ℕ) (bytes : List ℕ) (at : ℕ) : Type 0 where
  pub rows : List (List Value)
  pub before : Spells width (take at bytes) rows
  pub more : at < length bytes
  pub none : (row : List Value) (rest : List ℕ) → RowOf width row
      → drop at bytes ≡ row_bytes row ++ rest → ⊥

-- the bytes spell some rows
abbrev pub AreRows : List ℕ → Type 0
AreRows bytes = (rows : List (List Value)) × (RowsFit rows × (bytes ≡ rows_bytes rows))

value_fits_once : (value : Value) → IsProp (ValueFits value)
value_fits_once Null = Unit-prop
value_fits_once (Int n) = SFits-prop w64 n
value_fits_once (Text t) = le_prop

row_fits_once : (row : List Value) → IsProp (RowFits row)
row_fits_once row a b i = record {
  width = le_prop a.width b.width i;
  values = AllByRecursion-prop ValueFits value_fits_once row a.values b.values i;
}

-- they spell one list of rows at most
pub one_list : (bytes : List ℕ) → IsProp (AreRows bytes)
one_list bytes a b =
    Σ_prop_path
    (λ rows. ×_prop (AllByRecursion-prop RowFits row_fits_once rows)
    (Coded-set (coded_list coded_ℕ) bytes (rows_bytes rows)))
    (rows_same a.0 b.0 a.1.0 b.1.0 (sym a.1.1 ∙ b.1.1))
