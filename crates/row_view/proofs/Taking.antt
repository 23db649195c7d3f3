-- Taking the rows of checked bytes one after another.
use Rattle.std.proofs.Common.{◌≡◌, ◌<◌, ℕ, List, [], ◌∷◌, length, refl, sym, ap, ◌∙◌, arith}
use Rattle.row_core.specs.declared.value.Value.{Value}
use Rattle.row_core.specs.Encoding.{row_bytes, rows_bytes, RowFits, RowsFit}
use Rattle.row_core.specs.Decoding.{Begins, NoneBegins}
use Rattle.row_core.proofs.Laws.{row_front, rows_same}
use Rattle.row_view.specs.Encoded.{AreRows}

-- a row that was read is the first, and the others are left
record IsNext (rows : List (List Value)) (row : List Value) (after : List ℕ) : Type 0 where
  later : List (List Value)
  is : rows ≡ row ∷ later
  left : RowsFit later × (after ≡ rows_bytes later)

next_of : (rows : List (List Value)) (bytes : List ℕ) (row : List Value) (after : List ℕ) → RowsFit rows → bytes ≡ rows_bytes rows → 0 < length bytes → Begins row_bytes RowFits bytes row after → IsNext rows row after
next_of [] bytes row after fit is some read = absurd (omega (arith, ap length is))
next_of (first ∷ later) bytes row after fit is some read =
    let same = row_front first row (rows_bytes later) after fit.0 read.fits (sym is ∙ read.front) in
    record { later = later; is = ap (λ (r : List Value). r ∷ later) same.0; left = (fit.1, sym same.1) }

-- what is left is rows
pub left_rows : (bytes : List ℕ) (all : AreRows bytes) (row : List Value) (after : List ℕ) → 0 < length bytes → Begins row_bytes RowFits bytes row after → AreRows after
left_rows bytes all row after some read = let next = next_of all.0 bytes row after all.1.0 all.1.1 some read in (next.later, next.left)

-- whatever tells that it is
pub takes_first : (bytes : List ℕ) (all : AreRows bytes) (row : List Value) (after : List ℕ) (left : AreRows after) → 0 < length bytes → Begins row_bytes RowFits bytes row after → all.0 ≡ row ∷ left.0
takes_first bytes all row after left some read =
    let next = next_of all.0 bytes row after all.1.0 all.1.1 some read in
    next.is ∙ ap (λ (later : List (List Value)). row ∷ later) (rows_same next.later left.0 next.left.0 left.1.0 (sym next.left.1 ∙ left.1.1))

-- some row comes first, where there are bytes
pub some_begins : (bytes : List ℕ) (all : AreRows bytes) → 0 < length bytes → NoneBegins row_bytes RowFits bytes → ⊥
some_begins bytes (rows, spelled) some none = none_of rows spelled.0 spelled.1
  where
    none_of : (rows : List (List Value)) → RowsFit rows → bytes ≡ rows_bytes rows → ⊥
    none_of [] fit is = omega (arith, ap length is)
    none_of (first ∷ later) fit is = none first (rows_bytes later) (record { fits = fit.0; front = is })

-- where no bytes are left, no rows are
pub none_left : (bytes : List ℕ) (all : AreRows bytes) → length bytes ≡ 0 → all.0 ≡ []
none_left bytes (rows, spelled) none = nothing rows spelled.1
  where
    nothing : (rows : List (List Value)) → bytes ≡ rows_bytes rows → rows ≡ []
    nothing [] is = refl
    nothing (first ∷ later) is = absurd (omega (arith, ap length is))
