-- Spellings that are read one after another from the front of bytes.
use Rattle.std.proofs.Common.{◌≡◌, ℕ, ◌+◌, ◌-◌, ◌<◌, List, [], ◌∷◌, ◌++◌, length, take, drop, sym, ap, subst, ◌∙◌, append_assoc, arith}
use Rattle.std.specs.List.{flat_map, AllByRecursion}
use Rattle.std.proofs.lemmas.List.{append-nil, length-append}
use Rattle.std.proofs.lemmas.List.Concat.{flat_map-append}
use Rattle.std.proofs.Math.Seq.{drop-append_seam, take-append_seam}
use Rattle.row_core.specs.declared.value.Value.{Value}
use Rattle.row_core.specs.Encoding.{value_bytes, values_bytes, row_bytes, rows_bytes, ValueFits, RowsFit}
use Rattle.row_core.specs.Decoding.{Begins, NoneBegins, AreValues}
use Rattle.row_core.proofs.Laws.{rows_same}
use Rattle.row_view.specs.Encoded.{RowOf, Spells, StopsAtRow, AreRows}

-- one item more, of which it holds too
pub all_more : {A : Type 0} (P : A → Type 0) (items : List A) (item : A) → AllByRecursion P items → P item → AllByRecursion P (items ++ item ∷ [])
all_more P [] item all one = (one, tt)
all_more P (first ∷ items) item all one = (all.0, all_more P items item all.1 one)

spelled_more : {A : Type 0} (spell : A → List ℕ) (items : List A) (item : A) (bytes rest after : List ℕ) → bytes ≡ flat_map spell items ++ rest → rest ≡ spell item ++ after → bytes ≡ flat_map spell (items ++ item ∷ []) ++ after
spelled_more {A} spell items item bytes rest after had next =
    had ∙ ap (λ (r : List ℕ). flat_map spell items ++ r) next ∙ sym (append_assoc (flat_map spell items) (spell item) after)
    ∙ ap (λ (front : List ℕ). front ++ after) (ap (λ (last : List ℕ). flat_map spell items ++ last) (sym (append-nil (spell item))) ∙ sym (flat_map-append spell items (item ∷ [])))

-- one item more
pub one_more : {A : Type 0} (spell : A → List ℕ) (Fits : A → Type 0) (items : List A) (item : A) (bytes rest after : List ℕ) → Begins (flat_map spell) (AllByRecursion Fits) bytes items rest → Begins spell Fits rest item after
    → Begins (flat_map spell) (AllByRecursion Fits) bytes (items ++ item ∷ []) after
one_more spell Fits items item bytes rest after had next = record {
  fits = all_more Fits items item had.fits next.fits;
  front = spelled_more spell items item bytes rest after had.front next.front;
}

-- one value more
pub one_more_value : (count : ℕ) (values : List Value) (value : Value) (bytes rest after : List ℕ) → Begins values_bytes (AreValues count) bytes values rest → Begins value_bytes ValueFits rest value after
    → Begins values_bytes (AreValues (count + 1)) bytes (values ++ value ∷ []) after
one_more_value count values value bytes rest after had next = record {
  fits = record {
    width = length-append values (value ∷ []) ∙ ap (λ (n : ℕ). n + 1) had.fits.width;
    each = all_more ValueFits values value had.fits.each next.fits;
  };
  front = spelled_more value_bytes values value bytes rest after had.front next.front;
}

seam : (bytes front rest : List ℕ) → bytes ≡ front ++ rest → length bytes - length rest ≡ length front
seam bytes front rest is = omega (arith, ap length is, length-append front rest)

-- where rows of the width stop
pub stops : (width : ℕ) (rows : List (List Value)) (bytes rest : List ℕ) → Begins rows_bytes (AllByRecursion (RowOf width)) bytes rows rest → 0 < length rest → NoneBegins row_bytes (RowOf width) rest
    → StopsAtRow width bytes (length bytes - length rest)
stops width rows bytes rest had some none =
    let at = seam bytes (rows_bytes rows) rest had.front in
    let left : drop (length bytes - length rest) bytes ≡ rest = (λ i. drop (at i) (had.front i)) ∙ drop-append_seam (rows_bytes rows) rest in
    record {
      rows = rows;
      before = (had.fits, (λ i. take (at i) (had.front i)) ∙ take-append_seam (rows_bytes rows) rest);
      more = omega (arith, ap length had.front, length-append (rows_bytes rows) rest, at);
      none = λ row after fits front. none row after (record { fits = fits; front = sym left ∙ front });
    }

-- such rows fit
pub fits_of : (width : ℕ) (rows : List (List Value)) → AllByRecursion (RowOf width) rows → RowsFit rows
fits_of width [] fit = tt
fits_of width (row ∷ rows) fit = (fit.0.fits, fits_of width rows fit.1)

-- bytes that spell rows of the width spell no others
pub all_wide : (width : ℕ) (bytes : List ℕ) (all : AreRows bytes) (rows : List (List Value)) → Spells width bytes rows → Spells width bytes all.0
all_wide width bytes all rows spelled = (
  subst (AllByRecursion (RowOf width)) (rows_same rows all.0 (fits_of width rows spelled.0) all.1.0 (sym spelled.1 ∙ all.1.1)) spelled.0,
  all.1.1,
)

-- they spell some
pub are_rows : (width : ℕ) (bytes : List ℕ) (rows : List (List Value)) → Spells width bytes rows → AreRows bytes
are_rows width bytes rows spelled = (rows, (fits_of width rows spelled.0, spelled.1))
