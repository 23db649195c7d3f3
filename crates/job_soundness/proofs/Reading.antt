-- Rows are read again from the bytes that spell them.
use Rattle.std.proofs.Common.{◌≡◌, ℕ, ℤ, zero, suc, ◌<◌, ◌≤◌, ◌^◌, List, [], ◌∷◌, ◌++◌, length, take, drop, refl, sym, ◌∙◌, ap, arith, append_assoc, length-append}
use Rattle.std.specs.Prelude.{FitsSigned}
use Rattle.std.specs.List.{AllByRecursion}
use Rattle.std.specs.Int.{w16, w32, w64, to_be_bytes, cast_unsigned, cast_signed}
use Rattle.std.proofs.lemmas.Int.{ints, to_z-of_z}
use Rattle.std.proofs.lemmas.List.{take_at, drop_at}
use Rattle.std.proofs.lemmas.Nat.{from_be_bytes-to_be_bytes_2, from_be_bytes-to_be_bytes_4, from_be_bytes-to_be_bytes_8}
use Rattle.row_core.specs.Encoding.{value_bytes, values_bytes, row_bytes, rows_bytes, ValueFits, RowFits, RowsFit}
use Rattle.row_core.specs.Values.{text_limit}
use Rattle.row_core.specs.declared.value.Value.{Value}
use Rattle.row_core.specs.declared.value.Value.TheVariants.{Null, Int, Text}
use Rattle.job_soundness.specs.Decoded.{short_in, word_in, long_in, text_front, value_front, values_front, row_front, rows_from, rows_in, AreRows}

short_back : (n : ℕ) → n < 2 ^ 16 → short_in (to_be_bytes w16 n) ≡ n
unfolding short_in
short_back n below = from_be_bytes-to_be_bytes_2 n below

word_back : (n : ℕ) → n < 2 ^ 32 → word_in (to_be_bytes w32 n) ≡ n
unfolding word_in
word_back n below = from_be_bytes-to_be_bytes_4 n below

long_back : (n : ℕ) → n < 2 ^ 64 → long_in (to_be_bytes w64 n) ≡ n
unfolding long_in
long_back n below = from_be_bytes-to_be_bytes_8 n below

bits_below : (n : ℤ) → FitsSigned w64 n → cast_unsigned w64 n < 2 ^ 64
bits_below n fits = omega (arith, ints)

int_back : (n : ℤ) → FitsSigned w64 n → cast_signed w64 (long_in (to_be_bytes w64 (cast_unsigned w64 n))) ≡ n
int_back n fits = ap (cast_signed w64) (long_back (cast_unsigned w64 n) (bits_below n fits)) ∙ to_z-of_z w64 n fits

text_back : (t rest : List ℕ) → length t ≤ text_limit → text_front (to_be_bytes w32 (length t) ++ (t ++ rest)) ≡ (Text t, rest)
text_back t rest fits =
    let len = to_be_bytes w32 (length t) in
    let cut : ℕ → List ℕ → Value × List ℕ = λ n l. (Text (take n l), drop n l) in
    let made : List ℕ → List ℕ → Value × List ℕ = λ x y. (Text x, y) in
    ap (λ (l : List ℕ). cut (word_in l) (drop 4 (len ++ (t ++ rest)))) (take_at len (t ++ rest) 4 refl)
    ∙ ap (cut (word_in len)) (drop_at len (t ++ rest) 4 refl)
    ∙ ap (λ (n : ℕ). cut n (t ++ rest)) (word_back (length t) (omega arith))
    ∙ ap (λ (l : List ℕ). made l (drop (length t) (t ++ rest))) (take_at t rest (length t) refl)
    ∙ ap (made t) (drop_at t rest (length t) refl)

value_back : (value : Value) (rest : List ℕ) → ValueFits value → value_front (value_bytes value ++ rest) ≡ (value, rest)
value_back Null rest fits = refl
value_back (Int n) rest fits =
    let bits = to_be_bytes w64 (cast_unsigned w64 n) in
    let made : List ℕ → List ℕ → Value × List ℕ = λ x y. (Int (cast_signed w64 (long_in x)), y) in
    let at : ℤ → Value × List ℕ = λ z. (Int z, rest) in
    ap (λ (l : List ℕ). made l (drop 8 (bits ++ rest))) (take_at bits rest 8 refl)
    ∙ ap (made bits) (drop_at bits rest 8 refl)
    ∙ ap at (int_back n fits)
value_back (Text t) rest fits =
    ap value_front (append_assoc (2 ∷ to_be_bytes w32 (length t)) t rest) ∙ text_back t rest fits

-- the values behind a first one
abbrev with_more : ℕ → Value × List ℕ → List Value × List ℕ
with_more count first = let more = values_front count first.1 in (first.0 ∷ more.0, more.1)

values_back : (values : List Value) (rest : List ℕ) → AllByRecursion ValueFits values → values_front (length values) (values_bytes values ++ rest) ≡ (values, rest)
values_back [] rest fits = refl
values_back (value ∷ values) rest fits =
    let more : List Value × List ℕ → List Value × List ℕ = λ l. (value ∷ l.0, l.1) in
    ap (λ (l : List ℕ). with_more (length values) (value_front l)) (append_assoc (value_bytes value) (values_bytes values) rest)
    ∙ ap (with_more (length values)) (value_back value (values_bytes values ++ rest) fits.0)
    ∙ ap more (values_back values rest fits.1)

row_back : (row : List Value) (rest : List ℕ) → RowFits row → row_front (row_bytes row ++ rest) ≡ (row, rest)
row_back row rest fits =
    let width = fits.width in
    let count = to_be_bytes w16 (length row) in
    let behind = values_bytes row ++ rest in
    ap row_front (append_assoc count (values_bytes row) rest)
    ∙ ap (λ (l : List ℕ). values_front (short_in l) (drop 2 (count ++ behind))) (take_at count behind 2 refl)
    ∙ ap (values_front (short_in count)) (drop_at count behind 2 refl)
    ∙ ap (λ (n : ℕ). values_front n behind) (short_back (length row) (omega arith))
    ∙ values_back row rest fits.values

-- each row has a byte at least
rows_long : (rows : List (List Value)) → length rows ≤ length (rows_bytes rows)
rows_long [] = omega arith
rows_long (row ∷ rows) = omega (arith, length-append (row_bytes row) (rows_bytes rows), rows_long rows)

abbrev with_rows : ℕ → List Value × List ℕ → List (List Value)
with_rows most first = first.0 ∷ rows_from most first.1

rows_back : (most : ℕ) (rows : List (List Value)) → length rows ≤ most → RowsFit rows → rows_from most (rows_bytes rows) ≡ rows
rows_back zero [] le fits = refl
rows_back zero (row ∷ rows) le fits = absurd (omega (arith, le))
rows_back (suc most) [] le fits = refl
rows_back (suc most) (row ∷ rows) le fits =
    ap (with_rows most) (row_back row (rows_bytes rows) fits.0)
    ∙ ap (λ (l : List (List Value)). row ∷ l) (rows_back most rows (omega (arith, le)) fits.1)

pub rows_again : (rows : List (List Value)) → RowsFit rows → rows_in (rows_bytes rows) ≡ rows
rows_again rows fits = rows_back (length (rows_bytes rows)) rows (rows_long rows) fits

-- bytes that spell rows are those rows
pub are_rows : (bytes : List ℕ) (rows : List (List Value)) → RowsFit rows → bytes ≡ rows_bytes rows → AreRows bytes
are_rows bytes rows fits is =
    let again : rows_in bytes ≡ rows = ap rows_in is ∙ rows_again rows fits in
    (rw again fits, is ∙ ap rows_bytes (sym again))

pub rows_are : (bytes : List ℕ) (rows : List (List Value)) → RowsFit rows → bytes ≡ rows_bytes rows → rows_in bytes ≡ rows
rows_are bytes rows fits is = ap rows_in is ∙ rows_again rows fits
