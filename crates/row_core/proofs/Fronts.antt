-- No spelling begins another: of values, of rows, and of lists of them.
use Rattle.std.proofs.Common.{◌≡◌, ℕ, ℤ, ◌^◌, ◌<◌, ◌≤◌, List, [], ◌∷◌, ◌++◌, length, refl, sym, ap, ◌∙◌, append_assoc, arith, ◌⊎◌, inl, inr}
use Rattle.std.specs.Prelude.{FitsSigned}
use Rattle.std.specs.List.{flat_map, AllByRecursion}
use Rattle.std.specs.Int.{w16, w32, w64, to_be_bytes, cast_unsigned, cast_signed}
use Rattle.std.proofs.lemmas.Int.{ints, to_z-of_z}
use Rattle.std.proofs.lemmas.List.{append-nil, length-append, nil_from_length}
use Rattle.row_core.specs.declared.value.Value.{Value}
use Rattle.row_core.specs.declared.value.Value.TheVariants.{Null, Int, Text}
use Rattle.row_core.specs.Encoding.{value_bytes, values_bytes, row_bytes, rows_bytes, ValueFits, RowFits, RowsFit}
use Rattle.row_core.specs.Values.{text_limit}
use Rattle.row_core.proofs.Numbers.{wide16, wide32, wide64, split_front, number_front}

-- where two spellings begin the same bytes, they are one, of one item
pub record IsPrefixFree {A : Type 0} (spell : A → List ℕ) (Fits : A → Type 0) : Type 0 where
  pub front : (a b : A) (x y : List ℕ) → Fits a → Fits b → spell a ++ x ≡ spell b ++ y → (a ≡ b) × (x ≡ y)

pub bits_below : (n : ℤ) → FitsSigned w64 n → cast_unsigned w64 n < 2 ^ 64
bits_below n fits = omega (arith, ints)

int_front : (m n : ℤ) (x y : List ℕ) → FitsSigned w64 m → FitsSigned w64 n → to_be_bytes w64 (cast_unsigned w64 m) ++ x ≡ to_be_bytes w64 (cast_unsigned w64 n) ++ y → (m ≡ n) × (x ≡ y)
int_front m n x y fits_m fits_n h =
    let parts = number_front w64 (2 ^ 64) wide64 (cast_unsigned w64 m) (cast_unsigned w64 n) x y (bits_below m fits_m) (bits_below n fits_n) h in
    (sym (to_z-of_z w64 m fits_m) ∙ ap (cast_signed w64) parts.0 ∙ to_z-of_z w64 n fits_n, parts.1)

text_front : (s t x y : List ℕ) → length s ≤ text_limit → length t ≤ text_limit → to_be_bytes w32 (length s) ++ (s ++ x) ≡ to_be_bytes w32 (length t) ++ (t ++ y) → (s ≡ t) × (x ≡ y)
text_front s t x y fits_s fits_t h =
    let parts = number_front w32 (2 ^ 32) wide32 (length s) (length t) (s ++ x) (t ++ y) (omega arith) (omega arith) h in
    split_front s t x y parts.0 parts.1

rest_of : (m n : ℕ) (x y : List ℕ) → m ∷ x ≡ n ∷ y → x ≡ y
rest_of m n x y h = cc

value_front : (a b : Value) (x y : List ℕ) → ValueFits a → ValueFits b → value_bytes a ++ x ≡ value_bytes b ++ y → (a ≡ b) × (x ≡ y)
value_front Null Null x y fits_a fits_b h = (refl, rest_of 0 0 x y h)
value_front Null (Int n) x y fits_a fits_b h = absurd cc
value_front Null (Text t) x y fits_a fits_b h = absurd cc
value_front (Int m) Null x y fits_a fits_b h = absurd cc
value_front (Int m) (Int n) x y fits_a fits_b h =
    let parts = int_front m n x y fits_a fits_b (rest_of 1 1 _ _ h) in
    (ap Int parts.0, parts.1)
value_front (Int m) (Text t) x y fits_a fits_b h = absurd cc
value_front (Text s) Null x y fits_a fits_b h = absurd cc
value_front (Text s) (Int n) x y fits_a fits_b h = absurd cc
value_front (Text s) (Text t) x y fits_a fits_b h =
    let whole = sym (append_assoc (2 ∷ to_be_bytes w32 (length s)) s x) ∙ h ∙ append_assoc (2 ∷ to_be_bytes w32 (length t)) t y in
    let parts = text_front s t x y fits_a fits_b (rest_of 2 2 _ _ whole) in
    (ap Text parts.0, parts.1)

pub values_free : IsPrefixFree value_bytes ValueFits
values_free = record { front = value_front }

-- the second list is the first and some more, and its spelling goes further
pub record IsLonger {A : Type 0} (spell : A → List ℕ) (Fits : A → Type 0) (items others : List A) (x y : List ℕ) : Type 0 where
  pub more : List A
  pub fit : AllByRecursion Fits more
  pub list : others ≡ items ++ more
  pub rest : x ≡ flat_map spell more ++ y

one_longer : {A : Type 0} (spell : A → List ℕ) (Fits : A → Type 0) (a b : A) (items others : List A) (x y : List ℕ) → a ≡ b → IsLonger spell Fits items others x y → IsLonger spell Fits (a ∷ items) (b ∷ others) x y
one_longer spell Fits a b items others x y same longer = record { more = longer.more; fit = longer.fit; list = cc (same, longer.list); rest = longer.rest }

-- of two lists whose spellings begin the same bytes, one begins with the other
pub lists_front : {A : Type 0} (spell : A → List ℕ) (Fits : A → Type 0) (free : IsPrefixFree spell Fits) (items others : List A) (x y : List ℕ) → AllByRecursion Fits items → AllByRecursion Fits others → flat_map spell items ++ x ≡ flat_map spell others ++ y
    → IsLonger spell Fits items others x y ⊎ IsLonger spell Fits others items y x
lists_front spell Fits free [] others x y fit_items fit_others h = inl (record { more = others; fit = fit_others; list = refl; rest = h })
lists_front spell Fits free (a ∷ items) [] x y fit_items fit_others h = inr (record { more = a ∷ items; fit = fit_items; list = refl; rest = sym h })
lists_front spell Fits free (a ∷ items) (b ∷ others) x y fit_items fit_others h =
    let whole = sym (append_assoc (spell a) (flat_map spell items) x) ∙ h ∙ append_assoc (spell b) (flat_map spell others) y in
    let first = free.front a b (flat_map spell items ++ x) (flat_map spell others ++ y) fit_items.0 fit_others.0 whole in
    elim (lists_front spell Fits free items others x y fit_items.1 fit_others.1 first.1) [
      | inl longer ↦ inl (one_longer spell Fits a b items others x y first.0 longer)
      | inr longer ↦ inr (one_longer spell Fits b a others items y x (sym first.0) longer)
    ]

none_longer : {A : Type 0} (spell : A → List ℕ) (Fits : A → Type 0) (items others : List A) (x y : List ℕ) → length others ≤ length items → IsLonger spell Fits items others x y → (items ≡ others) × (x ≡ y)
none_longer {A} spell Fits items others x y short longer =
    let nothing : longer.more ≡ [] = nil_from_length longer.more (omega (arith, ap length longer.list, length-append items longer.more)) in
    (sym (longer.list ∙ ap (λ (more : List A). items ++ more) nothing ∙ append-nil items), longer.rest ∙ ap (λ (more : List A). flat_map spell more ++ y) nothing)

-- lists of one length whose spellings begin the same bytes are one
lists_same : {A : Type 0} (spell : A → List ℕ) (Fits : A → Type 0) (free : IsPrefixFree spell Fits) (items others : List A) (x y : List ℕ) → AllByRecursion Fits items → AllByRecursion Fits others → length items ≡ length others → flat_map spell items ++ x ≡ flat_map spell others ++ y
    → (items ≡ others) × (x ≡ y)
lists_same spell Fits free items others x y fit_items fit_others len h =
    elim (lists_front spell Fits free items others x y fit_items fit_others h) [
      | inl longer ↦ none_longer spell Fits items others x y (omega arith) longer
      | inr longer ↦
          let same = none_longer spell Fits others items y x (omega arith) longer in
          (sym same.0, sym same.1)
    ]

pub row_front : (a b : List Value) (x y : List ℕ) → RowFits a → RowFits b → row_bytes a ++ x ≡ row_bytes b ++ y → (a ≡ b) × (x ≡ y)
row_front a b x y fits_a fits_b h =
    let width_a = fits_a.width in
    let width_b = fits_b.width in
    let whole = sym (append_assoc (to_be_bytes w16 (length a)) (values_bytes a) x) ∙ h ∙ append_assoc (to_be_bytes w16 (length b)) (values_bytes b) y in
    let parts = number_front w16 (2 ^ 16) wide16 (length a) (length b) (values_bytes a ++ x) (values_bytes b ++ y) (omega arith) (omega arith) whole in
    lists_same value_bytes ValueFits values_free a b x y fits_a.values fits_b.values parts.0 parts.1

pub rows_free : IsPrefixFree row_bytes RowFits
rows_free = record { front = row_front }

nothing_spelled : (rows : List (List Value)) (rest : List ℕ) → [] ≡ rows_bytes rows ++ rest → rows ≡ []
nothing_spelled [] rest h = refl
nothing_spelled (row ∷ rows) rest h = absurd cc

no_more_rows : (a b : List (List Value)) → IsLonger row_bytes RowFits a b [] [] → a ≡ b
no_more_rows a b longer = sym (longer.list ∙ ap (λ (more : List (List Value)). a ++ more) (nothing_spelled longer.more [] longer.rest) ∙ append-nil a)

pub rows_same : (a b : List (List Value)) → RowsFit a → RowsFit b → rows_bytes a ≡ rows_bytes b → a ≡ b
rows_same a b fit_a fit_b h =
    elim (lists_front row_bytes RowFits rows_free a b [] [] fit_a fit_b (append-nil (rows_bytes a) ∙ h ∙ sym (append-nil (rows_bytes b)))) [
      | inl longer ↦ no_more_rows a b longer
      | inr longer ↦ sym (no_more_rows b a longer)
    ]
