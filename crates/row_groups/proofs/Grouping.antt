-- The groups of rows, of which one more came.
use Rattle.std.proofs.Common.{◌≡◌, ◌<◌, ℕ, zero, suc, Bool, true, false, List, [], ◌∷◌, ◌++◌, length, map, get_or, set, refl, sym, ◌∙◌, ap, arith, if◌then◌else◌}
use Rattle.std.specs.Prelude.{◌||◌, not, filter}
use Rattle.std.specs.List.{list_any}
use Rattle.std.proofs.lemmas.List.{append-nil, map-append}
use Rattle.std.proofs.lemmas.List.Elements.{filter-append}
use Rattle.std.proofs.lemmas.Map.Views.{any-filter_same}
use Rattle.row_core.specs.Bags.{one_of_each}
use Rattle.row_core.specs.Hashing.{key_of}
use Rattle.row_core.specs.Values.{same_row}
use Rattle.bag_laws.specs.Rows.{OneRow as Row}
use Rattle.bag_laws.proofs.Laws.{same-swapped, rows_strict}
use Rattle.plan_model.specs.Operators.{rows_with}
use Rattle.row_set.proofs.Laws.{each_more, found_among}
use Rattle.row_groups.specs.Held.{keys_of}

-- ---- rows that differ

-- no two of the rows are equal
abbrev pub Differ : List Row → Type 0
Differ [] = Unit {0}
Differ (row ∷ rows) = (list_any (same_row row) rows ≡ false) × Differ rows

first_out : (a b : Bool) → (a || b) ≡ false → a ≡ false
first_out true b e = cc
first_out false b e = refl

second_out : (a b : Bool) → (a || b) ≡ false → b ≡ false
second_out true b e = cc
second_out false b e = e

still_none : (test p : Row → Bool) (rows : List Row) → list_any test rows ≡ false → list_any test (filter p rows) ≡ false
still_none test p [] none = refl
still_none test p (row ∷ rows) none = by (p row) (still_none test p rows (second_out (test row) (list_any test rows) none))
  where
    by : (b : Bool) → list_any test (filter p rows) ≡ false → list_any test (if b then row ∷ filter p rows else filter p rows) ≡ false
    by true more = (λ i. first_out (test row) (list_any test rows) none i || more i)
    by false more = more

differ_kept : (p : Row → Bool) (rows : List Row) → Differ rows → Differ (filter p rows)
differ_kept p [] differ = tt
differ_kept p (row ∷ rows) differ = by (p row) (differ_kept p rows differ.1)
  where
    by : (b : Bool) → Differ (filter p rows) → Differ (if b then row ∷ filter p rows else filter p rows)
    by true more = (still_none (same_row row) p rows differ.0, more)
    by false more = more

pub each_differ : (rows : List Row) → Differ (one_of_each rows)
each_differ [] = tt
each_differ (row ∷ rows) = (
  any-filter_same (same_row row) (λ other. not (same_row row other)) false (λ other tie. ap not tie) (one_of_each rows),
  differ_kept (λ other. not (same_row row other)) (one_of_each rows) (each_differ rows),
)

-- a row that is found among the others, once each or as they come
pub found_each : (row : Row) (rows : List Row) → list_any (same_row row) (one_of_each rows) ≡ list_any (same_row row) rows
found_each row [] = refl
found_each row (first ∷ rows) = by (same_row row first) refl (found_each row rows)
  where
    by : (b : Bool) → same_row row first ≡ b → list_any (same_row row) (one_of_each rows) ≡ list_any (same_row row) rows
        → (same_row row first || list_any (same_row row) (filter (λ other. not (same_row first other)) (one_of_each rows))) ≡ (same_row row first || list_any (same_row row) rows)
    by true tie rest = (λ i. tie i || list_any (same_row row) (filter (λ other. not (same_row first other)) (one_of_each rows))) ∙ sym (λ i. tie i || list_any (same_row row) rows)
    by false apart rest = ap (λ (b : Bool). same_row row first || b) (found_among first row (one_of_each rows) apart ∙ rest)

not_at : (row : Row) (rows : List Row) (place : ℕ) → place < length rows → list_any (same_row row) rows ≡ false → same_row row (get_or rows place []) ≡ false
not_at row [] place lt none = absurd (omega arith)
not_at row (first ∷ rows) zero lt none = first_out (same_row row first) (list_any (same_row row) rows) none
not_at row (first ∷ rows) (suc place) lt none = not_at row rows place (omega arith) (second_out (same_row row first) (list_any (same_row row) rows) none)

-- ---- what changes for one key alone

pub others_stay : {X : Type 0} (f g : Row → X) (key : Row) (keys : List Row) → ((other : Row) → same_row key other ≡ false → g other ≡ f other) → list_any (same_row key) keys ≡ false → map g keys ≡ map f keys
others_stay f g key [] stays none = refl
others_stay f g key (other ∷ keys) stays none =
    (λ i. stays other (first_out (same_row key other) (list_any (same_row key) keys) none) i ∷ others_stay f g key keys stays (second_out (same_row key other) (list_any (same_row key) keys) none) i)

pub one_changes : {X : Type 0} (f g : Row → X) (key : Row) (keys : List Row) (place : ℕ) → ((other : Row) → same_row key other ≡ false → g other ≡ f other) → Differ keys → place < length keys → get_or keys place [] ≡ key
    → map g keys ≡ set (map f keys) place (g key)
one_changes f g key [] place stays differ lt here = absurd (omega arith)
one_changes f g key (other ∷ keys) zero stays differ lt here =
    let none : list_any (same_row key) keys ≡ false = ap (λ (k : Row). list_any (same_row k) keys) (sym here) ∙ differ.0 in
    (λ i. g (here i) ∷ others_stay f g key keys stays none i)
one_changes f g key (other ∷ keys) (suc place) stays differ lt here =
    let apart : same_row key other ≡ false = same-swapped key other ∙ ap (same_row other) (sym here) ∙ not_at other keys place (omega arith) differ.0 in
    (λ i. stays other apart i ∷ one_changes f g key keys place stays differ.1 (omega arith) here i)

-- ---- the rows of a key

with_more : (keys : List ℕ) (key : Row) (rows : List Row) (row : Row) → rows_with keys key (rows ++ row ∷ []) ≡ rows_with keys key rows ++ (if same_row (key_of keys row) key then row ∷ [] else [])
with_more keys key rows row = filter-append (λ row. same_row (key_of keys row) key) rows (row ∷ [])

-- what is told of a key's rows
abbrev pub told_by : {X : Type 0} → (List Row → X) → List ℕ → List Row → Row → X
told_by f keys rows key = f (rows_with keys key rows)

stays_told : {X : Type 0} (f : List Row → X) (keys : List ℕ) (rows : List Row) (row other : Row) → same_row (key_of keys row) other ≡ false → told_by f keys (rows ++ row ∷ []) other ≡ told_by f keys rows other
stays_told f keys rows row other apart =
    ap f (with_more keys other rows row ∙ ap (λ (b : Bool). rows_with keys other rows ++ (if b then row ∷ [] else [])) apart ∙ append-nil (rows_with keys other rows))

own_told : {X : Type 0} (f : List Row → X) (keys : List ℕ) (rows : List Row) (row : Row) → told_by f keys (rows ++ row ∷ []) (key_of keys row) ≡ f (rows_with keys (key_of keys row) rows ++ row ∷ [])
own_told f keys rows row =
    ap f (with_more keys (key_of keys row) rows row ∙ ap (λ (b : Bool). rows_with keys (key_of keys row) rows ++ (if b then row ∷ [] else [])) (rows_strict.itself (key_of keys row)))

pub none_with : (keys : List ℕ) (key : Row) (rows : List Row) → list_any (same_row key) (map (key_of keys) rows) ≡ false → rows_with keys key rows ≡ []
none_with keys key [] none = refl
none_with keys key (row ∷ rows) none =
    let apart : same_row (key_of keys row) key ≡ false = same-swapped (key_of keys row) key ∙ first_out (same_row key (key_of keys row)) (list_any (same_row key) (map (key_of keys) rows)) none in
    ap (λ (b : Bool). if b then row ∷ rows_with keys key rows else rows_with keys key rows) apart
    ∙ none_with keys key rows (second_out (same_row key (key_of keys row)) (list_any (same_row key) (map (key_of keys) rows)) none)

-- ---- the whole

keys_more : (keys : List ℕ) (rows : List Row) (row : Row) (b : Bool) → list_any (same_row (key_of keys row)) (keys_of keys rows) ≡ b
    → keys_of keys (rows ++ row ∷ []) ≡ (if b then keys_of keys rows else keys_of keys rows ++ key_of keys row ∷ [])
keys_more keys rows row b is =
    ap one_of_each (map-append (key_of keys) rows (row ∷ [])) ∙ each_more (map (key_of keys) rows) (key_of keys row)
    ∙ ap (λ (b : Bool). if b then keys_of keys rows else keys_of keys rows ++ key_of keys row ∷ []) is

-- the key was there
pub told_there : {X : Type 0} (f : List Row → X) (keys : List ℕ) (rows : List Row) (row : Row) (place : ℕ) (told now : List X)
    → list_any (same_row (key_of keys row)) (keys_of keys rows) ≡ true → place < length (keys_of keys rows) → get_or (keys_of keys rows) place [] ≡ key_of keys row
    → told ≡ map (told_by f keys rows) (keys_of keys rows) → now ≡ set told place (f (rows_with keys (key_of keys row) rows ++ row ∷ []))
    → (keys_of keys (rows ++ row ∷ []) ≡ keys_of keys rows) × (now ≡ map (told_by f keys (rows ++ row ∷ [])) (keys_of keys (rows ++ row ∷ [])))
told_there f keys rows row place told now found lt here was put =
    let same : keys_of keys (rows ++ row ∷ []) ≡ keys_of keys rows = keys_more keys rows row true found in (
      same,
      put ∙ (λ i. set (was i) place (sym (own_told f keys rows row) i))
          ∙ sym (one_changes (told_by f keys rows) (told_by f keys (rows ++ row ∷ [])) (key_of keys row) (keys_of keys rows) place (stays_told f keys rows row) (each_differ (map (key_of keys) rows)) lt here)
          ∙ ap (map (told_by f keys (rows ++ row ∷ []))) (sym same),
    )

-- the key is new
pub told_new : {X : Type 0} (f : List Row → X) (keys : List ℕ) (rows : List Row) (row : Row) (told now : List X)
    → list_any (same_row (key_of keys row)) (keys_of keys rows) ≡ false → told ≡ map (told_by f keys rows) (keys_of keys rows) → now ≡ told ++ f (row ∷ []) ∷ []
    → (keys_of keys (rows ++ row ∷ []) ≡ keys_of keys rows ++ key_of keys row ∷ []) × (now ≡ map (told_by f keys (rows ++ row ∷ [])) (keys_of keys (rows ++ row ∷ [])))
told_new f keys rows row told now found was put =
    let key = key_of keys row in
    let more : keys_of keys (rows ++ row ∷ []) ≡ keys_of keys rows ++ key ∷ [] = keys_more keys rows row false found in
    let none : rows_with keys key rows ≡ [] = none_with keys key rows (sym (found_each key (map (key_of keys) rows)) ∙ found) in
    let own : f (row ∷ []) ≡ told_by f keys (rows ++ row ∷ []) key = ap (λ (some : List Row). f (some ++ row ∷ [])) (sym none) ∙ sym (own_told f keys rows row) in (
      more,
      put
          ∙ (λ i. (was ∙ sym (others_stay (told_by f keys rows) (told_by f keys (rows ++ row ∷ [])) key (keys_of keys rows) (stays_told f keys rows row) found)) i ++ own i ∷ [])
          ∙ sym (map-append (told_by f keys (rows ++ row ∷ [])) (keys_of keys rows) (key ∷ []))
          ∙ ap (map (told_by f keys (rows ++ row ∷ []))) (sym more),
    )
