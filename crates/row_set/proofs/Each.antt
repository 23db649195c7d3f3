-- One of each row, of which one more came.
use Rattle.std.proofs.Common.{◌≡◌, ℕ, Bool, true, false, List, [], ◌∷◌, ◌++◌, ◌+◌, map, nat_lt, Some, None, refl, sym, inl, inr, subst, ◌∙◌, ap, if◌then◌else◌}
use Rattle.std.specs.Prelude.{◌||◌, not, filter, cond, position}
use Rattle.std.specs.List.{list_any, flat_map, position_or_len, AllByRecursion}
use Rattle.std.specs.Str.{bytes_eq}
use Rattle.std.specs.Cmp.Lexicographic.{bytes_decides}
use Rattle.std.proofs.lemmas.Bool.{cases_Bool}
use Rattle.std.proofs.lemmas.List.{append-nil, length-map, map-append}
use Rattle.std.proofs.lemmas.List.Elements.{filter-append}
use Rattle.std.proofs.lemmas.Map.Views.{any-filter_same}
use Rattle.indexmap.specs.IndexSet.{insert_key}
use Rattle.row_core.specs.Bags.{one_of_each}
use Rattle.row_core.specs.Encoding.{row_bytes, rows_bytes, RowFits, RowsFit}
use Rattle.row_core.specs.Values.{same_row}
use Rattle.row_core.proofs.Laws.{row_front, rows_same}
use Rattle.bag_laws.specs.Rows.{OneRow as Row}
use Rattle.bag_laws.proofs.Laws.{same_row_is, same-swapped, rows_strict}
use Rattle.row_view.specs.Encoded.{RowOf, Spells}

-- the rows that are not the first
abbrev others : Row → List Row → List Row
others first rows = filter (λ other. not (same_row first other)) rows

left_out : (first row : Row) (rows : List Row) (any : Bool) → not (same_row first row) ≡ false → others first (if any then rows else rows ++ row ∷ []) ≡ others first rows
left_out first row rows true tie = refl
left_out first row rows false tie =
    filter-append (λ other. not (same_row first other)) rows (row ∷ [])
    ∙ ap (λ (b : Bool). others first rows ++ (if b then row ∷ [] else [])) tie ∙ append-nil (others first rows)

goes_last : (first row : Row) (rows : List Row) → not (same_row first row) ≡ true → others first (rows ++ row ∷ []) ≡ others first rows ++ row ∷ []
goes_last first row rows apart =
    filter-append (λ other. not (same_row first other)) rows (row ∷ [])
    ∙ ap (λ (b : Bool). others first rows ++ (if b then row ∷ [] else [])) apart

-- what is found among all but the first is found among all, where the first is another row
pub found_among : (first row : Row) (rows : List Row) → same_row row first ≡ false → list_any (same_row row) (others first rows) ≡ list_any (same_row row) rows
found_among first row rows apart = any-filter_same (same_row row) (λ other. not (same_row first other)) true
    (λ other tie. ap (λ (z : Row). not (same_row first z)) (sym (same_row_is row other tie)) ∙ ap not (same-swapped first row ∙ apart)) rows

step : (first row : Row) (rows : List Row) (tie any : Bool) → same_row row first ≡ tie → list_any (same_row row) rows ≡ any
    → first ∷ others first (if any then rows else rows ++ row ∷ []) ≡ (if (tie || list_any (same_row row) (others first rows)) then first ∷ others first rows else (first ∷ others first rows) ++ row ∷ [])
step first row rows true any is found = ap (λ (l : List Row). first ∷ l) (left_out first row rows any (ap not (same-swapped first row ∙ is)))
step first row rows false true is found =
    ap (λ (b : Bool). if b then first ∷ others first rows else (first ∷ others first rows) ++ row ∷ []) (sym (found_among first row rows is ∙ found))
step first row rows false false is found =
    ap (λ (l : List Row). first ∷ l) (goes_last first row rows (ap not (same-swapped first row ∙ is)))
    ∙ ap (λ (b : Bool). if b then first ∷ others first rows else (first ∷ others first rows) ++ row ∷ []) (sym (found_among first row rows is ∙ found))

-- a row that was there before is left out, and another goes last
pub each_more : (rows : List Row) (row : Row) → one_of_each (rows ++ row ∷ []) ≡ (if list_any (same_row row) (one_of_each rows) then one_of_each rows else one_of_each rows ++ row ∷ [])
each_more [] row = refl
each_more (first ∷ rows) row =
    ap (λ (l : List Row). first ∷ others first l) (each_more rows row)
    ∙ step first row (one_of_each rows) (same_row row first) (list_any (same_row row) (one_of_each rows)) refl refl

-- ---- rows by codes that tell them apart

pub same_codes : (code : Row → List ℕ) (a b : Row) → (code a ≡ code b → a ≡ b) → bytes_eq (code a) (code b) ≡ same_row a b
same_codes code a b tells = elim (cases_Bool (same_row a b)) [
  | inl tie ↦ (bytes_decides (code a) (code b)).1 (ap code (same_row_is a b tie)) ∙ sym tie
  | inr apart ↦ elim (cases_Bool (bytes_eq (code a) (code b))) [
    | inl equal ↦
        let one : a ≡ b = tells ((bytes_decides (code a) (code b)).0 equal) in
        let tie : same_row a b ≡ true = subst (λ (z : Row). same_row a z ≡ true) one (rows_strict.itself a) in
        cc (tie, apart)
    | inr unequal ↦ unequal ∙ sym apart
  ]
]

pub found_by_codes : (code : Row → List ℕ) (P : Row → Type 0) → ((a b : Row) → P a → P b → code a ≡ code b → a ≡ b) → (row : Row) (rows : List Row) → P row → AllByRecursion P rows
    → list_any (bytes_eq (code row)) (map code rows) ≡ list_any (same_row row) rows
found_by_codes code P tells row [] one all = refl
found_by_codes code P tells row (first ∷ rows) one all =
    (λ i. same_codes code row first (tells row first one all.0) i || found_by_codes code P tells row rows one all.1 i)

bytes_tell : (a b : Row) → RowFits a → RowFits b → row_bytes a ≡ row_bytes b → a ≡ b
bytes_tell a b fit_a fit_b same = (row_front a b [] [] fit_a fit_b (ap (λ (l : List ℕ). l ++ []) same)).0

kept_fit : (P : Row → Type 0) (test : Row → Bool) (rows : List Row) → AllByRecursion P rows → AllByRecursion P (filter test rows)
kept_fit P test [] all = tt
kept_fit P test (row ∷ rows) all = by (test row) (kept_fit P test rows all.1)
  where
    by : (b : Bool) → AllByRecursion P (filter test rows) → AllByRecursion P (if b then row ∷ filter test rows else filter test rows)
    by true more = (all.0, more)
    by false more = more

pub each_fit : (P : Row → Type 0) (rows : List Row) → AllByRecursion P rows → AllByRecursion P (one_of_each rows)
each_fit P [] all = tt
each_fit P (row ∷ rows) all = (all.0, kept_fit P (λ other. not (same_row row other)) (one_of_each rows) (each_fit P rows all.1))

pub rows_fit : (width : ℕ) (rows : List Row) → AllByRecursion (RowOf width) rows → RowsFit rows
rows_fit width [] all = tt
rows_fit width (row ∷ rows) all = (all.0.fits, rows_fit width rows all.1)

-- one row more, by its bytes
pub kept_more : (width : ℕ) (rows : List Row) (row : Row) (kept now : List (List ℕ)) → AllByRecursion (RowOf width) rows → RowOf width row → kept ≡ map row_bytes (one_of_each rows)
    → now ≡ insert_key bytes_eq kept (row_bytes row) → now ≡ map row_bytes (one_of_each (rows ++ row ∷ []))
kept_more width rows row kept now wide one is put =
    let each = one_of_each rows in
    let found : list_any (bytes_eq (row_bytes row)) (map row_bytes each) ≡ list_any (same_row row) each =
    found_by_codes row_bytes RowFits bytes_tell row each one.fits (each_fit RowFits rows (rows_fit width rows wide)) in
    put ∙ ap (λ (l : List (List ℕ)). insert_key bytes_eq l (row_bytes row)) is
    ∙ ap (λ (b : Bool). if b then map row_bytes each else map row_bytes each ++ row_bytes row ∷ []) found
    ∙ by each (list_any (same_row row) each) ∙ ap (map row_bytes) (sym (each_more rows row))
  where
    by : (each : List Row) (b : Bool) → (if b then map row_bytes each else map row_bytes each ++ row_bytes row ∷ []) ≡ map row_bytes (if b then each else each ++ row ∷ [])
    by each true = refl
    by each false = sym (map-append row_bytes each (row ∷ []))

pub flat_of_map : (parts : List (List ℕ)) (rows : List Row) → parts ≡ map row_bytes rows → flat_map (λ part. part) parts ≡ rows_bytes rows
flat_of_map parts rows is = ap (flat_map (λ part. part)) is ∙ flat rows
  where
    flat : (rows : List Row) → flat_map (λ part. part) (map row_bytes rows) ≡ rows_bytes rows
    flat [] = refl
    flat (row ∷ rows) = ap (λ (l : List ℕ). row_bytes row ++ l) (flat rows)

-- the bytes of rows spell them, and nothing else
pub spelled_once : (width : ℕ) (rows made : List Row) (bytes : List ℕ) → AllByRecursion (RowOf width) rows → bytes ≡ rows_bytes rows → Spells width bytes made → made ≡ rows
spelled_once width rows made bytes wide is spelled = rows_same made rows (rows_fit width made spelled.0) (rows_fit width rows wide) (sym spelled.1 ∙ is)

-- ---- keys that are texts of bytes

pub any_of_map : {K : Type 0} (f : K → List ℕ) (test : List ℕ → Bool) (keys : List K) → list_any test (map f keys) ≡ list_any (λ key. test (f key)) keys
any_of_map f test [] = refl
any_of_map f test (key ∷ keys) = ap (λ (b : Bool). test (f key) || b) (any_of_map f test keys)

-- a key more, as its bytes
pub inserted : {K : Type 0} (f : K → List ℕ) (keys : List K) (key : K) → map f (insert_key (λ a b. bytes_eq (f a) (f b)) keys key) ≡ insert_key bytes_eq (map f keys) (f key)
inserted f keys key =
    by (list_any (λ other. bytes_eq (f key) (f other)) keys) ∙ ap (λ (b : Bool). if b then map f keys else map f keys ++ f key ∷ []) (sym (any_of_map f (bytes_eq (f key)) keys))
  where
    by : (b : Bool) → map f (if b then keys else keys ++ key ∷ []) ≡ (if b then map f keys else map f keys ++ f key ∷ [])
    by true = refl
    by false = map-append f keys (key ∷ [])

pub there_already : (texts : List (List ℕ)) (bytes : List ℕ) → list_any (bytes_eq bytes) texts ≡ true → texts ≡ insert_key bytes_eq texts bytes
there_already texts bytes found = sym (ap (λ (b : Bool). if b then texts else texts ++ bytes ∷ []) found)

first_of_map : {K : Type 0} (f : K → List ℕ) (test : List ℕ → Bool) (keys : List K) → position_or_len test (map f keys) ≡ position_or_len (λ key. test (f key)) keys
first_of_map f test [] = refl
first_of_map f test (key ∷ keys) = ap (λ (n : ℕ). cond (not (test (f key))) (1 + n) 0) (first_of_map f test keys)

-- the place of the first that passes
pub place_of_map : {K : Type 0} (f : K → List ℕ) (test : List ℕ → Bool) (keys : List K) → position test (map f keys) ≡ position (λ key. test (f key)) keys
place_of_map f test keys =
    (λ i. cond (nat_lt (first_of_map f test keys i) (length-map keys f i)) (Some (first_of_map f test keys i)) None)

-- the texts of keys, one after another
pub flat_of_keys : {K : Type 0} (f : K → List ℕ) (keys : List K) → flat_map f keys ≡ flat_map (λ text. text) (map f keys)
flat_of_keys f [] = refl
flat_of_keys f (key ∷ keys) = ap (λ (l : List ℕ). f key ++ l) (flat_of_keys f keys)
