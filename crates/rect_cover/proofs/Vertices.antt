-- One law for every kind of head.
use Rattle.std.proofs.Common.{add-zero, zero-add, ◌≡◌, get_or, ℕ, zero, suc, ◌+◌, ◌<◌, Bool, List, [], ◌∷◌, map, length, drop, refl, sym, subst, ◌∙◌, arith}
use Rattle.std.proofs.lemmas.List.{length-map}
use Rattle.std.proofs.lemmas.Option.{slice_get-get_or}
use Rattle.std.specs.List.{flat_map, filter, AllZip}
use Rattle.row_core.specs.Bags.{SameBag}
use Rattle.bag_laws.specs.Rows.{OneRow as Row}
use Rattle.bag_laws.proofs.Laws.{total-flat_map, total-zero, SameBag-append, SameBag-filter, SameBag-map, by_weights, same_refl, same_on, same_flat_map, flat_map-split, flat_map-joined}
use Rattle.rect_cover.specs.declared.grid.Grid.{Grid}
use Rattle.rect_cover.specs.Cells.{Reads, Input, rects_of, whole, reading}
use Rattle.rect_cover.specs.Covers.{EachOnce, HasWhole, Demand, IsCover}
use Rattle.rect_cover.specs.Heads.{driven, GivesBags}
use Rattle.rect_cover.specs.Chains.{chained, GivesSame}
use Rattle.rect_cover.specs.Vertices.{Head, by_row, by_key, by_left, by_right, by_pair, by_both, kind_of, grids_of, shape_of, input_at, head_rows, wholes, readings, IsPlaced, GoesByBags, Link, plain, widened, rest_of, linked, LinksByBags}
use Rattle.rect_cover.proofs.Sides.{row_wise, reads_whole, left_driven, inner_pairs}
use Rattle.rect_cover.proofs.Columns.{keyed_columns}
use Rattle.rect_cover.proofs.Fulls.{right_driven, full_columns}
use Rattle.rect_cover.proofs.Chains.{chain_law}

-- each cell of each input once, where the inputs are numbered from first on
abbrev OnceFrom : ℕ → List Input → List Reads → Type 0
OnceFrom first inputs ts = (k : ℕ) (d : Grid) → k < length (grids_of inputs) → EachOnce (get_or (grids_of inputs) k d) (first + k) ts

rows_joined : (inputs : List Input) (first : ℕ) (ts : List Reads) → OnceFrom first inputs ts
    → SameBag (flat_map (λ t. flat_map (λ rows. rows) (readings inputs first t)) ts) (flat_map (λ rows. rows) (wholes inputs))
rows_joined [] first ts once = by_weights (λ w. total-flat_map w (λ t. []) ts ∙ total-zero ts)
rows_joined (input ∷ inputs) first ts once =
    let here : EachOnce input.grid first ts = subst (λ (n : ℕ). EachOnce input.grid n ts) (add-zero first) (once 0 input.grid (omega arith)) in
    let rest : OnceFrom (suc first) inputs ts = λ k d lt.
    let place : first + suc k ≡ suc first + k = omega arith in
    subst (λ (n : ℕ). EachOnce (get_or (grids_of inputs) k d) n ts) place (once (suc k) d (omega arith)) in
    same_on
    (flat_map-split (λ t. reading input.grid input.rows (rects_of t first)) (λ t. flat_map (λ rows. rows) (readings inputs (suc first) t)) ts)
    (SameBag-append
    (flat_map (λ t. reading input.grid input.rows (rects_of t first)) ts) (flat_map (λ t. flat_map (λ rows. rows) (readings inputs (suc first) t)) ts)
    (whole input.grid input.rows) (flat_map (λ rows. rows) (wholes inputs))
    (row_wise input.grid first input.rows ts here) (rows_joined inputs (suc first) ts rest))

pub head_law : (head : Head) (inputs : List Input) (ts : List Reads) → Demand (kind_of head) (grids_of inputs) ts → IsPlaced head inputs
    → SameBag (flat_map (λ t. head_rows head (readings inputs 0 t)) ts) (head_rows head (wholes inputs))
head_law (by_row f) inputs ts demand placed =
    let once : OnceFrom 0 inputs ts = λ k d lt. subst (λ (n : ℕ). EachOnce (get_or (grids_of inputs) k d) n ts) (sym (zero-add k))
    (demand.each k (get_or (grids_of inputs) k d) (slice_get-get_or (grids_of inputs) k d lt)) in
    same_on (flat_map-joined f (λ t. flat_map (λ rows. rows) (readings inputs 0 t)) ts)
    (same_flat_map f f (flat_map (λ t. flat_map (λ rows. rows) (readings inputs 0 t)) ts) (flat_map (λ rows. rows) (wholes inputs)) (λ x. same_refl (f x)) (rows_joined inputs 0 ts once))
head_law (by_key meets op) (input ∷ []) ts demand (keyed, in_column) = keyed_columns meets op keyed input.grid input.rows in_column 0 ts demand
head_law (by_left matches gives) (left ∷ (right ∷ [])) ts demand (bags, in_column) = left_driven matches gives bags left.grid right.grid 0 1 left.rows right.rows in_column ts demand
head_law (by_right matches gives) (left ∷ (right ∷ [])) ts demand (bags, in_column) = right_driven matches gives bags left.grid right.grid 0 1 left.rows right.rows in_column ts demand
head_law (by_pair matches pair) (left ∷ (right ∷ [])) ts demand in_column = inner_pairs matches pair left.grid right.grid 0 1 left.rows right.rows in_column ts demand
head_law (by_both matches gives lonely) (left ∷ (right ∷ [])) ts demand (bags, lonely_bags, in_column) = full_columns matches gives lonely bags lonely_bags left.grid right.grid 0 1 left.rows right.rows in_column ts demand
head_law head inputs ts demand placed = absurd placed

-- heads and chains go by the bags of their inputs

driven-same : (matches : Row → Row → Bool) (gives : Row → List Row → List Row) (xs xs' ys ys' : List Row) → GivesBags gives → SameBag xs xs' → SameBag ys ys'
    → SameBag (driven matches gives xs ys) (driven matches gives xs' ys')
driven-same matches gives xs xs' ys ys' bags left right =
    same_flat_map (λ l. gives l (filter (matches l) ys)) (λ l. gives l (filter (matches l) ys')) xs xs'
    (λ l. bags.same l (filter (matches l) ys) (filter (matches l) ys') (SameBag-filter (matches l) ys ys' right)) left

map_gives : (pair : Row → Row → Row) → GivesBags (λ l ms. map (λ r. pair l r) ms)
map_gives pair = record { same = λ l ms ns same. SameBag-map (λ r. pair l r) ms ns same }

joined-same : (xs ys : List (List Row)) → AllZip SameBag xs ys → SameBag (flat_map (λ rows. rows) xs) (flat_map (λ rows. rows) ys)
joined-same [] [] same = same_refl []
joined-same [] (y ∷ ys) same = absurd same
joined-same (x ∷ xs) [] same = absurd same
joined-same (x ∷ xs) (y ∷ ys) (here, rest) = SameBag-append x (flat_map (λ rows. rows) xs) y (flat_map (λ rows. rows) ys) here (joined-same xs ys rest)

input-same : (xs ys : List (List Row)) (i : ℕ) → AllZip SameBag xs ys → SameBag (input_at xs i) (input_at ys i)
input-same [] [] i same = same_refl []
input-same [] (y ∷ ys) i same = absurd same
input-same (x ∷ xs) [] i same = absurd same
input-same (x ∷ xs) (y ∷ ys) zero same = same.0
input-same (x ∷ xs) (y ∷ ys) (suc i) same = input-same xs ys i same.1

pub head_rows-same : (head : Head) (xs ys : List (List Row)) → GoesByBags head → AllZip SameBag xs ys → SameBag (head_rows head xs) (head_rows head ys)
head_rows-same (by_row f) xs ys bags same = same_flat_map f f (flat_map (λ rows. rows) xs) (flat_map (λ rows. rows) ys) (λ x. same_refl (f x)) (joined-same xs ys same)
head_rows-same (by_key meets op) xs ys keyed same = keyed.same (input_at xs 0) (input_at ys 0) (input-same xs ys 0 same)
head_rows-same (by_left matches gives) xs ys bags same = driven-same matches gives (input_at xs 0) (input_at ys 0) (input_at xs 1) (input_at ys 1) bags (input-same xs ys 0 same) (input-same xs ys 1 same)
head_rows-same (by_right matches gives) xs ys bags same = driven-same (λ r l. matches l r) gives (input_at xs 1) (input_at ys 1) (input_at xs 0) (input_at ys 0) bags (input-same xs ys 1 same) (input-same xs ys 0 same)
head_rows-same (by_pair matches pair) xs ys bags same = driven-same matches (λ l ms. map (λ r. pair l r) ms) (input_at xs 0) (input_at ys 0) (input_at xs 1) (input_at ys 1) (map_gives pair) (input-same xs ys 0 same) (input-same xs ys 1 same)
head_rows-same (by_both matches gives lonely) xs ys (bags, lonely_bags) same =
    SameBag-append
    (driven matches gives (input_at xs 0) (input_at xs 1)) (driven (λ r l. matches l r) lonely (input_at xs 1) (input_at xs 0))
    (driven matches gives (input_at ys 0) (input_at ys 1)) (driven (λ r l. matches l r) lonely (input_at ys 1) (input_at ys 0))
    (driven-same matches gives (input_at xs 0) (input_at ys 0) (input_at xs 1) (input_at ys 1) bags (input-same xs ys 0 same) (input-same xs ys 1 same))
    (driven-same (λ r l. matches l r) lonely (input_at xs 1) (input_at ys 1) (input_at xs 0) (input_at ys 0) lonely_bags (input-same xs ys 1 same) (input-same xs ys 0 same))

rest-same : (xs ys : List (List Row)) → AllZip SameBag xs ys → AllZip SameBag (rest_of xs) (rest_of ys)
rest-same [] [] same = tt
rest-same [] (y ∷ ys) same = absurd same
rest-same (x ∷ xs) [] same = absurd same
rest-same (x ∷ xs) (y ∷ ys) same = same.1

pub linked-same : (links : List Link) (xs ys : List (List Row)) → LinksByBags links → AllZip SameBag xs ys → AllZip GivesSame (linked links xs) (linked links ys)
linked-same [] xs ys bags same = tt
linked-same (plain f ∷ links) xs ys bags same = (record { each = λ x. same_refl (f x) }, linked-same links xs ys bags same)
linked-same (widened step ∷ links) xs ys bags same =
    (record { each = λ r. bags.0 (input_at xs 0) (input_at ys 0) (input-same xs ys 0 same) r }, linked-same links (rest_of xs) (rest_of ys) bags.1 (rest-same xs ys same))

-- the wide inputs are read whole

drop-head : {A : Type 0} (t : List A) (n : ℕ) (d x : A) (rest : List A) → drop n t ≡ x ∷ rest → get_or t n d ≡ x
drop-head [] zero d x rest e = cc
drop-head [] (suc n) d x rest e = cc
drop-head (y ∷ t) zero d x rest e = cc
drop-head (y ∷ t) (suc n) d x rest e = drop-head t n d x rest e

drop-rest : {A : Type 0} (t : List A) (n : ℕ) (x : A) (rest : List A) → drop n t ≡ x ∷ rest → drop (suc n) t ≡ rest
drop-rest [] zero x rest e = cc
drop-rest [] (suc n) x rest e = cc
drop-rest (y ∷ t) zero x rest e = cc
drop-rest (y ∷ t) (suc n) x rest e = drop-rest t n x rest e

readings-whole : (wide : List Input) (first : ℕ) (t : Reads) → AllZip HasWhole (grids_of wide) (drop first t) → AllZip SameBag (readings wide first t) (wholes wide)
readings-whole [] first t has = tt
readings-whole (input ∷ wide) first t has = by (drop first t) refl has (λ more. readings-whole wide (suc first) t more)
  where
    by : (l : Reads) → drop first t ≡ l → AllZip HasWhole (input.grid ∷ grids_of wide) l → (AllZip HasWhole (grids_of wide) (drop (suc first) t) → AllZip SameBag (readings wide (suc first) t) (wholes wide))
        → AllZip SameBag (reading input.grid input.rows (rects_of t first) ∷ readings wide (suc first) t) (whole input.grid input.rows ∷ wholes wide)
    by [] e has rest = absurd has
    by (rects ∷ l) e has rest = (
      reads_whole input.grid first input.rows t (subst (HasWhole input.grid) (sym (drop-head t first [] rects l e)) has.0),
      rest (subst (λ (l : Reads). AllZip HasWhole (grids_of wide) l) (sym (drop-rest t first rects l e)) has.1),
    )

-- what the vertex gives, of whole bags
pub vertex_law : (head : Head) (links : List Link) (inputs wide : List Input) (ts : List Reads) → IsCover (shape_of head inputs wide) ts → IsPlaced head inputs → LinksByBags links
    → SameBag (flat_map (λ t. chained (linked links (readings wide (length inputs) t)) (head_rows head (readings inputs 0 t))) ts)
    (chained (linked links (wholes wide)) (head_rows head (wholes inputs)))
vertex_law head links inputs wide ts cover placed bags =
    chain_law (λ t. linked links (readings wide (length inputs) t)) (linked links (wholes wide)) (λ t. head_rows head (readings inputs 0 t)) (head_rows head (wholes inputs)) ts
    (λ k d lt. linked-same links (readings wide (length inputs) (get_or ts k d)) (wholes wide) bags
    (readings-whole wide (length inputs) (get_or ts k d)
    (subst (λ (n : ℕ). AllZip HasWhole (grids_of wide) (drop n (get_or ts k d))) (length-map inputs (λ (input : Input). input.grid)) (cover.wide k d lt))))
    (head_law head inputs ts cover.demand placed)
