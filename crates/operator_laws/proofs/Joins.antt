-- Joins go by the bags of their sides, and some row by row; rows that match have one key.
use Rattle.std.proofs.Common.{◌≡◌, ℕ, Bool, true, false, cond, List, [], ◌∷◌, ◌++◌, length, map, get_or, refl, sym, ap, subst, IsTrue, arith, ◌&&◌, not, if◌then◌else◌}
use Rattle.std.proofs.lemmas.List.{append-nil}
use Rattle.std.proofs.lemmas.List.Concat.{flat_map-append}
use Rattle.std.proofs.lemmas.List.Sorted.{length_permutation}
use Rattle.std.specs.List.{filter, flat_map}
use Rattle.std.specs.Ordering.{is_eq}
use Rattle.std.specs.declared.cmp.Ordering.{Ordering}
use Rattle.std.specs.declared.cmp.Ordering.TheVariants.{Less, Equal, Greater}
use Rattle.row_core.specs.Bags.{SameBag}
use Rattle.row_core.specs.Exprs.{is_null}
use Rattle.row_core.specs.Values.{value_cmp, same_value}
use Rattle.row_core.specs.declared.value.Value.{Value}
use Rattle.row_core.specs.declared.value.Value.TheVariants.{Null}
use Rattle.bag_laws.specs.Rows.{OneRow as Row}
use Rattle.bag_laws.proofs.Laws.{same_refl, same_sym, same_on, same_flat_map, same_each, flat_map-swap, SameBag-append, SameBag-filter, SameBag-map, permutation_of_same, value_apart}
use Rattle.plan_model.specs.Joins.{meets, matches, nulls, or_padded, if_matched, if_unmatched, joined}
use Rattle.plan_model.specs.Operators.{key_of}
use Rattle.plan_model.specs.declared.join_kind.JoinKind.{JoinKind}
use Rattle.plan_model.specs.declared.join_kind.JoinKind.TheVariants as kind
use Rattle.operator_laws.specs.Applied.{left_columns, right_columns}
use Rattle.plan_model.specs.Operators.{repeats_left, repeats_right}

long : (xs ys : List Row) → SameBag xs ys → length ys ≡ length xs
long xs ys same = length_permutation xs ys (permutation_of_same xs ys same)

pub padded_same : (padded : Row) (xs ys : List Row) → SameBag xs ys → SameBag (or_padded padded xs) (or_padded padded ys)
padded_same padded [] [] same = same_refl (padded ∷ [])
padded_same padded [] (y ∷ ys) same = absurd (let size = long [] (y ∷ ys) same in omega arith)
padded_same padded (x ∷ xs) [] same = absurd (let size = long (x ∷ xs) [] same in omega arith)
padded_same padded (x ∷ xs) (y ∷ ys) same = same

pub matched_same : (row : Row) (xs ys : List Row) → SameBag xs ys → SameBag (if_matched row xs) (if_matched row ys)
matched_same row [] [] same = same_refl []
matched_same row [] (y ∷ ys) same = absurd (let size = long [] (y ∷ ys) same in omega arith)
matched_same row (x ∷ xs) [] same = absurd (let size = long (x ∷ xs) [] same in omega arith)
matched_same row (x ∷ xs) (y ∷ ys) same = same_refl (row ∷ [])

pub unmatched_same : (row : Row) (xs ys : List Row) → SameBag xs ys → SameBag (if_unmatched row xs) (if_unmatched row ys)
unmatched_same row [] [] same = same_refl (row ∷ [])
unmatched_same row [] (y ∷ ys) same = absurd (let size = long [] (y ∷ ys) same in omega arith)
unmatched_same row (x ∷ xs) [] same = absurd (let size = long (x ∷ xs) [] same in omega arith)
unmatched_same row (x ∷ xs) (y ∷ ys) same = same_refl []

-- what a row gives with its matches goes by their bag
abbrev pub ByMatches : (Row → List Row → List Row) → Type 0
ByMatches gives = (row : Row) (xs ys : List Row) → SameBag xs ys → SameBag (gives row xs) (gives row ys)

pairs_same : (pair : Row → Row → Row) → ByMatches (λ row matched. map (pair row) matched)
pairs_same pair row xs ys same = SameBag-map (pair row) xs ys same

padded_pairs_same : (padded : Row → Row) (pair : Row → Row → Row) → ByMatches (λ row matched. or_padded (padded row) (map (pair row) matched))
padded_pairs_same padded pair row xs ys same = padded_same (padded row) (map (pair row) xs) (map (pair row) ys) (SameBag-map (pair row) xs ys same)

-- what the rows of one side give with their matches on the other
pub side_same : (gives : Row → List Row → List Row) → ByMatches gives → (test : Row → Row → Bool) (rows rows' others others' : List Row)
    → SameBag rows rows' → SameBag others others'
    → SameBag (flat_map (λ row. gives row (filter (test row) others)) rows) (flat_map (λ row. gives row (filter (test row) others')) rows')
side_same gives by_matches test rows rows' others others' same same' =
    same_flat_map (λ row. gives row (filter (test row) others)) (λ row. gives row (filter (test row) others')) rows rows'
    (λ row. by_matches row (filter (test row) others) (filter (test row) others') (SameBag-filter (test row) others others' same')) same

-- each left row with its matches, or with Nulls in their place
padded_side_same : (keys : List (ℕ × ℕ)) (width : ℕ) (left left' right right' : List Row) → SameBag left left' → SameBag right right'
    → SameBag (flat_map (λ row. or_padded (row ++ nulls width) (map (λ other. row ++ other) (filter (matches keys row) right))) left)
    (flat_map (λ row. or_padded (row ++ nulls width) (map (λ other. row ++ other) (filter (matches keys row) right'))) left')
padded_side_same keys width left left' right right' same same' =
    side_same (λ row matched. or_padded (row ++ nulls width) (map (λ other. row ++ other) matched)) (padded_pairs_same (λ row. row ++ nulls width) (λ row other. row ++ other))
    (matches keys) left left' right right' same same'

pub joined_same : (join : JoinKind) (keys : List (ℕ × ℕ)) (left_width right_width : ℕ) (left left' right right' : List Row) → SameBag left left' → SameBag right right'
    → SameBag (joined keys left_width right_width left right join) (joined keys left_width right_width left' right' join)
joined_same kind.Inner keys lw rw left left' right right' same same' =
    side_same (λ row matched. map (λ other. row ++ other) matched) (pairs_same (λ row other. row ++ other)) (matches keys) left left' right right' same same'
joined_same kind.Left keys lw rw left left' right right' same same' = padded_side_same keys rw left left' right right' same same'
joined_same kind.Right keys lw rw left left' right right' same same' =
    side_same (λ row matched. or_padded (nulls lw ++ row) (map (λ other. other ++ row) matched)) (padded_pairs_same (λ row. nulls lw ++ row) (λ row other. other ++ row))
    (λ row other. matches keys other row) right right' left left' same' same
joined_same kind.Full keys lw rw left left' right right' same same' =
    let by_left : List Row → List Row → List Row = λ left right. flat_map (λ row. or_padded (row ++ nulls rw) (map (λ other. row ++ other) (filter (matches keys row) right))) left in
    let by_right : List Row → List Row → List Row = λ left right. flat_map (λ row. if_unmatched (nulls lw ++ row) (filter (λ other. matches keys other row) left)) right in
    SameBag-append (by_left left right) (by_right left right) (by_left left' right') (by_right left' right')
    (padded_side_same keys rw left left' right right' same same')
    (side_same (λ row matched. if_unmatched (nulls lw ++ row) matched) (λ row xs ys. unmatched_same (nulls lw ++ row) xs ys)
    (λ row other. matches keys other row) right right' left left' same' same)
joined_same kind.Semi keys lw rw left left' right right' same same' = side_same if_matched matched_same (matches keys) left left' right right' same same'
joined_same kind.Anti keys lw rw left left' right right' same same' = side_same if_unmatched unmatched_same (matches keys) left left' right right' same same'

-- ---- row by row

-- row by row of a list is what each row gives by itself
alone : (f : Row → List Row) (rows : List Row) → flat_map f rows ≡ flat_map (λ row. flat_map f (row ∷ [])) rows
alone f [] = refl
alone f (row ∷ rows) = λ i. sym (append-nil (f row)) i ++ alone f rows i

pub left_none : (join : JoinKind) (keys : List (ℕ × ℕ)) (lw rw : ℕ) (right : List Row) → IsTrue (repeats_right join) → joined keys lw rw [] right join ≡ []
left_none kind.Inner keys lw rw right repeats = refl
left_none kind.Left keys lw rw right repeats = refl
left_none kind.Right keys lw rw right repeats = cc
left_none kind.Full keys lw rw right repeats = cc
left_none kind.Semi keys lw rw right repeats = refl
left_none kind.Anti keys lw rw right repeats = refl

pub left_sum : (join : JoinKind) (keys : List (ℕ × ℕ)) (lw rw : ℕ) (left more right : List Row) → IsTrue (repeats_right join)
    → joined keys lw rw (left ++ more) right join ≡ joined keys lw rw left right join ++ joined keys lw rw more right join
left_sum kind.Inner keys lw rw left more right repeats = flat_map-append (λ row. map (λ other. row ++ other) (filter (matches keys row) right)) left more
left_sum kind.Left keys lw rw left more right repeats =
    flat_map-append (λ row. or_padded (row ++ nulls rw) (map (λ other. row ++ other) (filter (matches keys row) right))) left more
left_sum kind.Right keys lw rw left more right repeats = cc
left_sum kind.Full keys lw rw left more right repeats = cc
left_sum kind.Semi keys lw rw left more right repeats = flat_map-append (λ row. if_matched row (filter (matches keys row) right)) left more
left_sum kind.Anti keys lw rw left more right repeats = flat_map-append (λ row. if_unmatched row (filter (matches keys row) right)) left more

pub left_each : (join : JoinKind) (keys : List (ℕ × ℕ)) (lw rw : ℕ) (left right : List Row) → IsTrue (repeats_right join)
    → joined keys lw rw left right join ≡ flat_map (λ row. joined keys lw rw (row ∷ []) right join) left
left_each kind.Inner keys lw rw left right repeats = alone (λ row. map (λ other. row ++ other) (filter (matches keys row) right)) left
left_each kind.Left keys lw rw left right repeats = alone (λ row. or_padded (row ++ nulls rw) (map (λ other. row ++ other) (filter (matches keys row) right))) left
left_each kind.Right keys lw rw left right repeats = cc
left_each kind.Full keys lw rw left right repeats = cc
left_each kind.Semi keys lw rw left right repeats = alone (λ row. if_matched row (filter (matches keys row) right)) left
left_each kind.Anti keys lw rw left right repeats = alone (λ row. if_unmatched row (filter (matches keys row) right)) left

same_from : (xs ys : List Row) → xs ≡ ys → SameBag xs ys
same_from xs ys e = subst (λ (rows : List Row). SameBag xs rows) e (same_refl xs)

-- the pairs of an inner join, found from the right
abbrev pairs_of_right : List (ℕ × ℕ) → List Row → Row → List Row
pairs_of_right keys left row = map (λ other. other ++ row) (filter (λ other. matches keys other row) left)

-- a filter and a map, as a sum over all rows
picked : (test : Row → Bool) (f : Row → Row) (rows : List Row) → flat_map (λ row. if test row then f row ∷ [] else []) rows ≡ map f (filter test rows)
picked test f [] = refl
picked test f (row ∷ rows) = by (test row) (picked test f rows)
  where
    by : (b : Bool) → flat_map (λ row. if test row then f row ∷ [] else []) rows ≡ map f (filter test rows)
        → (if b then f row ∷ [] else []) ++ flat_map (λ row. if test row then f row ∷ [] else []) rows ≡ map f (cond b (row ∷ filter test rows) (filter test rows))
    by true rest = ap (λ (l : List Row). f row ∷ l) rest
    by false rest = rest

inner_turned : (keys : List (ℕ × ℕ)) (lw rw : ℕ) (left right : List Row) → SameBag (joined keys lw rw left right kind.Inner) (flat_map (pairs_of_right keys left) right)
inner_turned keys lw rw left right =
    let one : Row → Row → List Row = λ row other. if matches keys row other then (row ++ other) ∷ [] else [] in
    same_on (same_each (λ row. map (λ other. row ++ other) (filter (matches keys row) right)) (λ row. flat_map (one row) right) left
    (λ row. same_from (map (λ other. row ++ other) (filter (matches keys row) right)) (flat_map (one row) right) (sym (picked (matches keys row) (λ other. row ++ other) right))))
    (same_on (flat_map-swap one left right)
    (same_each (λ other. flat_map (λ row. one row other) left) (pairs_of_right keys left) right
    (λ other. same_from (flat_map (λ row. one row other) left) (pairs_of_right keys left other) (picked (λ row. matches keys row other) (λ row. row ++ other) left))))

-- a join whose left side may be repeated, as a sum over its right rows
abbrev right_rows : List (ℕ × ℕ) → ℕ → List Row → JoinKind → Row → List Row
right_rows keys lw left kind.Right row = or_padded (nulls lw ++ row) (pairs_of_right keys left row)
right_rows keys lw left _ row = pairs_of_right keys left row

by_right : (join : JoinKind) (keys : List (ℕ × ℕ)) (lw rw : ℕ) (left right : List Row) → IsTrue (repeats_left join)
    → SameBag (joined keys lw rw left right join) (flat_map (right_rows keys lw left join) right)
by_right kind.Inner keys lw rw left right repeats = inner_turned keys lw rw left right
by_right kind.Left keys lw rw left right repeats = cc
by_right kind.Right keys lw rw left right repeats = same_refl (joined keys lw rw left right kind.Right)
by_right kind.Full keys lw rw left right repeats = cc
by_right kind.Semi keys lw rw left right repeats = cc
by_right kind.Anti keys lw rw left right repeats = cc

pub right_none : (join : JoinKind) (keys : List (ℕ × ℕ)) (lw rw : ℕ) (left : List Row) → IsTrue (repeats_left join) → SameBag (joined keys lw rw left [] join) []
right_none join keys lw rw left repeats = by_right join keys lw rw left [] repeats

pub right_sum : (join : JoinKind) (keys : List (ℕ × ℕ)) (lw rw : ℕ) (left right more : List Row) → IsTrue (repeats_left join)
    → SameBag (joined keys lw rw left (right ++ more) join) (joined keys lw rw left right join ++ joined keys lw rw left more join)
right_sum join keys lw rw left right more repeats =
    let f : Row → List Row = right_rows keys lw left join in
    same_on (by_right join keys lw rw left (right ++ more) repeats)
    (same_on (same_from (flat_map f (right ++ more)) (flat_map f right ++ flat_map f more) (flat_map-append f right more))
    (same_sym (SameBag-append (joined keys lw rw left right join) (joined keys lw rw left more join) (flat_map f right) (flat_map f more)
    (by_right join keys lw rw left right repeats) (by_right join keys lw rw left more repeats))))

pub right_each : (join : JoinKind) (keys : List (ℕ × ℕ)) (lw rw : ℕ) (left right : List Row) → IsTrue (repeats_left join)
    → SameBag (joined keys lw rw left right join) (flat_map (λ row. joined keys lw rw left (row ∷ []) join) right)
right_each join keys lw rw left right repeats =
    let f : Row → List Row = right_rows keys lw left join in
    same_on (by_right join keys lw rw left right repeats)
    (same_on (same_from (flat_map f right) (flat_map (λ row. flat_map f (row ∷ [])) right) (alone f right))
    (same_sym (same_each (λ row. joined keys lw rw left (row ∷ []) join) (λ row. flat_map f (row ∷ [])) right (λ row. by_right join keys lw rw left (row ∷ []) repeats))))

-- ---- rows that match have equal keys

equal_values : (a b : Value) → same_value a b ≡ true → a ≡ b
equal_values a b e = value_apart a b (equal_from (value_cmp a b) e)
  where
    equal_from : (r : Ordering) → is_eq r ≡ true → r ≡ Equal
    equal_from Less e = cc
    equal_from Equal e = refl
    equal_from Greater e = cc

and_left : (b c : Bool) → (b && c) ≡ true → b ≡ true
and_left true c is = refl
and_left false c is = is

and_right : (b c : Bool) → (b && c) ≡ true → c ≡ true
and_right true c is = is
and_right false c is = absurd (cc)

pub matching_keys : (keys : List (ℕ × ℕ)) (a b : Row) → matches keys a b ≡ true → key_of (left_columns keys) a ≡ key_of (right_columns keys) b
matching_keys [] a b is = refl
matching_keys (pair ∷ keys) a b is =
    let here : meets (get_or a pair.0 Null) (get_or b pair.1 Null) ≡ true = and_left (meets (get_or a pair.0 Null) (get_or b pair.1 Null)) (matches keys a b) is in
    let rest : matches keys a b ≡ true = and_right (meets (get_or a pair.0 Null) (get_or b pair.1 Null)) (matches keys a b) is in
    let value : get_or a pair.0 Null ≡ get_or b pair.1 Null =
    equal_values (get_or a pair.0 Null) (get_or b pair.1 Null) (and_right (not (is_null (get_or a pair.0 Null))) (same_value (get_or a pair.0 Null) (get_or b pair.1 Null)) here) in
    λ i. value i ∷ matching_keys keys a b rest i
