-- Rows match where no value of the key is Null and their keys are one row.
use Rattle.std.proofs.Common.{◌≡◌, ℕ, Bool, true, false, List, [], ◌∷◌, get_or, refl, sym, ◌∙◌, ap}
use Rattle.std.specs.Ordering.{is_eq, ordering_then, ordering_reverse}
use Rattle.std.specs.Prelude.{not, ◌&&◌, ◌||◌, filter}
use Rattle.std.specs.declared.cmp.Ordering.{Ordering}
use Rattle.std.specs.declared.cmp.Ordering.TheVariants.{Less, Equal, Greater}
use Rattle.row_core.specs.Exprs.{is_null}
use Rattle.row_core.specs.Hashing.{key_of}
use Rattle.row_core.specs.Values.{value_cmp, row_cmp, same_row, same_value}
use Rattle.row_core.specs.declared.value.Value.{Value}
use Rattle.row_core.specs.declared.value.Value.TheVariants.{Null, Int, Text}
use Rattle.bag_laws.proofs.Laws.{value_total}
use Rattle.bag_laws.specs.Rows.{OneRow as Row}
use Rattle.plan_model.specs.Joins.{matches, meets}
use Rattle.plan_model.specs.Operators.{rows_with}
use Rattle.plan_model.specs.declared.side.Side.TheVariants.{Left, Right}
use Rattle.hash_join.specs.Keys.{columns_on, has_null, keys_match, matching}

same_cons : (a b : Value) (xs ys : List Value) → same_row (a ∷ xs) (b ∷ ys) ≡ (same_value a b && same_row xs ys)
same_cons a b xs ys = by (value_cmp a b) (row_cmp xs ys)
  where
    by : (r s : Ordering) → is_eq (ordering_then r s) ≡ (is_eq r && is_eq s)
    by Less s = refl
    by Equal s = refl
    by Greater s = refl

regroup : (n e m s : Bool) → ((not n && e) && (not m && s)) ≡ (not (n || m) && (e && s))
regroup true e m s = refl
regroup false true m s = refl
regroup false false true s = refl
regroup false false false s = refl

same_swapped : (a b : Value) → same_value a b ≡ same_value b a
same_swapped a b = ap is_eq (value_total.antisymm a b) ∙ by (value_cmp b a)
  where
    by : (r : Ordering) → is_eq (ordering_reverse r) ≡ is_eq r
    by Less = refl
    by Equal = refl
    by Greater = refl

meets_swapped : (a b : Value) → meets a b ≡ meets b a
meets_swapped Null Null = refl
meets_swapped Null (Int n) = refl
meets_swapped Null (Text t) = refl
meets_swapped (Int m) Null = refl
meets_swapped (Text s) Null = refl
meets_swapped (Int m) (Int n) = same_swapped (Int m) (Int n)
meets_swapped (Int m) (Text t) = same_swapped (Int m) (Text t)
meets_swapped (Text s) (Int n) = same_swapped (Text s) (Int n)
meets_swapped (Text s) (Text t) = same_swapped (Text s) (Text t)

-- one column more
more : (columns others : List ℕ) (a b : Value) (row other : Row) → (not (is_null a || has_null columns row) && same_row (b ∷ key_of others other) (a ∷ key_of columns row)) ≡ (meets a b && keys_match columns others row other)
more columns others a b row other =
    ap (λ (same : Bool). not (is_null a || has_null columns row) && same) (same_cons b a (key_of others other) (key_of columns row))
    ∙ sym (regroup (is_null a) (same_value b a) (has_null columns row) (same_row (key_of others other) (key_of columns row)))
    ∙ ap (λ (same : Bool). (not (is_null a) && same) && keys_match columns others row other) (same_swapped b a)

pub left_matches : (keys : List (ℕ × ℕ)) (row other : Row) → keys_match (columns_on Left keys) (columns_on Right keys) row other ≡ matches keys row other
left_matches [] row other = refl
left_matches (pair ∷ keys) row other =
    let a = get_or row pair.0 Null in
    let b = get_or other pair.1 Null in
    more (columns_on Left keys) (columns_on Right keys) a b row other ∙ ap (λ (rest : Bool). meets a b && rest) (left_matches keys row other)

pub right_matches : (keys : List (ℕ × ℕ)) (row other : Row) → keys_match (columns_on Right keys) (columns_on Left keys) row other ≡ matches keys other row
right_matches [] row other = refl
right_matches (pair ∷ keys) row other =
    let a = get_or row pair.1 Null in
    let b = get_or other pair.0 Null in
    more (columns_on Right keys) (columns_on Left keys) a b row other ∙ (λ i. meets_swapped a b i && right_matches keys row other i)

-- ---- the rows that match one

none_pass : (rows : List Row) → filter (λ row. false) rows ≡ []
none_pass [] = refl
none_pass (row ∷ rows) = none_pass rows

pub nothing_matches : (columns others : List ℕ) (row : Row) (built : List Row) → has_null columns row ≡ true → matching columns others row built ≡ []
nothing_matches columns others row built null =
    ap (λ (b : Bool). filter (λ other. not b && same_row (key_of others other) (key_of columns row)) built) null ∙ none_pass built

pub key_matches : (columns others : List ℕ) (row : Row) (built : List Row) → has_null columns row ≡ false → matching columns others row built ≡ rows_with others (key_of columns row) built
key_matches columns others row built some =
    ap (λ (b : Bool). filter (λ other. not b && same_row (key_of others other) (key_of columns row)) built) some
