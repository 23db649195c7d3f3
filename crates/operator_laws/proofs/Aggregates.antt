-- An aggregate of equal bags is the same, so that the aggregates of a table go by keys.
use Rattle.std.proofs.Common.{◌≡◌, ℕ, zero, suc, Bool, true, false, List, [], ◌∷◌, ◌++◌, length, map, get_or, refl, sym, ◌∙◌, ap, arith, if◌then◌else◌}
use Rattle.std.proofs.lemmas.Int.{ints}
use Rattle.std.specs.Prelude.{ℤ, pos, ◌+ℤ◌}
use Rattle.row_core.specs.Bags.{SameBag, put_in, ascending}
use Rattle.row_core.specs.Values.{int_value, same_row}
use Rattle.row_core.specs.declared.value.Value.{Value}
use Rattle.row_core.specs.declared.value.Value.TheVariants.{Null, Int, Text}
use Rattle.plan_model.specs.Operators.{agg_value, aggregated, column_of, key_of, numbers_of, whole_sum, sum_value, least, greatest, lesser_value, greater_value}
use Rattle.plan_model.specs.declared.agg.Agg.{Agg}
use Rattle.plan_model.specs.declared.agg.Agg.TheVariants.{Count, Sum, Min, Max}
use Rattle.bag_laws.specs.Rows.{OneRow as Row, row_less, IsKeyed}
use Rattle.bag_laws.proofs.Laws.{ascending_rows, grouped_keyed}
use Rattle.operator_laws.proofs.ValueOrder.{lesser-swap, greater-swap}

module _ {T : Type 0} (step : Row → T → T) (start : T) (swap : (x y : Row) (rest : T) → step x (step y rest) ≡ step y (step x rest)) where
  -- what is computed row by row, from the last to the first
  abbrev pub along : List Row → T
  along [] = start
  along (x ∷ xs) = step x (along xs)

  along-put_in : (x : Row) (xs : List Row) → along (put_in row_less x xs) ≡ step x (along xs)
  along-put_in x [] = refl
  along-put_in x (y ∷ ys) = by (row_less y x) (along-put_in x ys)
    where
      by : (b : Bool) → along (put_in row_less x ys) ≡ step x (along ys) → along (if b then y ∷ put_in row_less x ys else x ∷ y ∷ ys) ≡ step x (step y (along ys))
      by true later = ap (step y) later ∙ swap y x (along ys)
      by false later = refl

  along-ascending : (xs : List Row) → along (ascending row_less xs) ≡ along xs
  along-ascending [] = refl
  along-ascending (x ∷ xs) = along-put_in x (ascending row_less xs) ∙ ap (step x) (along-ascending xs)

  pub along-same : (xs ys : List Row) → SameBag xs ys → along xs ≡ along ys
  along-same xs ys same = sym (along-ascending xs) ∙ ap along (ascending_rows xs ys same) ∙ along-ascending ys

-- ---- each aggregate

abbrev one_more : Row → ℕ → ℕ
one_more row n = suc n

length_along : (xs : List Row) → length xs ≡ along one_more 0 (λ x y n. refl) xs
length_along [] = refl
length_along (x ∷ xs) = ap suc (length_along xs)

abbrev plus : Value → ℤ → ℤ
plus Null total = total
plus (Int n) total = n +ℤ total
plus (Text t) total = total

plus-swap : (a b : Value) (total : ℤ) → plus a (plus b total) ≡ plus b (plus a total)
plus-swap Null b total = refl
plus-swap (Text t) b total = refl
plus-swap (Int m) Null total = refl
plus-swap (Int m) (Text t) total = refl
plus-swap (Int m) (Int n) total = omega (arith, ints)

abbrev tally : Value → ℕ → ℕ
tally Null n = n
tally (Int m) n = suc n
tally (Text t) n = n

tally-swap : (a b : Value) (n : ℕ) → tally a (tally b n) ≡ tally b (tally a n)
tally-swap Null b n = refl
tally-swap (Text t) b n = refl
tally-swap (Int m) Null n = refl
tally-swap (Int m) (Text t) n = refl
tally-swap (Int m) (Int o) n = refl

module _ (column : ℕ) where
  abbrev here : Row → Value
  here row = get_or row column Null

  sum_along : (xs : List Row) → whole_sum (numbers_of (column_of column xs)) ≡ along (λ row. plus (here row)) (pos 0) (λ x y. plus-swap (here x) (here y)) xs
  sum_along [] = refl
  sum_along (x ∷ xs) = by (here x) ∙ ap (plus (here x)) (sum_along xs)
    where
      by : (value : Value) → whole_sum (numbers_of (value ∷ column_of column xs)) ≡ plus value (whole_sum (numbers_of (column_of column xs)))
      by Null = refl
      by (Int n) = refl
      by (Text t) = refl

  tally_along : (xs : List Row) → length (numbers_of (column_of column xs)) ≡ along (λ row. tally (here row)) 0 (λ x y. tally-swap (here x) (here y)) xs
  tally_along [] = refl
  tally_along (x ∷ xs) = by (here x) ∙ ap (tally (here x)) (tally_along xs)
    where
      by : (value : Value) → length (numbers_of (value ∷ column_of column xs)) ≡ tally value (length (numbers_of (column_of column xs)))
      by Null = refl
      by (Int n) = refl
      by (Text t) = refl

  least_along : (xs : List Row) → least (column_of column xs) ≡ along (λ row. lesser_value (here row)) Null (λ x y. lesser-swap (here x) (here y)) xs
  least_along [] = refl
  least_along (x ∷ xs) = ap (lesser_value (here x)) (least_along xs)

  greatest_along : (xs : List Row) → greatest (column_of column xs) ≡ along (λ row. greater_value (here row)) Null (λ x y. greater-swap (here x) (here y)) xs
  greatest_along [] = refl
  greatest_along (x ∷ xs) = ap (greater_value (here x)) (greatest_along xs)

-- a sum by how many numbers there are
abbrev pub counted_sum : ℕ → ℤ → Value
counted_sum zero total = Null
counted_sum (suc n) total = int_value total

pub sum_is : (ns : List ℤ) → sum_value ns ≡ counted_sum (length ns) (whole_sum ns)
sum_is [] = refl
sum_is (n ∷ ns) = refl

pub agg-same : (agg : Agg) (xs ys : List Row) → SameBag xs ys → agg_value xs agg ≡ agg_value ys agg
agg-same Count xs ys same = ap (λ (n : ℕ). int_value (pos n)) (length_along xs ∙ along-same one_more 0 (λ x y n. refl) xs ys same ∙ sym (length_along ys))
agg-same (Sum column) xs ys same =
    let many : length (numbers_of (column_of column xs)) ≡ length (numbers_of (column_of column ys)) =
    tally_along column xs ∙ along-same (λ row. tally (here column row)) 0 (λ x y. tally-swap (here column x) (here column y)) xs ys same ∙ sym (tally_along column ys) in
    let total : whole_sum (numbers_of (column_of column xs)) ≡ whole_sum (numbers_of (column_of column ys)) =
    sum_along column xs ∙ along-same (λ row. plus (here column row)) (pos 0) (λ x y. plus-swap (here column x) (here column y)) xs ys same ∙ sym (sum_along column ys) in
    sum_is (numbers_of (column_of column xs)) ∙ (λ i. counted_sum (many i) (total i)) ∙ sym (sum_is (numbers_of (column_of column ys)))
agg-same (Min column) xs ys same =
    least_along column xs ∙ along-same (λ row. lesser_value (here column row)) Null (λ x y. lesser-swap (here column x) (here column y)) xs ys same ∙ sym (least_along column ys)
agg-same (Max column) xs ys same =
    greatest_along column xs ∙ along-same (λ row. greater_value (here column row)) Null (λ x y. greater-swap (here column x) (here column y)) xs ys same ∙ sym (greatest_along column ys)

aggs-same : (aggs : List Agg) (xs ys : List Row) → SameBag xs ys → map (agg_value xs) aggs ≡ map (agg_value ys) aggs
aggs-same [] xs ys same = refl
aggs-same (agg ∷ aggs) xs ys same = λ i. agg-same agg xs ys same i ∷ aggs-same aggs xs ys same i

pub aggregated_keyed : (keys : List ℕ) (aggs : List Agg) → IsKeyed (λ a b. same_row (key_of keys a) (key_of keys b)) (aggregated keys aggs)
aggregated_keyed keys aggs = grouped_keyed (key_of keys) (λ key rows. key ++ map (agg_value rows) aggs) (λ key xs ys same. ap (λ (values : Row). key ++ values) (aggs-same aggs xs ys same))
