-- An accumulator over one row more.
use Rattle.std.proofs.Common.{◌≡◌, ℕ, zero, suc, add-one, set, take, drop, lt-ltb, ◌+◌, ◌<◌, Bool, true, nat_lt, List, [], ◌∷◌, ◌++◌, length, map, get_or, refl, sym, ap, ◌∙◌, arith, length-append, if◌then◌else◌}
use Rattle.std.proofs.lemmas.List.{map-append}
use Rattle.std.proofs.lemmas.Int.{ints}
use Rattle.std.specs.Prelude.{ℤ, ◌+ℤ◌, ◌||◌}
use Rattle.bag_laws.specs.Rows.{OneRow as Row}
use Rattle.operator_laws.proofs.Laws.{lesser-assoc, greater-assoc, greater-null}
use Rattle.row_core.specs.Values.{int_value}
use Rattle.row_core.specs.declared.value.Value.{Value}
use Rattle.row_core.specs.declared.value.Value.TheVariants.{Null, Int, Text}
use Rattle.plan_model.specs.Operators.{column_of, numbers_of, whole_sum, sum_value, least, greatest, lesser_value, greater_value, agg_value}
use Rattle.plan_model.specs.declared.agg.Agg.{Agg}
use Rattle.plan_model.specs.declared.agg.Agg.TheVariants.{Count, Sum, Min, Max}
use Rattle.row_groups.specs.Accumulators.{accumulator_of, with_value, input_of, finish}
use Rattle.row_groups.specs.declared.accumulator.Accumulator.TheVariants.{Counted, Summed, Least, Greatest}

numbers-append : (xs ys : List Value) → numbers_of (xs ++ ys) ≡ numbers_of xs ++ numbers_of ys
numbers-append [] ys = refl
numbers-append (Null ∷ xs) ys = numbers-append xs ys
numbers-append (Int n ∷ xs) ys = ap (λ (l : List ℤ). n ∷ l) (numbers-append xs ys)
numbers-append (Text t ∷ xs) ys = numbers-append xs ys

sum-append : (ms ns : List ℤ) → whole_sum (ms ++ ns) ≡ whole_sum ms +ℤ whole_sum ns
sum-append [] ns = omega (arith, ints)
sum-append (m ∷ ms) ns = let rest = sum-append ms ns in omega (arith, ints)

above_none : (n : ℕ) → nat_lt 0 (suc n) ≡ true
above_none n = lt-ltb 0 (suc n) (omega arith)

any-append : (ms ns : List ℤ) → nat_lt 0 (length (ms ++ ns)) ≡ (nat_lt 0 (length ms) || nat_lt 0 (length ns))
any-append [] ns = refl
any-append (m ∷ ms) ns = above_none (length (ms ++ ns)) ∙ ap (λ (b : Bool). b || nat_lt 0 (length ns)) (sym (above_none (length ms)))

lesser_none : (v : Value) → lesser_value v Null ≡ v
lesser_none Null = refl
lesser_none (Int n) = refl
lesser_none (Text t) = refl

least_more : (values : List Value) (v : Value) → least (values ++ v ∷ []) ≡ lesser_value (least values) v
least_more [] v = lesser_none v
least_more (value ∷ values) v = ap (lesser_value value) (least_more values v) ∙ lesser-assoc value (least values) v

greater_none : (v : Value) → greater_value v Null ≡ v
greater_none Null = refl
greater_none (Int n) = refl
greater_none (Text t) = refl

greatest_more : (values : List Value) (v : Value) → greatest (values ++ v ∷ []) ≡ greater_value (greatest values) v
greatest_more [] v = greater_none v ∙ sym (greater-null v)
greatest_more (value ∷ values) v = ap (greater_value value) (greatest_more values v) ∙ greater-assoc value (greatest values) v

column_more : (column : ℕ) (rows : List Row) (row : Row) → column_of column (rows ++ row ∷ []) ≡ column_of column rows ++ get_or row column Null ∷ []
column_more column rows row = map-append (λ (row : Row). get_or row column Null) rows (row ∷ [])

pub accumulator_more : (rows : List Row) (row : Row) (agg : Agg) → accumulator_of (rows ++ row ∷ []) agg ≡ with_value (accumulator_of rows agg) (input_of row agg)
accumulator_more rows row Count = ap Counted (length-append rows (row ∷ []))
accumulator_more rows row (Sum column) =
    let value = get_or row column Null in
    let numbers : numbers_of (column_of column (rows ++ row ∷ [])) ≡ numbers_of (column_of column rows) ++ numbers_of (value ∷ []) =
    ap numbers_of (column_more column rows row) ∙ numbers-append (column_of column rows) (value ∷ []) in
    (λ i. Summed (nat_lt 0 (length (numbers i))) (whole_sum (numbers i)))
    ∙ (λ i. Summed (any-append (numbers_of (column_of column rows)) (numbers_of (value ∷ [])) i) (sum-append (numbers_of (column_of column rows)) (numbers_of (value ∷ [])) i))
accumulator_more rows row (Min column) = ap Least (ap least (column_more column rows row) ∙ least_more (column_of column rows) (get_or row column Null))
accumulator_more rows row (Max column) = ap Greatest (ap greatest (column_more column rows row) ∙ greatest_more (column_of column rows) (get_or row column Null))

-- the accumulator of rows tells what the aggregate tells of them
pub finish_is : (rows : List Row) (agg : Agg) → finish (accumulator_of rows agg) ≡ agg_value rows agg
finish_is rows Count = refl
finish_is rows (Sum column) = by (numbers_of (column_of column rows))
  where
    by : (numbers : List ℤ) → (if nat_lt 0 (length numbers) then int_value (whole_sum numbers) else Null) ≡ sum_value numbers
    by [] = refl
    by (n ∷ numbers) = ap (λ (b : Bool). if b then int_value (whole_sum (n ∷ numbers)) else Null) (above_none (length numbers))
finish_is rows (Min column) = refl
finish_is rows (Max column) = refl

-- ---- the accumulators of some aggregates, of which the first are done

-- the one at the place
pub at_place : {X Y : Type 0} (f g : X → Y) (xs : List X) (place : ℕ) (x : X) (d : Y) → place < length xs → get_or (map f (take place xs) ++ map g (drop place xs)) place d ≡ g (get_or xs place x)
at_place f g [] place x d lt = absurd (omega arith)
at_place f g (first ∷ xs) zero x d lt = refl
at_place f g (first ∷ xs) (suc place) x d lt = at_place f g xs place x d (omega arith)

-- it is done too
done_more : {X Y : Type 0} (f g : X → Y) (xs : List X) (place : ℕ) (x : X) → place < length xs
    → set (map f (take place xs) ++ map g (drop place xs)) place (f (get_or xs place x)) ≡ map f (take (suc place) xs) ++ map g (drop (suc place) xs)
done_more f g [] place x lt = absurd (omega arith)
done_more f g (first ∷ xs) zero x lt = refl
done_more {X} {Y} f g (first ∷ xs) (suc place) x lt = ap (λ (l : List Y). f first ∷ l) (done_more f g xs place x (omega arith))

pub one_done : {X Y : Type 0} (f g : X → Y) (xs : List X) (place : ℕ) (x : X) → place < length xs
    → set (map f (take place xs) ++ map g (drop place xs)) place (f (get_or xs place x)) ≡ map f (take (place + 1) xs) ++ map g (drop (place + 1) xs)
one_done f g xs place x lt = rw add-one (done_more f g xs place x lt)

-- all are done
all_through : {X Y : Type 0} (f g : X → Y) (xs : List X) → map f (take (length xs) xs) ++ map g (drop (length xs) xs) ≡ map f xs
all_through f g [] = refl
all_through {X} {Y} f g (x ∷ xs) = ap (λ (l : List Y). f x ∷ l) (all_through f g xs)

pub all_done : {X Y : Type 0} (f g : X → Y) (xs : List X) (n : ℕ) → n ≡ length xs → map f (take n xs) ++ map g (drop n xs) ≡ map f xs
all_done f g xs n is = ap (λ (k : ℕ). map f (take k xs) ++ map g (drop k xs)) is ∙ all_through f g xs
