-- Sums of numbers, one more at a time.
use Rattle.std.proofs.Common.{◌≡◌, ℕ, suc, lt-ltb, ◌+◌, ◌<◌, Bool, true, nat_lt, List, [], ◌∷◌, ◌++◌, length, map, take, get_or, refl, sym, ap, ◌∙◌, arith}
use Rattle.std.proofs.lemmas.List.{map-append, take_more}
use Rattle.std.proofs.lemmas.Int.{ints}
use Rattle.std.specs.Prelude.{ℤ, ◌+ℤ◌, ◌||◌}
use Rattle.row_core.specs.declared.value.Value.{Value}
use Rattle.row_core.specs.declared.value.Value.TheVariants.{Null, Int, Text}
use Rattle.plan_model.specs.Operators.{column_of, numbers_of, whole_sum}
use Rattle.bag_laws.specs.Rows.{OneRow as Row}
use Rattle.op_unary.specs.declared.keyed.Keyed.{Keyed}

pub numbers-append : (xs ys : List Value) → numbers_of (xs ++ ys) ≡ numbers_of xs ++ numbers_of ys
numbers-append [] ys = refl
numbers-append (Null ∷ xs) ys = numbers-append xs ys
numbers-append (Int n ∷ xs) ys = ap (λ (l : List ℤ). n ∷ l) (numbers-append xs ys)
numbers-append (Text t ∷ xs) ys = numbers-append xs ys

pub sum-append : (ms ns : List ℤ) → whole_sum (ms ++ ns) ≡ whole_sum ms +ℤ whole_sum ns
sum-append [] ns = omega (arith, ints)
sum-append (m ∷ ms) ns = let rest = sum-append ms ns in omega (arith, ints)

-- the numbers of a column, with one row more
pub numbers-more : (column : ℕ) (rows : List Keyed) (i : ℕ) (keyed : Keyed) → i < length rows → keyed ≡ get_or rows i keyed
    → numbers_of (column_of column (map (λ keyed. keyed.row.now) (take (i + 1) rows)))
    ≡ numbers_of (column_of column (map (λ keyed. keyed.row.now) (take i rows))) ++ numbers_of (get_or keyed.row.now column Null ∷ [])
numbers-more column rows i keyed lt is =
    let values = λ (some : List Keyed). column_of column (map (λ keyed. keyed.row.now) some) in
    let more : take (i + 1) rows ≡ take i rows ++ keyed ∷ [] = take_more rows i keyed lt ∙ ap (λ (r : Keyed). take i rows ++ r ∷ []) (sym is) in
    ap (λ (some : List Keyed). numbers_of (values some)) more
    ∙ ap (λ (some : List Row). numbers_of (column_of column some)) (map-append (λ (keyed : Keyed). keyed.row.now) (take i rows) (keyed ∷ []))
    ∙ ap numbers_of (map-append (λ (row : Row). get_or row column Null) (map (λ keyed. keyed.row.now) (take i rows)) (keyed.row.now ∷ []))
    ∙ numbers-append (values (take i rows)) (get_or keyed.row.now column Null ∷ [])

pub above_none : (n : ℕ) → nat_lt 0 (suc n) ≡ true
above_none n = lt-ltb 0 (suc n) (omega arith)

pub any-append : (ms ns : List ℤ) → nat_lt 0 (length (ms ++ ns)) ≡ (nat_lt 0 (length ms) || nat_lt 0 (length ns))
any-append [] ns = refl
any-append (m ∷ ms) ns = above_none (length (ms ++ ns)) ∙ ap (λ (b : Bool). b || nat_lt 0 (length ns)) (sym (above_none (length ms)))
