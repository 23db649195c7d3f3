-- One of each of rows that come part by part.
use Rattle.std.proofs.Common.{◌≡◌, ℕ, ◌+◌, ◌≤◌, Bool, true, false, List, [], ◌∷◌, ◌++◌, length, refl, sym, ◌∙◌, arith}
use Rattle.std.specs.Prelude.{cond, not, filter}
use Rattle.row_core.specs.Bags.{SameBag, one_of_each}
use Rattle.row_core.specs.Values.{same_row}
use Rattle.bag_laws.specs.Rows.{OneRow as Row}
use Rattle.bag_laws.proofs.Laws.{total-same}
use Rattle.bag_laws.proofs.Laws.{total}

one_each : (xs : List Row) → total (λ x. 1) xs ≡ length xs
one_each [] = refl
one_each (x ∷ xs) = let rest = one_each xs in omega arith

-- bags that are the same are equally large
pub as_long : (xs ys : List Row) → SameBag xs ys → length xs ≡ length ys
as_long xs ys same = sym (one_each xs) ∙ total-same (λ x. 1) xs ys same ∙ one_each ys

total-filter : (w : Row → ℕ) (p : Row → Bool) (xs : List Row) → total w (filter p xs) ≡ total (λ x. cond (p x) (w x) 0) xs
total-filter w p [] = refl
total-filter w p (x ∷ xs) = by (p x) (total-filter w p xs)
  where
    by : (b : Bool) → total w (filter p xs) ≡ total (λ x. cond (p x) (w x) 0) xs
        → total w (cond b (x ∷ filter p xs) (filter p xs)) ≡ cond b (w x) 0 + total (λ x. cond (p x) (w x) 0) xs
    by true e = omega (arith, e)
    by false e = omega (arith, e)

no_lighter : (w : Row → ℕ) (rows more : List Row) → total w (one_of_each rows) ≤ total w (one_of_each (rows ++ more))
no_lighter w [] more = omega arith
no_lighter w (x ∷ xs) more =
    let p : Row → Bool = λ other. not (same_row x other) in
    let less = no_lighter (λ y. cond (p y) (w y) 0) xs more in
    let here = total-filter w p (one_of_each xs) in
    let there = total-filter w p (one_of_each (xs ++ more)) in
    omega (arith, less, here, there)

-- further rows take none away
pub no_fewer : (rows more : List Row) → length (one_of_each rows) ≤ length (one_of_each (rows ++ more))
no_fewer rows more =
    let less = no_lighter (λ x. 1) rows more in
    let here = one_each (one_of_each rows) in
    let there = one_each (one_of_each (rows ++ more)) in
    omega (arith, less, here, there)
