-- The order of rows, from a place on.
use Rattle.std.proofs.Common.{◌≡◌, ◌==◌, nat_lt, ℕ, zero, suc, List, [], ◌∷◌, length, drop, min, refl, ◌∙◌, arith}
use Rattle.std.proofs.lemmas.Bool.Decides.{nat_tests}
use Rattle.std.specs.Ordering.{nat_cmp}
use Rattle.std.specs.Cmp.{nat_cmp_is}
use Rattle.std.specs.declared.cmp.Ordering.TheVariants.{Less, Greater}
use Rattle.row_core.specs.declared.value.Value.{Value}
use Rattle.row_core.specs.Values.{row_cmp}

one_more : (m n : ℕ) → nat_cmp m n ≡ nat_cmp (suc m) (suc n)
one_more m n =
    let less : nat_lt (suc m) (suc n) ≡ nat_lt m n = grind (arith, nat_tests) in
    let equal : (suc m == suc n) ≡ (m == n) = grind (arith, nat_tests) in
    rw (less, equal) refl

-- where one of them ends, the lengths decide
pub ended : (a b : List Value) (i : ℕ) → i ≡ min (length a) (length b) → row_cmp (drop i a) (drop i b) ≡ nat_cmp (length a) (length b)
ended [] [] zero h = refl
ended [] (y ∷ b) zero h = nat_cmp_is 0 (length (y ∷ b)) Less (omega arith)
ended (x ∷ a) [] zero h = nat_cmp_is (length (x ∷ a)) 0 Greater (omega arith)
ended (x ∷ a) (y ∷ b) zero h = absurd (omega arith)
ended [] b (suc i) h = absurd (omega arith)
ended (x ∷ a) [] (suc i) h = absurd (omega arith)
ended (x ∷ a) (y ∷ b) (suc i) h = ended a b i (omega arith) ∙ one_more (length a) (length b)
