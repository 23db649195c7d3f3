-- Equal bags are the same rows in another order.
use Rattle.std.proofs.Common.{◌≡◌, Bool, true, false, List, [], ◌∷◌, sym, subst, cond, if◌then◌else◌}
use Rattle.std.proofs.lemmas.List.Sorted.{sorted_far, sum_by-IsPermutation, IsPermutation-refl, IsPermutation-sym, IsPermutation-trans, IsPermutation-cons, IsPermutation-middle}
use Rattle.std.specs.List.Sorted.{IsPermutation, IsSortedBy}
use Rattle.row_core.specs.Bags.{SameBag, put_in, ascending}
use Rattle.row_core.specs.Values.{same_row}
use Rattle.bag_laws.specs.Rows.{OneRow as Row, row_less}
use Rattle.bag_laws.proofs.Sorted.{ascends_from, ascends_once, count_is}
use Rattle.bag_laws.proofs.Orders.{rows_strict}
use Rattle.bag_laws.proofs.Counts.{ascending_rows}

module _ {X : Type 0} (less : X → X → Bool) where
  put_in-moves : (x : X) (xs : List X) → IsPermutation (x ∷ xs) (put_in less x xs)
  put_in-moves x [] = IsPermutation-refl (x ∷ [])
  put_in-moves x (y ∷ ys) = by (less y x) (put_in-moves x ys)
    where
      swapped : IsPermutation (x ∷ y ∷ ys) (y ∷ x ∷ ys)
      swapped = IsPermutation-sym (y ∷ x ∷ ys) (x ∷ y ∷ ys) (IsPermutation-middle (y ∷ []) x ys)

      by : (b : Bool) → IsPermutation (x ∷ ys) (put_in less x ys) → IsPermutation (x ∷ y ∷ ys) (if b then y ∷ put_in less x ys else x ∷ y ∷ ys)
      by true rest = IsPermutation-trans (x ∷ y ∷ ys) (y ∷ x ∷ ys) (y ∷ put_in less x ys) swapped (IsPermutation-cons y (x ∷ ys) (put_in less x ys) rest)
      by false rest = IsPermutation-refl (x ∷ y ∷ ys)

  pub ascending-moves : (xs : List X) → IsPermutation xs (ascending less xs)
  ascending-moves [] = IsPermutation-refl []
  ascending-moves (x ∷ xs) =
      IsPermutation-trans (x ∷ xs) (x ∷ ascending less xs) (put_in less x (ascending less xs))
      (IsPermutation-cons x xs (ascending less xs) (ascending-moves xs)) (put_in-moves x (ascending less xs))

pub permutation_of_same : (xs ys : List Row) → SameBag xs ys → IsPermutation xs ys
permutation_of_same xs ys same =
    IsPermutation-trans xs (ascending row_less xs) ys (ascending-moves row_less xs)
    (subst (λ (l : List Row). IsPermutation l ys) (sym (ascending_rows xs ys same)) (IsPermutation-sym ys (ascending row_less ys) (ascending-moves row_less ys)))

pub same_of_permutation : (xs ys : List Row) → IsPermutation xs ys → SameBag xs ys
same_of_permutation xs ys moved = record { counts = λ row. sym (sum_by-IsPermutation (λ z. cond (same_row row z) 1 0) xs ys moved) }

pub sorted_once : (xs ys : List Row) → IsSortedBy row_less xs → IsSortedBy row_less ys → SameBag xs ys → xs ≡ ys
sorted_once xs ys up up' same =
    ascends_once row_less same_row rows_strict xs ys
    (ascends_from row_less same_row rows_strict xs (sorted_far row_less rows_strict.order xs up))
    (ascends_from row_less same_row rows_strict ys (sorted_far row_less rows_strict.order ys up'))
    (λ z. let one = count_is row_less same_row rows_strict z xs in let two = count_is row_less same_row rows_strict z ys in let counts = same.counts z in cc)
