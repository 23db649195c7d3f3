-- Keys in order, as neighbours with one key become one.
use Rattle.std.proofs.Common.{◌≡◌, true, false, List, [], ◌∷◌, ◌++◌, sym, ◌∙◌, ap}
use Rattle.std.proofs.lemmas.List.Elements.{All-nil, All-cons, All-append}
use Rattle.row_core.specs.Values.{same_row}
use Rattle.bag_laws.specs.Rows.{OneRow as Row}
use Rattle.bag_laws.proofs.Laws.{Ascends, Below, false_from}
use Rattle.bag_laws.proofs.Laws.{same_row_is}
use Rattle.op_unary.specs.Groups.{AllDiffer}
use Rattle.op_unary.proofs.ByHash.{hash_less, hash_strict}

abbrev pub Ascending : List Row → Type 0
Ascending = Ascends hash_less same_row hash_strict

abbrev AreAbove : Row → List Row → Type 0
AreAbove = Below hash_less same_row hash_strict

above_without : (x : Row) (xs : List Row) (a b : Row) (ys : List Row) → AreAbove x (xs ++ a ∷ b ∷ ys) → AreAbove x (xs ++ a ∷ ys)
above_without x [] a b ys above = (above.0, (above.1).1)
above_without x (y ∷ xs) a b ys above = (above.0, above_without x xs a b ys above.1)

-- without the second of two neighbours
pub ascending_without : (xs : List Row) (a b : Row) (ys : List Row) → Ascending (xs ++ a ∷ b ∷ ys) → Ascending (xs ++ a ∷ ys)
ascending_without [] a b ys up = ((up.0).1, (up.1).1)
ascending_without (x ∷ xs) a b ys up = (above_without x xs a b ys up.0, ascending_without xs a b ys up.1)

-- what comes before one key isn't the next, where the two differ
not_next : (x : Row) (xs : List Row) (a b : Row) (ys : List Row) → same_row a b ≡ false → AreAbove x (xs ++ a ∷ b ∷ ys) → hash_less b a ≡ false → same_row x b ≡ false
not_next x [] a b ys other above up =
    false_from hash_less same_row hash_strict (same_row x b) (λ tie.
    let one : x ≡ b = same_row_is x b tie in
    let back : hash_less a b ≡ false = ap (hash_less a) (sym one) ∙ above.0 in
    let same : a ≡ b = hash_strict.apart a b back up in
    let tied : same_row a b ≡ true = ap (same_row a) (sym same) ∙ hash_strict.itself a in
    cc)
not_next x (y ∷ xs) a b ys other above up = not_next x xs a b ys other above.1 up

next_above : (xs : List Row) (a b : Row) (ys : List Row) → Ascending (xs ++ a ∷ b ∷ ys) → hash_less b a ≡ false
next_above [] a b ys up = (up.0).0
next_above (x ∷ xs) a b ys up = next_above xs a b ys up.1

-- with the next, where it differs from the last
pub differ_more : (xs : List Row) (a b : Row) (ys : List Row) → Ascending (xs ++ a ∷ b ∷ ys) → same_row a b ≡ false → AllDiffer (xs ++ a ∷ []) → AllDiffer ((xs ++ a ∷ []) ++ b ∷ [])
differ_more [] a b ys up other differ = (All-cons (λ k. same_row a k ≡ false) b [] other (All-nil (λ k. same_row a k ≡ false)), (All-nil (λ k. same_row b k ≡ false), tt))
differ_more (x ∷ xs) a b ys up other differ = (
  All-append (λ k. same_row x k ≡ false) (xs ++ a ∷ []) (b ∷ []) differ.0
      (All-cons (λ k. same_row x k ≡ false) b [] (not_next x xs a b ys other up.0 (next_above xs a b ys up.1)) (All-nil (λ k. same_row x k ≡ false))),
  differ_more xs a b ys up.1 other differ.1,
)
