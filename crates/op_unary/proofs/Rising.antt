-- Repeated neighbours left out of rows in any order, and rows whose hashes rise.
use Rattle.std.proofs.Common.{◌≡◌, ℕ, zero, suc, ◌+◌, ◌<◌, ◌≤◌, min, Bool, true, false, All, List, [], ◌∷◌, length, map, get_or, cond, refl, sym, inl, inr, ◌∙◌, ap, arith}
use Rattle.std.proofs.lemmas.Bool.{cases_Bool}
use Rattle.std.proofs.lemmas.List.Elements.{All-head, All-tail}
use Rattle.std.specs.List.{dedup, dedup_from}
use Rattle.row_core.specs.Bags.{SameBag, count_of, one_of_each}
use Rattle.row_core.specs.Values.{same_row}
use Rattle.bag_laws.specs.Rows.{OneRow as Row}
use Rattle.bag_laws.proofs.Laws.{count-cons, count-one_of_each}
use Rattle.bag_laws.proofs.Laws.{same_row_is}
use Rattle.op_unary.specs.Distinct.{row_at, ArePlaces, Rises}
use Rattle.op_unary.specs.Hashes.{hash_of}
use Rattle.op_unary.specs.declared.hashed_row.HashedRow.{HashedRow}

-- ---- what leaving repeated neighbours out keeps

some-dedup_from : (z k : Row) (xs : List Row) → min 1 (count_of z (dedup_from same_row k xs)) ≡ min 1 (count_of z (k ∷ xs))
some-dedup_from z k [] = refl
some-dedup_from z k (x ∷ xs) = elim (cases_Bool (same_row x k)) [
  | inl tie ↦
      ap (λ (b : Bool). min 1 (count_of z (cond b (dedup_from same_row k xs) (k ∷ dedup_from same_row x xs)))) tie
      ∙ some-dedup_from z k xs
      ∙ ap (min 1) (count-cons z k xs)
      ∙ twice (same_row z k) (same_row z x) (count_of z xs) (ap (λ (y : Row). same_row z y) (same_row_is x k tie))
      ∙ ap (λ (n : ℕ). min 1 (cond (same_row z k) 1 0 + n)) (sym (count-cons z x xs))
      ∙ ap (min 1) (sym (count-cons z k (x ∷ xs)))
  | inr other ↦
      ap (λ (b : Bool). min 1 (count_of z (cond b (dedup_from same_row k xs) (k ∷ dedup_from same_row x xs)))) other
      ∙ ap (min 1) (count-cons z k (dedup_from same_row x xs))
      ∙ beside (cond (same_row z k) 1 0) (count_of z (dedup_from same_row x xs)) (count_of z (x ∷ xs)) (some-dedup_from z x xs)
      ∙ ap (min 1) (sym (count-cons z k (x ∷ xs)))
]
  where
    twice : (b c : Bool) (n : ℕ) → c ≡ b → min 1 (cond b 1 0 + n) ≡ min 1 (cond b 1 0 + (cond c 1 0 + n))
    twice true c n e = omega arith
    twice false true n e = cc
    twice false false n e = omega arith

    beside : (k n m : ℕ) → min 1 n ≡ min 1 m → min 1 (k + n) ≡ min 1 (k + m)
    beside k n m e = omega (arith, e)

some-dedup : (z : Row) (xs : List Row) → min 1 (count_of z (dedup same_row xs)) ≡ min 1 (count_of z xs)
some-dedup z [] = refl
some-dedup z (x ∷ xs) = some-dedup_from z x xs

-- one of each of what is left is one of each
pub still_each : (xs : List Row) → SameBag (one_of_each (dedup same_row xs)) (one_of_each xs)
still_each xs = record { counts = λ z. count-one_of_each z (dedup same_row xs) ∙ some-dedup z xs ∙ sym (count-one_of_each z xs) }

-- ---- hashes that rise

rises_later : (p : HashedRow) (ps : List HashedRow) → Rises (p ∷ ps) → Rises ps
rises_later p ps up = λ k d lt. up (suc k) d (omega (arith, lt))

above : (p : HashedRow) (ps : List HashedRow) → Rises (p ∷ ps) → (k : ℕ) (d : HashedRow) → k < length ps → p.hash < (get_or ps k d).hash
above p ps up zero d lt = up zero d (omega (arith, lt))
above p ps up (suc k) d lt =
    let before = above p ps up k d (omega (arith, lt)) in
    let here = up (suc k) d (omega (arith, lt)) in
    omega (arith, before, here)

none_equal : (rows : List Row) (z : Row) (ps : List HashedRow) → All (λ p. same_row z (row_at rows p) ≡ false) ps → count_of z (map (row_at rows) ps) ≡ 0
none_equal rows z [] all = refl
none_equal rows z (p ∷ ps) all =
    count-cons z (row_at rows p) (map (row_at rows) ps)
    ∙ (λ i. cond (All-head (λ q. same_row z (row_at rows q) ≡ false) p ps all i) 1 0 + none_equal rows z ps (All-tail (λ q. same_row z (row_at rows q) ≡ false) p ps all) i)

module _ (rows : List Row) where
  abbrev Hashed : List HashedRow → Type 0
  Hashed = All (λ p. p.hash ≡ hash_of (row_at rows p))

  other_row : (z : Row) (p q : HashedRow) → z ≡ row_at rows p → p.hash ≡ hash_of (row_at rows p) → q.hash ≡ hash_of (row_at rows q) → p.hash < q.hash → same_row z (row_at rows q) ≡ false
  other_row z p q is mine theirs less = elim (cases_Bool (same_row z (row_at rows q))) [
    | inl tie ↦
        let one : p.hash ≡ q.hash = mine ∙ ap hash_of (sym is ∙ same_row_is z (row_at rows q) tie) ∙ sym theirs in
        absurd (omega (arith, less, one))
    | inr other ↦ other
  ]

  once : (z : Row) (ps : List HashedRow) → Hashed ps → Rises ps → count_of z (map (row_at rows) ps) ≤ 1
  once z [] hashed up = omega arith
  once z (p ∷ ps) hashed up =
      let first = count-cons z (row_at rows p) (map (row_at rows) ps) in
      elim (cases_Bool (same_row z (row_at rows p))) [
        | inl tie ↦
            let here = All-head (λ q. q.hash ≡ hash_of (row_at rows q)) p ps hashed in
            let later = All-tail (λ q. q.hash ≡ hash_of (row_at rows q)) p ps hashed in
            let none = none_equal rows z ps (λ k d lt. other_row z p (get_or ps k d) (same_row_is z (row_at rows p) tie) here (later k d lt) (above p ps up k d lt)) in
            let one : cond (same_row z (row_at rows p)) 1 0 ≡ 1 = ap {B = ℕ} (λ (b : Bool). cond b 1 0) tie in
            omega (arith, first, none, one)
        | inr other ↦
            let most = once z ps (All-tail (λ q. q.hash ≡ hash_of (row_at rows q)) p ps hashed) (rises_later p ps up) in
            let no : cond (same_row z (row_at rows p)) 1 0 ≡ 0 = ap {B = ℕ} (λ (b : Bool). cond b 1 0) other in
            omega (arith, first, most, no)
      ]

  -- no two of the rows are equal
  pub rising_differ : (ps : List HashedRow) → ArePlaces rows ps → Rises ps → SameBag (map (row_at rows) ps) (one_of_each (map (row_at rows) ps))
  rising_differ ps are up = record {
    counts = λ z.
        let most = once z ps are.hashes up in
        least (count_of z (map (row_at rows) ps)) most ∙ sym (count-one_of_each z (map (row_at rows) ps));
  }
    where
      least : (n : ℕ) → n ≤ 1 → n ≡ min 1 n
      least n most = omega (arith, most)
