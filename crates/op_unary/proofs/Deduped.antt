-- Leaving repeated neighbours out by a test that looks at hashes first.
use Rattle.std.proofs.Common.{◌≡◌, ℕ, Bool, true, false, All, List, [], ◌∷◌, refl, sym, inl, inr, ◌∙◌, ap, eq-eqb}
use Rattle.std.proofs.lemmas.Bool.{cases_Bool}
use Rattle.std.proofs.lemmas.List.Elements.{All-head, All-tail}
use Rattle.std.specs.List.{dedup, dedup_from}
use Rattle.std.specs.Prelude.{cond, ◌==◌, ◌&&◌}
use Rattle.row_core.specs.Values.{same_row}
use Rattle.bag_laws.proofs.Laws.{same_row_is}
use Rattle.bag_laws.specs.Rows.{OneRow as Row}
use Rattle.op_unary.specs.Hashes.{hash_of}

module _ {X : Type 0} (P : X → Type 0) (same also : X → X → Bool) (alike : (x y : X) → P x → P y → same x y ≡ also x y) where
  dedup_from_alike : (k : X) (xs : List X) → P k → All P xs → dedup_from same k xs ≡ dedup_from also k xs
  dedup_from_alike k [] here all = refl
  dedup_from_alike k (x ∷ xs) here all =
      let next = All-head P x xs all in
      let rest = All-tail P x xs all in
      λ i. cond (alike x k next here i) (dedup_from_alike k xs here rest i) (k ∷ dedup_from_alike x xs next rest i)

  -- two tests that agree on the items leave the same ones
  pub dedup_alike : (xs : List X) → All P xs → dedup same xs ≡ dedup also xs
  dedup_alike [] all = refl
  dedup_alike (x ∷ xs) all = dedup_from_alike x xs (All-head P x xs all) (All-tail P x xs all)

module _ {X : Type 0} (hash : X → ℕ) (row : X → Row) where
  -- equal hashes, and then equal rows
  abbrev pub ties : X → X → Bool
  ties x y = (hash x == hash y) && same_row (row x) (row y)

  -- says no more than equal rows, where the hashes are the rows'
  ties_are : (x y : X) → hash x ≡ hash_of (row x) → hash y ≡ hash_of (row y) → ties x y ≡ same_row (row x) (row y)
  ties_are x y this that = elim (cases_Bool (same_row (row x) (row y))) [
    | inl tie ↦
        let one : hash x ≡ hash y = this ∙ ap hash_of (same_row_is (row x) (row y) tie) ∙ sym that in
        let equal : (hash x == hash y) ≡ true = eq-eqb (hash x) (hash y) one in
        ap (λ (b : Bool). b && same_row (row x) (row y)) equal
    | inr other ↦ ap (λ (b : Bool). (hash x == hash y) && b) other ∙ never (hash x == hash y) ∙ sym other
  ]
    where
      never : (b : Bool) → b && false ≡ false
      never true = refl
      never false = refl

  pub dedup_ties : (xs : List X) → All (λ x. hash x ≡ hash_of (row x)) xs → dedup ties xs ≡ dedup (λ x y. same_row (row x) (row y)) xs
  dedup_ties xs theirs = dedup_alike (λ x. hash x ≡ hash_of (row x)) ties (λ x y. same_row (row x) (row y)) ties_are xs theirs
