-- Two lists side by side, and what `all` decides over these and over a range.
use Rattle.std.proofs.Common.{◌≡◌, ℕ, ◌≤◌, ◌<◌, Bool, IsTrue, ◌↔◌, All, List, [], ◌∷◌, ◌++◌, length, take, drop, length-append, zero-add, subst, sym, ◌∙◌, arith}
use Rattle.std.proofs.lemmas.Iterator.Search.{true_from_All}
use Rattle.std.proofs.lemmas.List.Elements.{All-nil, All-cons, All-head, All-tail, All-from_all_within}
use Rattle.std.proofs.lemmas.List.FromFn.{length-range_with_len, get_or-range_with_len}
use Rattle.std.specs.Bool.{MatchBool}
use Rattle.std.specs.List.{AllWithin, HoldsAt, range_with_len, zip}
use Rattle.std.proofs.lemmas.Slice.Zip.{AllZip-long}
use Rattle.std.specs.List.{AllZip}

module _ {A B : Type 0} (R : A → B → Type 0) where
  pub zip-front : (xs ys : List A) (zs : List B) → AllZip R (xs ++ ys) zs → AllZip R xs (take (length xs) zs)
  zip-front [] ys zs all = tt
  zip-front (x ∷ xs) ys [] all = absurd all
  zip-front (x ∷ xs) ys (z ∷ zs) all = (all.0, zip-front xs ys zs all.1)

  pub zip-back : (xs ys : List A) (zs : List B) → AllZip R (xs ++ ys) zs → AllZip R ys (drop (length xs) zs)
  zip-back [] ys zs all = all
  zip-back (x ∷ xs) ys [] all = absurd all
  zip-back (x ∷ xs) ys (z ∷ zs) all = zip-back xs ys zs all.1

  pub zip-join : (xs ys : List A) (zs : List B) → length xs ≤ length zs → AllZip R xs (take (length xs) zs) → AllZip R ys (drop (length xs) zs) → AllZip R (xs ++ ys) zs
  zip-join [] ys zs enough front back = back
  zip-join (x ∷ xs) ys [] enough front back = absurd (omega arith)
  zip-join (x ∷ xs) ys (z ∷ zs) enough front back = (front.0, zip-join xs ys zs (omega arith) front.1 back)

  pub zip-enough : (xs ys : List A) (zs : List B) → AllZip R (xs ++ ys) zs → length xs ≤ length zs
  zip-enough xs ys zs all = let long = AllZip-long R (xs ++ ys) zs all in let both = length-append xs ys in omega arith

-- what `all` answers, where its closure says of each item whether it has P
abbrev pub Decided : {X : Type 0} → (X → Type 0) → Bool → List X → Type 0
Decided {X} P r xs = MatchBool r (AllWithin P xs 0 (length xs)) ((k : ℕ) × (k < length xs) × HoldsAt (λ x. P x → ⊥) xs k)

pub all_decides : {X : Type 0} (P : X → Type 0) (r : Bool) (xs : List X) → Decided P r xs → IsTrue r ↔ All P xs
all_decides {X} P r xs cases = (
  λ yes. All-from_all_within P xs (subst (λ (b : Bool). Decided P b xs) yes cases),
  true_from_All P (λ x. P x → ⊥) r xs (λ x has lacks. lacks has) cases,
)

pub below_decides : (P : ℕ → Type 0) (n : ℕ) (r : Bool) → Decided P r (range_with_len 0 n) → IsTrue r ↔ ((s : ℕ) → s < n → P s)
below_decides P n r cases =
    let decides = all_decides P r (range_with_len 0 n) cases in (
      λ yes s lt. subst P (get_or-range_with_len 0 n s s lt ∙ zero-add s) (decides.0 yes s s (omega (arith, length-range_with_len 0 n))),
      λ each. decides.1 (λ k d lt. let within : k < n = omega (arith, length-range_with_len 0 n) in subst P (sym (get_or-range_with_len 0 n k d within ∙ zero-add k)) (each k within)),
    )

module _ {A B : Type 0} (R : A → B → Type 0) where
  zipped_from : (xs : List A) (ys : List B) → length xs ≡ length ys → All (λ p. R p.0 p.1) (zip xs ys) → AllZip R xs ys
  zipped_from [] [] long all = tt
  zipped_from [] (y ∷ ys) long all = absurd (omega arith)
  zipped_from (x ∷ xs) [] long all = absurd (omega arith)
  zipped_from (x ∷ xs) (y ∷ ys) long all =
      (All-head (λ p. R p.0 p.1) (x, y) (zip xs ys) all, zipped_from xs ys (omega arith) (All-tail (λ p. R p.0 p.1) (x, y) (zip xs ys) all))

  zipped_to : (xs : List A) (ys : List B) → AllZip R xs ys → All (λ p. R p.0 p.1) (zip xs ys)
  zipped_to [] ys each = All-nil (λ p. R p.0 p.1)
  zipped_to (x ∷ xs) [] each = absurd each
  zipped_to (x ∷ xs) (y ∷ ys) each = All-cons (λ p. R p.0 p.1) (x, y) (zip xs ys) each.0 (zipped_to xs ys each.1)

  pub zip_decides : (xs : List A) (ys : List B) (r : Bool) → length xs ≡ length ys → Decided (λ p. R p.0 p.1) r (zip xs ys) → IsTrue r ↔ AllZip R xs ys
  zip_decides xs ys r long cases =
      let decides = all_decides (λ p. R p.0 p.1) r (zip xs ys) cases in
      (λ yes. zipped_from xs ys long (decides.0 yes), λ each. decides.1 (zipped_to xs ys each))
