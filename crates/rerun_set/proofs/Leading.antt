-- What a search finds along a list, item by item.
use Rattle.std.proofs.Common.{◌≡◌, ℕ, Bool, List, [], ◌∷◌, ◌++◌, refl, sym, ◌∙◌, ap, subst, true, false, inl, inr}
use Rattle.std.specs.Prelude.{◌⊎◌, Contains}
use Rattle.std.proofs.lemmas.Bool.{false≢true}
use Rattle.std.proofs.lemmas.List.Elements.{Contains-append_left, Contains-push, Contains-push_cases}
use Rattle.rerun_set.specs.Found.{Finds}
use Rattle.rerun_set.proofs.Finding.{finds_both, finds_none}
use Rattle.rerun_set.proofs.Items.{in_nothing}

-- the same numbers, told otherwise
pub finds_same : (old new : List ℕ) (these those : ℕ → Type 0) → ((n : ℕ) → these n → those n) → ((n : ℕ) → those n → these n) → Finds old these new → Finds old those new
finds_same old new these those to back h = record {
  long = h.long;
  kept = h.kept;
  has = λ n is. h.has n (back n is);
  only = λ n has. by n (h.only n has);
}
  where
    by : (n : ℕ) → Contains old n ⊎ these n → Contains old n ⊎ those n
    by n (inl has) = inl has
    by n (inr is) = inr (to n is)

module _ {X : Type 0} (f : X → ℕ) (P : ℕ → Type 0) where
  -- the numbers of these items that pass
  abbrev pub Led : List X → ℕ → Type 0
  Led xs n = (x : X) × Contains xs x × (f x ≡ n) × P n

  pub led_none : (found : List ℕ) → Finds found (Led []) found
  led_none found = finds_none found (Led []) (λ n (x, has, is, p). in_nothing x has)

  split : (front : List X) (x : X) (n : ℕ) → Led (front ++ x ∷ []) n → Led front n ⊎ ((n ≡ f x) × P n)
  split front x n (y, has, is, p) = by (Contains-push_cases front x y has)
    where
      by : Contains front y ⊎ (x ≡ y) → Led front n ⊎ ((n ≡ f x) × P n)
      by (inl h) = inl (y, h, is, p)
      by (inr e) = inr (sym (ap f e ∙ is), p)

  grown : (front : List X) (x : X) (n : ℕ) → Led front n → Led (front ++ x ∷ []) n
  grown front x n (y, has, is, p) = (y, Contains-append_left front (x ∷ []) y has, is, p)

  -- one item more, which passes and is found
  pub led_yes : (old found new : List ℕ) (front : List X) (x : X) → Finds old (Led front) found → P (f x) → Finds found (λ n. n ≡ f x) new → Finds old (Led (front ++ x ∷ [])) new
  led_yes old found new front x a p b =
      finds_both old found new (Led front) (λ n. n ≡ f x) (Led (front ++ x ∷ [])) a b
      (λ n h. by n (split front x n h))
      (grown front x)
      (λ n is. (x, Contains-push front x, sym is, subst P (sym is) p))
    where
      by : (n : ℕ) → Led front n ⊎ ((n ≡ f x) × P n) → Led front n ⊎ (n ≡ f x)
      by n (inl h) = inl h
      by n (inr (e, q)) = inr e

  -- one item more, which doesn't pass
  pub led_no : (old found : List ℕ) (front : List X) (x : X) → Finds old (Led front) found → (P (f x) → ⊥) → Finds old (Led (front ++ x ∷ [])) found
  led_no old found front x a never =
      finds_same old found (Led front) (Led (front ++ x ∷ [])) (grown front x) (λ n h. by n (split front x n h)) a
    where
      by : (n : ℕ) → Led front n ⊎ ((n ≡ f x) × P n) → Led front n
      by n (inl h) = h
      by n (inr (e, q)) = absurd (never (subst P e q))

  -- one item more, by a test
  pub led_if : (old found new : List ℕ) (front : List X) (x : X) (b : Bool) → Finds old (Led front) found → (b ≡ true → P (f x)) → (P (f x) → b ≡ true)
      → (b ≡ true → Finds found (λ n. n ≡ f x) new) → (b ≡ false → new ≡ found) → Finds old (Led (front ++ x ∷ [])) new
  led_if old found new front x true a to back on off = led_yes old found new front x a (to refl) (on refl)
  led_if old found new front x false a to back on off =
      subst (λ (l : List ℕ). Finds old (Led (front ++ x ∷ [])) l) (sym (off refl)) (led_no old found front x a (λ p. false≢true (back p)))
