-- What stands in a list of numbers or edges.
use Rattle.std.proofs.Common.{◌≡◌, ℕ, ◌<◌, nat_eq, Bool, true, false, not, ◌&&◌, ◌||◌, cond, ◌⊎◌, inl, inr, List, [], ◌∷◌, ◌++◌, length, filter, refl, sym, ◌∙◌, ap, subst, arith}
use Rattle.std.specs.List.{list_all, AllByRecursion, IsDistinct}
use Rattle.std.proofs.lemmas.Bool.{false≢true}
use Rattle.std.proofs.lemmas.Bool.Decides.{nat_tests}

-- ---- tests

pub same_yes : (n : ℕ) → nat_eq n n ≡ true
same_yes n = grind (arith, nat_tests)

pub same_number : (m n : ℕ) → nat_eq m n ≡ true → m ≡ n
same_number m n e = grind (arith, nat_tests)

pub other_number : (m n : ℕ) → m < n → nat_eq m n ≡ false
other_number m n lt = grind (arith, nat_tests)

pub flipped : (m n : ℕ) → nat_eq m n ≡ false → nat_eq n m ≡ false
flipped m n e = grind (arith, nat_tests)

pub either_right : (a b : Bool) → b ≡ true → (a || b) ≡ true
either_right true b e = refl
either_right false b e = e

pub either_left : (a b : Bool) → a ≡ true → (a || b) ≡ true
either_left true b e = refl
either_left false b e = absurd (false≢true e)

pub neither_left : (a b : Bool) → (a || b) ≡ false → a ≡ false
neither_left true b e = e
neither_left false b e = refl

pub neither_right : (a b : Bool) → (a || b) ≡ false → b ≡ false
neither_right true b e = absurd (false≢true (sym e))
neither_right false b e = e

pub both_left : (a b : Bool) → (a && b) ≡ true → a ≡ true
both_left true b e = refl
both_left false b e = e

pub both_right : (a b : Bool) → (a && b) ≡ true → b ≡ true
both_right true b e = e
both_right false b e = absurd (false≢true e)

pub all_map : {X : Type 0} (P Q : X → Type 0) (xs : List X) → AllByRecursion P xs → ((x : X) → P x → Q x) → AllByRecursion Q xs
all_map P Q [] h f = tt
all_map P Q (x ∷ xs) h f = (f x h.0, all_map P Q xs h.1 f)

pub none_twice : IsDistinct nat_eq []
unfolding IsDistinct
none_twice = tt

-- ---- items of any type

module _ {X : Type 0} where
  -- the item stands in the list
  abbrev pub IsIn : X → List X → Type 0
  IsIn x [] = ⊥
  IsIn x (y ∷ ys) = (x ≡ y) ⊎ IsIn x ys

  pub in_front : (x : X) (xs ys : List X) → IsIn x xs → IsIn x (xs ++ ys)
  in_front x [] ys h = absurd h
  in_front x (y ∷ xs) ys (inl e) = inl e
  in_front x (y ∷ xs) ys (inr h) = inr (in_front x xs ys h)

  pub in_back : (x : X) (xs ys : List X) → IsIn x ys → IsIn x (xs ++ ys)
  in_back x [] ys h = h
  in_back x (y ∷ xs) ys h = inr (in_back x xs ys h)

  pub in_filter : (x : X) (p : X → Bool) (xs : List X) → p x ≡ true → IsIn x xs → IsIn x (filter p xs)
  in_filter x p [] e h = h
  in_filter x p (y ∷ xs) e (inl same) = at (p y) (sym (ap p same) ∙ e)
    where
      at : (b : Bool) → b ≡ true → IsIn x (cond b (y ∷ filter p xs) (filter p xs))
      at true is = inl same
      at false is = absurd (false≢true is)
  in_filter x p (y ∷ xs) e (inr h) = at (p y) (in_filter x p xs e h)
    where
      at : (b : Bool) → IsIn x (filter p xs) → IsIn x (cond b (y ∷ filter p xs) (filter p xs))
      at true rest = inr rest
      at false rest = rest

  pub in_one : (x : X) (xs : List X) → length xs ≡ 1 → IsIn x xs → xs ≡ x ∷ []
  in_one x [] one h = absurd h
  in_one x (y ∷ []) one (inl e) = ap (λ (z : X). z ∷ []) (sym e)
  in_one x (y ∷ []) one (inr h) = absurd h
  in_one x (y ∷ z ∷ xs) one h = absurd (omega (arith, one))

  pub all_in : (P : X → Type 0) (x : X) (xs : List X) → AllByRecursion P xs → IsIn x xs → P x
  all_in P x [] all h = absurd h
  all_in P x (y ∷ xs) all (inl e) = at (sym e) all.0
    where
      at : y ≡ x → P y → P x
      at is here = subst P is here
  all_in P x (y ∷ xs) all (inr h) = all_in P x xs all.1 h

  -- an item that passes a test
  pub record PassingIn (p : X → Bool) (xs : List X) : Type 0 where
    pub item : X
    pub inside : IsIn item xs
    pub passes : p item ≡ true

  pub one_passes : (p : X → Bool) (xs : List X) → list_all (λ x. not (p x)) xs ≡ false → PassingIn p xs
  one_passes p [] e = absurd (false≢true (sym e))
  one_passes p (x ∷ xs) e = at (p x) refl (one_passes p xs) e
    where
      at : (b : Bool) → p x ≡ b → (list_all (λ y. not (p y)) xs ≡ false → PassingIn p xs) → (not b && list_all (λ y. not (p y)) xs) ≡ false → PassingIn p (x ∷ xs)
      at true is rest says = record { item = x; inside = inl refl; passes = is }
      at false is rest says = let found = rest says in record { item = found.item; inside = inr found.inside; passes = found.passes }
