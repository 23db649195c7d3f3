-- Sums of a number of each item.
use Rattle.std.proofs.Common.{get_or, ◌≡◌, ℕ, ◌+◌, ◌*◌, ◌≤◌, Bool, true, false, cond, All, List, [], ◌∷◌, ◌++◌, map, refl, sym, ◌∙◌, ap, arith}
use Rattle.std.proofs.Math.Nat.{zero-mul, mul-zero, add-mul, mul-add}
use Rattle.std.proofs.lemmas.List.Elements.{All-head, All-tail}
use Rattle.std.proofs.lemmas.List.Sums.{sum_by-cons}
use Rattle.std.specs.List.{flat_map, filter, sum_by}

-- the sum of a number of each item
abbrev pub total : {X : Type 0} → (X → ℕ) → List X → ℕ
total f [] = 0
total f (x ∷ xs) = f x + total f xs

pub total_is : {X : Type 0} (f : X → ℕ) (xs : List X) → sum_by f xs ≡ total f xs
total_is f [] = refl
total_is f (x ∷ xs) = sum_by-cons f x xs ∙ ap (λ (n : ℕ). f x + n) (total_is f xs)

module _ {X : Type 0} where
  pub total-append : (f : X → ℕ) (xs ys : List X) → total f (xs ++ ys) ≡ total f xs + total f ys
  total-append f [] ys = omega arith
  total-append f (x ∷ xs) ys = let more = total-append f xs ys in omega arith

  pub total-agree : (f g : X → ℕ) (xs : List X) → All (λ x. f x ≡ g x) xs → total f xs ≡ total g xs
  total-agree f g [] same = refl
  total-agree f g (x ∷ xs) same =
      let head : f x ≡ g x = All-head (λ x. f x ≡ g x) x xs same in
      let rest = total-agree f g xs (All-tail (λ x. f x ≡ g x) x xs same) in
      omega arith

  -- the form that serves best: what P says of an element decides what it weighs
  pub total-where : (P : X → Type 0) (f g : X → ℕ) (xs : List X) → ((x : X) → P x → f x ≡ g x) → All P xs → total f xs ≡ total g xs
  total-where P f g xs each all = total-agree f g xs (λ k d lt. each (get_or xs k d) (all k d lt))

  pub total-each : (f g : X → ℕ) (xs : List X) → ((x : X) → f x ≡ g x) → total f xs ≡ total g xs
  total-each f g [] same = refl
  total-each f g (x ∷ xs) same =
      let head = same x in
      let rest = total-each f g xs same in
      omega arith

  pub total-zero : (xs : List X) → total (λ x. 0) xs ≡ 0
  total-zero [] = refl
  total-zero (x ∷ xs) = let rest = total-zero xs in omega arith

  pub total-add : (f g : X → ℕ) (xs : List X) → total (λ x. f x + g x) xs ≡ total f xs + total g xs
  total-add f g [] = refl
  total-add f g (x ∷ xs) = let rest = total-add f g xs in omega arith

  pub total-times : (f : X → ℕ) (c : ℕ) (xs : List X) → total (λ x. f x * c) xs ≡ total f xs * c
  total-times f c [] = sym (zero-mul c)
  total-times f c (x ∷ xs) = ap (λ (n : ℕ). f x * c + n) (total-times f c xs) ∙ sym (add-mul (f x) (total f xs) c)

  pub total-scaled : (f : X → ℕ) (c : ℕ) (xs : List X) → total (λ x. c * f x) xs ≡ c * total f xs
  total-scaled f c [] = sym (mul-zero c)
  total-scaled f c (x ∷ xs) = ap (λ (n : ℕ). c * f x + n) (total-scaled f c xs) ∙ sym (mul-add c (f x) (total f xs))

  pub total-le : (f g : X → ℕ) (xs : List X) → ((x : X) → f x ≤ g x) → total f xs ≤ total g xs
  total-le f g [] less = omega arith
  total-le f g (x ∷ xs) less = let head = less x in let rest = total-le f g xs less in omega arith

module _ {X Y : Type 0} where
  pub total-map : (w : Y → ℕ) (f : X → Y) (xs : List X) → total w (map f xs) ≡ total (λ x. w (f x)) xs
  total-map w f [] = refl
  total-map w f (x ∷ xs) = ap (λ (n : ℕ). w (f x) + n) (total-map w f xs)

  pub total-flat_map : (w : Y → ℕ) (f : X → List Y) (xs : List X) → total w (flat_map f xs) ≡ total (λ x. total w (f x)) xs
  total-flat_map w f [] = refl
  total-flat_map w f (x ∷ xs) = total-append w (f x) (flat_map f xs) ∙ ap (λ (n : ℕ). total w (f x) + n) (total-flat_map w f xs)

  pub total-swap : (f : X → Y → ℕ) (xs : List X) (ys : List Y) → total (λ x. total (λ y. f x y) ys) xs ≡ total (λ y. total (λ x. f x y) xs) ys
  total-swap f [] ys = sym (total-zero ys)
  total-swap f (x ∷ xs) ys =
      ap (λ (n : ℕ). total (f x) ys + n) (total-swap f xs ys)
      ∙ sym (total-add (λ y. f x y) (λ y. total (λ x. f x y) xs) ys)

pub total-filter : {X : Type 0} (w : X → ℕ) (test : X → Bool) (xs : List X) → total w (filter test xs) ≡ total (λ x. cond (test x) (w x) 0) xs
total-filter w test [] = refl
total-filter {X} w test (x ∷ xs) =
    let rest = total-filter w test xs in
    let step : (b : Bool) → total w (cond b (x ∷ filter test xs) (filter test xs)) ≡ cond b (w x) 0 + total (λ x. cond (test x) (w x) 0) xs =
    λ b. elim b as (λ b. total w (cond b (x ∷ filter test xs) (filter test xs)) ≡ cond b (w x) 0 + total (λ x. cond (test x) (w x) 0) xs) [ true ↦ omega arith | false ↦ omega arith ] in
    step (test x)
