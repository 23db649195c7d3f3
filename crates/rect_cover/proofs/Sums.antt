-- Sums over the numbers below a bound.
use Rattle.std.proofs.Common.{◌≡◌, ℕ, zero, suc, ◌+◌, ◌*◌, ◌<◌, List, refl, sym, ◌∙◌, ap, arith}
use Rattle.std.proofs.Math.Nat.{mul-zero, mul-add}
use Rattle.bag_laws.specs.Rows.{OneRow as Row}
use Rattle.bag_laws.proofs.Laws.{total, total-append, total-zero, total-add}
use Rattle.rect_cover.specs.Cells.{gathered}

-- the sum of f over the numbers below n
abbrev pub below : ℕ → (ℕ → ℕ) → ℕ
below zero f = 0
below (suc n) f = below n f + f n

pub below-agree : (n : ℕ) (f g : ℕ → ℕ) → ((k : ℕ) → k < n → f k ≡ g k) → below n f ≡ below n g
below-agree zero f g same = refl
below-agree (suc n) f g same =
    let rest = below-agree n f g (λ k lt. same k (omega arith)) in
    let last = same n (omega arith) in
    omega arith

pub below-zero : (n : ℕ) → below n (λ k. 0) ≡ 0
below-zero zero = refl
below-zero (suc n) = let rest = below-zero n in omega arith

pub below-add : (n : ℕ) (f g : ℕ → ℕ) → below n (λ k. f k + g k) ≡ below n f + below n g
below-add zero f g = refl
below-add (suc n) f g = let rest = below-add n f g in omega arith

pub below-scaled : (n : ℕ) (c : ℕ) (f : ℕ → ℕ) → below n (λ k. c * f k) ≡ c * below n f
below-scaled zero c f = sym (mul-zero c)
below-scaled (suc n) c f = ap (λ (m : ℕ). m + c * f n) (below-scaled n c f) ∙ sym (mul-add c (below n f) (f n))

pub below-swap : (m n : ℕ) (f : ℕ → ℕ → ℕ) → below m (λ j. below n (λ k. f j k)) ≡ below n (λ k. below m (λ j. f j k))
below-swap zero n f = sym (below-zero n)
below-swap (suc m) n f =
    ap (λ (i : ℕ). i + below n (f m)) (below-swap m n f)
    ∙ sym (below-add n (λ k. below m (λ j. f j k)) (λ k. f m k))

pub total-below : {X : Type 0} (n : ℕ) (f : X → ℕ → ℕ) (xs : List X) → total (λ x. below n (λ k. f x k)) xs ≡ below n (λ k. total (λ x. f x k) xs)
total-below zero f xs = total-zero xs
total-below (suc n) f xs =
    total-add (λ x. below n (λ k. f x k)) (λ x. f x n) xs
    ∙ ap (λ (m : ℕ). m + total (λ x. f x n) xs) (total-below n f xs)

pub total-gathered : (w : Row → ℕ) (n : ℕ) (f : ℕ → List Row) → total w (gathered n f) ≡ below n (λ k. total w (f k))
total-gathered w zero f = refl
total-gathered w (suc n) f = total-append w (gathered n f) (f n) ∙ ap (λ (m : ℕ). m + total w (f n)) (total-gathered w n f)
