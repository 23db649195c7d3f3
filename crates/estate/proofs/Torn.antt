-- What a write that is not on the disk yet may leave.
use Rattle.std.proofs.Common.{◌≡◌, ℕ, zero, suc, min, List, [], ◌∷◌, length, take, refl, ◌∙◌, ap, arith}
use Rattle.estate.specs.Changes.{Torn}

-- nothing of it
pub torn_refl : (at n : ℕ) (log : List ℕ) → Torn at n log log
torn_refl at n log = record { before = same at log; after = refl; no_shorter = omega arith; no_longer = omega arith }
  where
    none : (n : ℕ) → take {A = ℕ} n [] ≡ []
    none zero = refl
    none (suc n) = refl

    same : (at : ℕ) (log : List ℕ) → take (min at (length log)) log ≡ take at log
    same zero log = let none : min zero (length log) ≡ zero = omega arith in ap (λ (k : ℕ). take k log) none
    same (suc at) [] = none (min (suc at) zero)
    same (suc at) (x ∷ log) =
        let least : min (suc at) (length (x ∷ log)) ≡ suc (min at (length log)) = omega arith in
        ap (λ (k : ℕ). take k (x ∷ log)) least ∙ ap (λ (l : List ℕ). x ∷ l) (same at log)
