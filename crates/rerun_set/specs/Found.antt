-- Numbers that are found one after the other, each once.
use Rattle.std.specs.Prelude.{◌≡◌, ◌⊎◌, ℕ, ◌<◌, ◌≤◌, List, length, get_or, Contains}

-- what was found stands where it stood; these are found, and nothing else is
pub record Finds (old : List ℕ) (these : ℕ → Type 0) (new : List ℕ) : Type 0 where
  pub long : length old ≤ length new
  pub kept : (k : ℕ) → k < length old → get_or new k 0 ≡ get_or old k 0
  pub has : (n : ℕ) → these n → Contains new n
  pub only : (n : ℕ) → Contains new n → Contains old n ⊎ these n
