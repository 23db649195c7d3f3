-- A set of numbers below a bound, by a mark for each.
use Rattle.std.specs.Prelude.{◌≡◌, ℕ, ◌<◌, Bool, true, false, List, length, filter, get_or}
use Rattle.std.specs.List.{range_with_len}

abbrev pub is_marked : List Bool → ℕ → Bool
is_marked marks n = get_or marks n false

-- the numbers of the set, in ascending order
abbrev pub members : List Bool → List ℕ
members marks = filter (is_marked marks) (range_with_len 0 (length marks))

-- the set has no number
abbrev pub IsEmpty : List Bool → Type 0
IsEmpty marks = (n : ℕ) → is_marked marks n ≡ false

-- the least number of the set
pub record IsFirst (marks : List Bool) (n : ℕ) : Type 0 where
  pub is : is_marked marks n ≡ true
  pub before : (k : ℕ) → k < n → is_marked marks k ≡ false
