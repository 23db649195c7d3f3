-- The median of numbers.
use Rattle.std.specs.Prelude.{◌≡◌, ℕ, ◌-◌, ◌/◌, List, length, slice_get, Some, IsSorted, IsPermutation}
use Rattle.std.specs.Ordering.{nat_cmp}

-- the number in the middle of the numbers in ascending order, the lower one of two
pub record IsMedian (numbers : List ℕ) (median : ℕ) : Type 0 where
  pub sorted : List ℕ
  pub same : IsPermutation numbers sorted
  pub ascending : IsSorted nat_cmp sorted
  pub middle : slice_get sorted ((length numbers - 1) / 2) ≡ Some median
