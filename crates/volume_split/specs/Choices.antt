-- Which groups are chosen, where their number has a least and a greatest value.
use Rattle.std.specs.Prelude.{◌≡◌, ◌≢◌, ℕ, ◌<◌, ◌≤◌, min, List, [], ◌∷◌, length}
use Rattle.volume_split.specs.declared.group.Group.{Group}
use Rattle.volume_split.specs.Runs.{greedy_runs}
use Rattle.volume_split.specs.Groups.{groups_of, even_groups}

-- the least limit at which there are at most so many greedy runs
pub record IsLeastLimit (most : ℕ) (sizes : List ℕ) (limit : ℕ) : Type 0 where
  pub fits : length (greedy_runs limit sizes) ≤ most
  pub least : (other : ℕ) → length (greedy_runs other sizes) ≤ most → limit ≤ other

-- the greedy groups at a target, unless they are too many or too few
pub record IsChosen (target fewest most : ℕ) (sizes : List ℕ) (groups : List Group) : Type 0 where
  pub empty : sizes ≡ [] → groups ≡ record { start = 0; end = 0 } ∷ []
  pub raised : most < length (greedy_runs target sizes)
      → (limit : ℕ) × IsLeastLimit most sizes limit × (groups ≡ groups_of (greedy_runs limit sizes))
  pub spread : sizes ≢ [] → length (greedy_runs target sizes) ≤ most
      → length (greedy_runs target sizes) < min fewest (length sizes)
      → groups ≡ even_groups (length sizes) (min fewest (length sizes))
  pub kept : sizes ≢ [] → length (greedy_runs target sizes) ≤ most
      → min fewest (length sizes) ≤ length (greedy_runs target sizes)
      → groups ≡ groups_of (greedy_runs target sizes)
