-- What the definitions say at small lists.
use Rattle.std.proofs.Common.{◌≡◌, ℕ, List, [], ◌∷◌, refl, arith}
use Rattle.volume_split.specs.declared.group.Group.{Group}
use Rattle.volume_split.specs.Runs.{greedy_runs, largest_run}
use Rattle.volume_split.specs.Groups.{groups_of, even_groups, runs_of}
use Rattle.volume_split.specs.Choices.{IsLeastLimit}
use Rattle.volume_split.proofs.Smallest.{least_from}

abbrev fives : List ℕ
fives = 5 ∷ 5 ∷ 5 ∷ 5 ∷ []

abbrev from_to : ℕ → ℕ → Group
from_to start end = record { start = start; end = end }

in_pairs : greedy_runs 10 fives ≡ (5 ∷ 5 ∷ []) ∷ (5 ∷ 5 ∷ []) ∷ []
in_pairs = refl

pairs : groups_of (greedy_runs 10 fives) ≡ from_to 0 2 ∷ from_to 2 4 ∷ []
pairs = refl

-- a size above the limit is a run alone
alone : greedy_runs 4 (1 ∷ 9 ∷ 2 ∷ 2 ∷ 1 ∷ []) ≡ (1 ∷ []) ∷ (9 ∷ []) ∷ (2 ∷ 2 ∷ []) ∷ (1 ∷ []) ∷ []
alone = refl

in_three : even_groups 4 3 ≡ from_to 0 1 ∷ from_to 1 2 ∷ from_to 2 4 ∷ []
in_three = refl

at_places : runs_of (7 ∷ 8 ∷ 9 ∷ []) (from_to 0 2 ∷ from_to 2 3 ∷ []) ≡ (7 ∷ 8 ∷ []) ∷ (9 ∷ []) ∷ []
at_places = refl

largest : largest_run ((7 ∷ 8 ∷ []) ∷ (9 ∷ []) ∷ []) ≡ 15
largest = refl

-- one run of four fives needs a limit of 20
least_for_one : IsLeastLimit 1 fives 20
least_for_one = least_from 1 19 20 fives (omega arith) (omega arith) (omega arith)
