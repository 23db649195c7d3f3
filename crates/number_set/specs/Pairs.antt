-- A set of pairs of a group and a number, by the marks of each group's numbers.
use Rattle.std.specs.Prelude.{◌≡◌, ℕ, ◌<◌, Bool, true, false, List, [], length, map, get_or}
use Rattle.std.specs.List.{flat_map, range_with_len}
use Rattle.number_set.specs.Members.{IsEmpty, IsFirst, is_marked, members}
use Rattle.number_set.specs.declared.pair.Pair.{Pair}

abbrev pub group_at : List (List Bool) → ℕ → List Bool
group_at groups g = get_or groups g []

abbrev pub pair_of : ℕ → ℕ → Pair
pair_of g n = record { group = g; number = n }

-- the pairs of a group
abbrev pub pairs_at : List (List Bool) → ℕ → List Pair
pairs_at groups g = map (pair_of g) (members (group_at groups g))

-- all pairs, by group and then by number
abbrev pub pairs : List (List Bool) → List Pair
pairs groups = flat_map (pairs_at groups) (range_with_len 0 (length groups))

-- no pair stands before this one
pub record IsFirstPair (groups : List (List Bool)) (pair : Pair) : Type 0 where
  pub first : IsFirst (group_at groups pair.group) pair.number
  pub before : (g : ℕ) → g < pair.group → IsEmpty (group_at groups g)

-- the marked groups are those that have pairs
pub record TellsGroups (groups : List (List Bool)) (filled : List Bool) : Type 0 where
  pub len : length filled ≡ length groups
  pub some : (g n : ℕ) → is_marked (group_at groups g) n ≡ true → is_marked filled g ≡ true
  pub none : (g : ℕ) → IsEmpty (group_at groups g) → is_marked filled g ≡ false
