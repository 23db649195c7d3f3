-- Levels of marks: a mark stands where one of the two below it does, up to a single one.
use Rattle.std.specs.Prelude.{◌≡◌, ℕ, suc, ◌+◌, ◌*◌, ◌^◌, ◌<◌, ◌≤◌, Bool, ◌||◌, List, [], ◌∷◌, ◌++◌, length, get_or, if◌then◌else◌}
use Rattle.number_set.specs.Members.{is_marked}

-- whether one of the two marks below is set
abbrev pub has_below : List Bool → ℕ → Bool
has_below below i = is_marked below (2 * i) || is_marked below (2 * i + 1)

-- the places of the two marks below, if they are set
abbrev pub marked_below : List Bool → ℕ → List ℕ
marked_below below i =
    (if is_marked below (2 * i) then (2 * i) ∷ [] else [])
    ++ (if is_marked below (2 * i + 1) then (2 * i + 1) ∷ [] else [])

abbrev pub level_at : List (List Bool) → ℕ → List Bool
level_at levels j = get_or levels j []

-- each mark of a level tells of the two below
abbrev pub TellsOf : List Bool → List Bool → Type 0
TellsOf below above = (i : ℕ) → is_marked above i ≡ has_below below i

-- each level tells of the one below and has at least half as many marks, the last one at most
pub record AreLevels (levels : List (List Bool)) : Type 0 where
  pub some : 0 < length levels
  pub tell : (j : ℕ) → suc j < length levels → TellsOf (level_at levels j) (level_at levels (suc j))
  pub halves : (j : ℕ) → suc j < length levels
      → length (level_at levels j) ≤ 2 * length (level_at levels (suc j))
  pub top : (j : ℕ) → suc j ≡ length levels → length (level_at levels j) ≤ 1
  pub few : (j : ℕ) → length (level_at levels j) < 2 ^ 63
