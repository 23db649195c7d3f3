-- What a clock will tell.
use Rattle.std.specs.Prelude.{◌≡◌, ℕ, ◌+◌, ◌-◌, Bool, min, List, length}
use Rattle.std.specs.List.{slice_index_or}

-- The coming readings, in milliseconds. They say something only where they are told.
pub record Readings : Type 0 where
  pub told : Bool
  pub at : ℕ → ℕ

-- reading k of a list whose last number repeats, or 0
abbrev pub reading : List ℕ → ℕ → ℕ
reading moments k = slice_index_or moments (min k (length moments - 1)) 0

-- the first reading was taken
abbrev pub MovesOn : Readings → Readings → Type 0
MovesOn old new = (k : ℕ) → new.at k ≡ old.at (k + 1)

-- the coming readings are the same
abbrev pub StandsStill : Readings → Readings → Type 0
StandsStill old new = (k : ℕ) → new.at k ≡ old.at k
