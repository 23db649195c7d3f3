-- Which calls of an object in memory fail, and which parts are lost at a call.
use Rattle.std.specs.Prelude.{◌≡◌, ◌⊎◌, ◌↔◌, ℕ, ◌+◌, min, Contains, List}
use Rattle.estate.specs.declared.calls.Calls.{Calls}
use Rattle.estate.specs.declared.calls.TheConstants.{MOST_CALLS}
use Rattle.estate.specs.declared.loss.Loss.{Loss}
use Rattle.estate.specs.declared.part_name.PartName.{PartName}

-- the next call fails: its number stands in the list, or no call is counted any more
abbrev pub FailsNext : Calls → Type 0
FailsNext calls = Contains calls.failing.items calls.count ⊎ (calls.count ≡ MOST_CALLS)

-- one call was counted, and the list of those that fail is the same
abbrev pub CountsOne : Calls → Calls → Type 0
CountsOne old new =
    (new.count ≡ min (old.count + 1) MOST_CALLS) × (new.failing.items ≡ old.failing.items)

-- one call was counted, and it failed exactly where it was to
abbrev pub FailsAsListed : Type 0 → Calls → Calls → Type 0
FailsAsListed failed old new = CountsOne old new × (failed ↔ FailsNext old)

-- the part of this name is to be lost at this call
abbrev pub IsDue : List Loss → ℕ → PartName → Type 0
IsDue losing call name = Contains losing (record { call = call; name = name })

-- what was held and is due is lost, and nothing else
pub record LosesDue (losing : List Loss) (call : ℕ) (old new : List PartName) : Type 0 where
  pub gone : (name : PartName) → Contains old name → IsDue losing call name → ¬ (Contains new name)
  pub kept : (name : PartName) → Contains old name → IsDue losing call name ⊎ Contains new name
