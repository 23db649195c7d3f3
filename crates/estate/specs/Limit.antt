-- How many calls an object in memory counts.
use Rattle.std.specs.Prelude.{ℕ, ◌≤◌}
use Rattle.estate.specs.declared.calls.TheConstants.{MOST_CALLS}

-- so many calls may have been counted
abbrev pub MayBeCounted : ℕ → Type 0
MayBeCounted count = count ≤ MOST_CALLS
