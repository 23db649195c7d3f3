-- How many names were given, by the first one's name: that of the attempt 0.
use Rattle.std.specs.Prelude.{◌≡◌, ℕ, List, if◌then◌else◌}
use Rattle.std.specs.Option.{unwrap_or}
use Rattle.std.specs.BTreeMap.{get}
use Rattle.estate.specs.declared.part_name.PartName.{PartName}
use Rattle.estate.specs.Parts.{is_same_name}
use Rattle.estate.specs.Places.{name_cmp}
use Rattle.attempt_names.specs.Attempts.{tries}
use Rattle.attempt_names.specs.declared.tries.Tries.{Tries}

abbrev pub tries_of : Tries → PartName → ℕ
tries_of all first = unwrap_or (get name_cmp all.map first) 0

-- this name has so many tries, and the others as many as before
abbrev pub SetsTries : PartName → ℕ → Tries → Tries → Type 0
SetsTries first count old new =
    (other : PartName) →
    tries_of new other ≡ (if is_same_name first other then count else tries_of old other)

-- all names have as many tries as before
abbrev pub SameTries : Tries → Tries → Type 0
SameTries old new = (other : PartName) → tries_of new other ≡ tries_of old other

abbrev pub first_name : ℕ → ℕ → ℕ → PartName
first_name vertex subtask epoch =
    record { vertex = vertex; subtask = subtask; epoch = epoch; attempt = 0 }

-- each count is that of the names
abbrev pub AreTries : Tries → List PartName → Type 0
AreTries all names =
    (vertex subtask epoch : ℕ) →
    tries_of all (first_name vertex subtask epoch) ≡ tries names vertex subtask epoch
