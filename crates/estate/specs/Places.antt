-- Where parts stand, by their names.
use Rattle.std.specs.Prelude.{◌≡◌, ℕ, Option, if◌then◌else◌}
use Rattle.std.specs.declared.cmp.Ordering.{Ordering}
use Rattle.std.specs.BTreeMap.{get}
use Rattle.estate.specs.declared.part_name.PartName.{PartName}
use Rattle.estate.specs.declared.places.Places.{Places}
use Rattle.estate.specs.Parts.{is_same_name}
use Rattle.estate.specs.contracts.part_name.PartNameOrd.TheImpl as name_ord

-- the order of names
abbrev pub name_cmp : PartName → PartName → Ordering
name_cmp = (name_ord.ghosts).cmp

abbrev pub place_of : Places → PartName → Option ℕ
place_of places name = get name_cmp places.map name

-- this name has this place, or none, and the others stand where they did
abbrev pub SetsPlace : PartName → Option ℕ → Places → Places → Type 0
SetsPlace name place old new =
    (other : PartName) →
    place_of new other ≡ (if is_same_name name other then place else place_of old other)

-- all names stand where they did
abbrev pub SamePlaces : Places → Places → Type 0
SamePlaces old new = (other : PartName) → place_of new other ≡ place_of old other
