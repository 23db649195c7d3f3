-- A shelf in memory: what was put, and what is held of it.
use Rattle.std.specs.Prelude.{◌≡◌, ℕ, ◌<◌, ◌≤◌, nat_le, Bool, true, false, not, ◌&&◌, All, Contains, List, ◌∷◌, ◌++◌, length, map, Option, Some, None, if◌then◌else◌}
use Rattle.std.specs.List.{filter, slice_index_or}
use Rattle.estate.specs.declared.part_name.PartName.{PartName}
use Rattle.estate.specs.declared.shelved.Shelved.{Shelved}
use Rattle.estate.specs.declared.places.Places.{Places}
use Rattle.estate.specs.Holding.{StoredPart}
use Rattle.estate.specs.Parts.{is_same_name}
use Rattle.estate.specs.Places.{place_of}

abbrev pub is_lost_by : ℕ → Option ℕ → Bool
is_lost_by u None = false
is_lost_by u (Some since) = nat_le since u

abbrev pub is_lost : Option ℕ → Bool
is_lost None = false
is_lost (Some since) = true

abbrev pub stored : Shelved → StoredPart
stored part = record { name = part.name; edges = part.edges }

-- all parts that were put up to a moment
abbrev pub ever_at : ℕ → List Shelved → List StoredPart
ever_at u parts = map stored (filter (λ part. nat_le part.since u) parts)

-- the names that are held at a moment
abbrev pub held_at : ℕ → List Shelved → List PartName
held_at u parts =
    map (λ part. part.name)
    (filter (λ part. nat_le part.since u && not (is_lost_by u part.lost)) parts)

-- the names that are held after all
abbrev pub held_in : List Shelved → List PartName
held_in parts = map (λ part. part.name) (filter (λ part. not (is_lost part.lost)) parts)

-- all that happened to the parts did so up to a moment
abbrev pub HasHappened : ℕ → List Shelved → Type 0
HasHappened now parts =
    All (λ part. (part.since ≤ now) × ((t : ℕ) → part.lost ≡ Some t → t ≤ now)) parts

abbrev pub recalled_loss : ℕ → Option ℕ → Option ℕ
recalled_loss u None = None
recalled_loss u (Some since) = if nat_le since u then Some 0 else None

-- a part as it was at a moment, in an estate of which that moment is the first
abbrev pub recalled : ℕ → Shelved → Shelved
recalled u part = record {
  since = 0;
  name = part.name;
  edges = part.edges;
  lost = recalled_loss u part.lost;
}

-- the parts as they were at a moment
abbrev pub recalled_parts : ℕ → List Shelved → List Shelved
recalled_parts u parts = map (recalled u) (filter (λ part. nat_le part.since u) parts)

-- a part has this place if it is held, and the others stand where they did
abbrev pub NotesPart : Shelved → ℕ → Places → Places → Type 0
NotesPart part place old new =
    (other : PartName) →
    place_of new other
    ≡ (if not (is_lost part.lost) && is_same_name part.name other then Some place
    else place_of old other)

-- the parts that are not lost stand at their places
pub record IsPlaced (places : Places) (parts : List Shelved) : Type 0 where
  pub found : (name : PartName) (i : ℕ) (d : Shelved) → place_of places name ≡ Some i →
      (i < length parts) × ((slice_index_or parts i d).name ≡ name)
      × ((slice_index_or parts i d).lost ≡ None)
  pub place : (i : ℕ) (d : Shelved) → i < length parts → (slice_index_or parts i d).lost ≡ None →
      place_of places (slice_index_or parts i d).name ≡ Some i

-- one part, which was held, is lost since then
pub record Loses (name : PartName) (since : ℕ) (old new : List Shelved) : Type 0 where
  pub front : List Shelved
  pub part : Shelved
  pub back : List Shelved
  pub was : old ≡ front ++ part ∷ back
  pub is : new ≡ front
      ++ (record {
        since = part.since;
        name = part.name;
        edges = part.edges;
        lost = Some since;
      }) ∷ back
  pub held : part.lost ≡ None
  pub named : part.name ≡ name

-- parts may be lost since then, and nothing else
pub record LosesFrom (since : ℕ) (old new : List Shelved) : Type 0 where
  pub earlier : (u : ℕ) → u < since → held_at u new ≡ held_at u old
  pub ever : (u : ℕ) → ever_at u new ≡ ever_at u old
  pub fewer : (u : ℕ) (name : PartName) → Contains (held_at u new) name →
      Contains (held_at u old) name
  pub happened : (now : ℕ) → since ≤ now → HasHappened now old → HasHappened now new
  pub names : map (λ part. part.name) new ≡ map (λ part. part.name) old
  pub count : length (held_in new) ≤ length (held_in old)
