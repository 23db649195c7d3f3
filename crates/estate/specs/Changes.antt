-- What calls on an estate do to it, and to what a crash may leave.
use Rattle.std.specs.Prelude.{◌≡◌, ◌⊎◌, ℕ, ◌+◌, ◌^◌, ◌<◌, ◌≤◌, max, min, IsTrue, Contains, List, [], ◌∷◌, ◌++◌, length, take, drop, Option, Some, None, Result, IsErrOf}
use Rattle.estate.specs.declared.part_name.PartName.{PartName}
use Rattle.estate.specs.declared.estate_error.EstateError.{EstateError}
use Rattle.estate.specs.declared.estate_error.EstateError.TheVariants.{Failed}
use Rattle.estate.specs.declared.input_error.InputError.{InputError}
use Rattle.estate.specs.declared.input_error.InputError.TheVariants as input
use Rattle.estate.specs.Holding.{StoredPart, Holding, Counts}
use Rattle.estate.specs.declared.commit.Commit.{Commit}
use Rattle.estate.specs.World.{World}

-- a count is greater than before, or stands at its greatest value
abbrev pub Rose : ℕ → ℕ → Type 0
Rose before now = (before < now) ⊎ (2 ^ 64 ≤ now + 1)

-- a fault of the log was counted, or its count is full
abbrev pub LogRose : World → World → Type 0
LogRose old new = Rose old.counts.log_faults new.counts.log_faults

-- the same of the shelf
abbrev pub ShelfRose : World → World → Type 0
ShelfRose old new = Rose old.counts.shelf_faults new.counts.shelf_faults

-- the same of the sink
abbrev pub SinkRose : World → World → Type 0
SinkRose old new = Rose old.counts.sink_faults new.counts.sink_faults

-- a call on the log fails only where it counted a fault
abbrev pub LogCause : {T : Type 0} → World → World → Result T EstateError → Type 0
LogCause old new result = IsErrOf result Failed → LogRose old new

-- the same of a call on the shelf
abbrev pub ShelfCause : {T : Type 0} → World → World → Result T EstateError → Type 0
ShelfCause old new result = IsErrOf result Failed → ShelfRose old new

-- the same of a call on the sink
abbrev pub SinkCause : {T : Type 0} → World → World → Result T EstateError → Type 0
SinkCause old new result = IsErrOf result Failed → SinkRose old new

-- a call fails, or the count of its own part is as it was
abbrev pub IsSteady : {T : Type 0} → ℕ → ℕ → Result T EstateError → Type 0
IsSteady before now result = IsErrOf result Failed ⊎ (now ≡ before)

-- a call on the log counts a fault only where it fails, and none of another part
abbrev pub LogSteady : {T : Type 0} → World → World → Result T EstateError → Type 0
LogSteady old new result =
    IsSteady old.counts.log_faults new.counts.log_faults result
    × (new.counts.shelf_faults ≡ old.counts.shelf_faults)
    × (new.counts.sink_faults ≡ old.counts.sink_faults)

-- the same of a call on the shelf
abbrev pub ShelfSteady : {T : Type 0} → World → World → Result T EstateError → Type 0
ShelfSteady old new result =
    IsSteady old.counts.shelf_faults new.counts.shelf_faults result
    × (new.counts.log_faults ≡ old.counts.log_faults)
    × (new.counts.sink_faults ≡ old.counts.sink_faults)

-- the same of a call on the sink
abbrev pub SinkSteady : {T : Type 0} → World → World → Result T EstateError → Type 0
SinkSteady old new result =
    IsSteady old.counts.sink_faults new.counts.sink_faults result
    × (new.counts.log_faults ≡ old.counts.log_faults)
    × (new.counts.shelf_faults ≡ old.counts.shelf_faults)

-- a call on inputs fails only where their count rose
abbrev pub InputCause : {T : Type 0} → ℕ → ℕ → Result T InputError → Type 0
InputCause before now result = IsErrOf result input.Failed → Rose before now

-- a call on inputs fails, or their count is as it was
abbrev pub InputSteady : {T : Type 0} → ℕ → ℕ → Result T InputError → Type 0
InputSteady before now result = IsErrOf result input.Failed ⊎ (now ≡ before)

-- new is old with these bytes at this offset
abbrev pub Holds : List ℕ → ℕ → List ℕ → List ℕ → Type 0
Holds old at bytes new = new ≡ take at old ++ bytes ++ drop (at + length bytes) old

-- after a write of n bytes that is not on the disk yet: any bytes in the range and past the old
-- end, the same elsewhere
pub record Torn (at n : ℕ) (old new : List ℕ) : Type 0 where
  pub before : take (min at (length old)) new ≡ take at old
  pub after : drop (at + n) new ≡ drop (at + n) old
  pub no_shorter : length old ≤ length new
  pub no_longer : length new ≤ max (length old) (at + n)

-- the same log
abbrev pub Same : List ℕ → List ℕ → Type 0
Same old new = new ≡ old

-- the list with one more item or without it
abbrev pub MayGain : {A : Type 0} → Option A → List A → List A → Type 0
MayGain None old new = new ≡ old
MayGain (Some x) old new = (new ≡ old) ⊎ (new ≡ old ++ x ∷ [])

-- a name was held before, or it is the part's that is put, which then stands in `ever`
abbrev pub WasHeld : Option StoredPart → Holding → Holding → PartName → Type 0
WasHeld None old new name = Contains old.held name
WasHeld (Some part) old new name =
    Contains old.held name ⊎ ((name ≡ part.name) × (new.ever ≡ old.ever ++ part ∷ []))

-- what a call may make of a holding: its log goes by a relation, and at most one part and one
-- commit are added
pub record Step
    (writes : List ℕ → List ℕ → Type 0)
    (part : Option StoredPart)
    (commit : Option Commit)
    (old new : Holding)
    : Type 0 where
  pub log : writes old.log new.log
  pub ever : MayGain part old.ever new.ever
  pub commits : MayGain commit old.commits new.commits
  pub held : (name : PartName) → Contains new.held name → WasHeld part old new name

-- nothing but that names may be gone
abbrev pub Stays : Holding → Holding → Type 0
Stays = Step Same None None

-- these bytes are written there, and any part of them may be torn
abbrev pub Writes : ℕ → List ℕ → Holding → Holding → Type 0
Writes at bytes = Step (Torn at (length bytes)) None None

-- this part is put, or nothing is
abbrev pub Puts : StoredPart → Holding → Holding → Type 0
Puts part = Step Same (Some part) None

-- this commit is appended, or nothing is
abbrev pub Appends : Commit → Holding → Holding → Type 0
Appends commit = Step Same None (Some commit)

-- this part was put, and is held
abbrev pub HasPut : StoredPart → Holding → Holding → Type 0
HasPut part old new = (new.ever ≡ old.ever ++ part ∷ []) × Contains new.held part.name

-- this part was not put, and is not held
abbrev pub HasNotPut : StoredPart → Holding → Holding → Type 0
HasNotPut part old new = (new.ever ≡ old.ever) × ¬ (Contains new.held part.name)

-- this commit was appended
abbrev pub HasAppended : Commit → Holding → Holding → Type 0
HasAppended commit old new = new.commits ≡ old.commits ++ commit ∷ []

-- Counts never fall, and where a name is gone a loss was counted.
pub record Counted (old new : Counts) : Type 0 where
  pub log_faults : old.log_faults ≤ new.log_faults
  pub shelf_faults : old.shelf_faults ≤ new.shelf_faults
  pub sink_faults : old.sink_faults ≤ new.sink_faults
  pub losses : old.losses ≤ new.losses

-- Time goes on: the images since a moment are those that there were, and those since the call
-- began.
pub record Elapses (old new : World) : Type 0 where
  pub told : new.told ≡ old.told
  pub later : old.now ≤ new.now
  pub nothing_else : (t : ℕ) (image : Holding) → t ≤ old.now → new.images t image →
      old.images t image ⊎ new.images old.now image
  pub keeps : (t : ℕ) (image : Holding) → t ≤ old.now → old.images t image → new.images t image
  pub counts : Counted old.counts new.counts
  pub losses : IsTrue old.told → (name : PartName) → Contains old.holding.held name →
      Contains new.holding.held name ⊎ Rose old.counts.losses new.counts.losses

-- From old to new time goes on. What is held then, and what a crash since old may leave, come by a
-- step from what was held, and from what a crash at old may have left.
pub record Leads (step : Holding → Holding → Type 0) (old new : World) : Type 0 where
  pub time : Elapses old new
  pub holding : IsTrue old.told → step old.holding new.holding
  pub images : (image : Holding) → new.images old.now image →
      (before : Holding) × old.images old.now before × step before image
