-- What inputs hold.
use Rattle.std.specs.Prelude.{◌≡◌, ℕ, ◌≤◌, Bool, IsTrue, List, [], ◌∷◌, if◌then◌else◌}
use Rattle.std.specs.Str.{bytes_eq}
use Rattle.estate.specs.declared.table.Table.{Table}

-- The job's text, the files of each table, and how often the inputs have failed. Text and files say
-- something only where they are told.
pub record Contents : Type 0 where
  pub told : Bool
  pub job : List ℕ
  pub files : List ℕ → List (List ℕ)
  pub faults : ℕ

-- what is told stays, and the count never falls
pub record KeepsContents (old new : Contents) : Type 0 where
  pub told : new.told ≡ old.told
  pub job : IsTrue old.told → new.job ≡ old.job
  pub files : IsTrue old.told → (table : List ℕ) → new.files table ≡ old.files table
  pub faults : old.faults ≤ new.faults

-- the files of the first entry of a table, or none
abbrev pub files_in : List Table → List ℕ → List (List ℕ)
files_in [] name = []
files_in (table ∷ tables) name =
    if bytes_eq table.table name then table.files else files_in tables name
