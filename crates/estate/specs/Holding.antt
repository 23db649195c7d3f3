-- What an estate holds.
use Rattle.std.specs.Prelude.{◌≢◌, ℕ, Contains, List, [], ◌∷◌, Option, Some, None, if◌then◌else◌}
use Rattle.std.specs.Str.{bytes_eq}
use Rattle.estate.specs.declared.part_name.PartName.{PartName}
use Rattle.estate.specs.declared.commit.Commit.{Commit}

-- what an attempt wrote: for each edge its cells
pub record StoredPart : Type 0 where
  pub name : PartName
  pub edges : List (List (List ℕ))

abbrev pub part_of : PartName → List (List (List ℕ)) → StoredPart
part_of name edges = record { name = name; edges = edges }

abbrev pub commit_of : List ℕ → List ℕ → List ℕ → Commit
commit_of id job text = record { id = id; job = job; text = text }

-- no part of this name was ever put
abbrev pub IsFresh : PartName → List StoredPart → Type 0
IsFresh name ever = (part : StoredPart) → Contains ever part → part.name ≢ name

-- the log's bytes, all parts that were ever put, the names that are still there, and the commits
pub record Holding : Type 0 where
  pub log : List ℕ
  pub ever : List StoredPart
  pub held : List PartName
  pub commits : List Commit

abbrev pub empty_holding : Holding
empty_holding = record { log = []; ever = []; held = []; commits = [] }

-- how often each part of an estate has failed, and how often a name was lost
pub record Counts : Type 0 where
  pub log_faults : ℕ
  pub shelf_faults : ℕ
  pub sink_faults : ℕ
  pub losses : ℕ

abbrev pub no_counts : Counts
no_counts = record { log_faults = 0; shelf_faults = 0; sink_faults = 0; losses = 0 }

-- the job's text of the first commit of this id
abbrev pub job_under : List ℕ → List Commit → Option (List ℕ)
job_under id [] = None
job_under id (commit ∷ commits) =
    if bytes_eq commit.id id then Some commit.job else job_under id commits
