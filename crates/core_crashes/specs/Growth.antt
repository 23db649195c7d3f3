-- What the master adds to its estate.
use Rattle.std.specs.Prelude.{◌≡◌, ◌⊎◌, ℕ, ◌≤◌, List, ◌++◌, length, take, All}
use Rattle.estate.specs.Changes.{Leads, Puts, Appends}
use Rattle.estate.specs.Holding.{Holding, StoredPart}
use Rattle.estate.specs.World.{World}
use Rattle.estate.specs.declared.commit.Commit.{Commit}
use Rattle.event_log.specs.Blocks.{AddsBlock, KeepsBlocks}
use Rattle.graph_model.specs.declared.event.Event.{Event}
use Rattle.job_soundness.specs.Jobs.{Job}
use Rattle.job_soundness.specs.Logs.{SaysEvents}

-- a list with more behind it
abbrev pub IsFirstPart : {A : Type 0} → List A → List A → Type 0
IsFirstPart {A} old new = (more : List A) × (new ≡ old ++ more)

-- a commit of the job, whatever its text
abbrev pub IsOfJob : Job → Commit → Type 0
IsOfJob job commit = (commit.id ≡ job.id) × (commit.job ≡ job.text)

-- parts may be put and commits of the job appended; other commits stay
pub record Grows (job : Job) (old new : Holding) : Type 0 where
  pub ever : IsFirstPart old.ever new.ever
  pub more : List Commit
  pub commits : new.commits ≡ old.commits ++ more
  pub own : All (IsOfJob job) more

-- nothing is added, or one block, one part or one commit
abbrev pub AddsOne : World → World → Type 0
AddsOne a b =
    Leads KeepsBlocks a b
    ⊎ ((body : List ℕ) × Leads (AddsBlock body) a b)
    ⊎ ((part : StoredPart) × Leads (Puts part) a b)
    ⊎ ((commit : Commit) × Leads (Appends commit) a b)

-- the log says so many of these events or more, from the first on
pub record SaysWithin (least : ℕ) (events : List Event) (log : List ℕ) : Type 0 where
  pub count : ℕ
  pub no_fewer : least ≤ count
  pub no_more : count ≤ length events
  pub says : SaysEvents log (take count events)
