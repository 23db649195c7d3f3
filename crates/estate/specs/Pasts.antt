-- What an estate in memory was at its moments, and what a crash at one of them may leave.
use Rattle.std.specs.Prelude.{◌≡◌, ℕ, ◌+◌, ◌≤◌, ◌⊎◌, true, nat_le, All, Contains, List, map}
use Rattle.std.specs.List.{filter}
use Rattle.estate.specs.declared.part_name.PartName.{PartName}
use Rattle.estate.specs.declared.commit.Commit.{Commit}
use Rattle.estate.specs.declared.committed.Committed.{Committed}
use Rattle.estate.specs.declared.log_change.LogChange.{LogChange}
use Rattle.estate.specs.declared.shelved.Shelved.{Shelved}
use Rattle.estate.specs.Holding.{StoredPart, Holding, Counts}
use Rattle.estate.specs.World.{World}
use Rattle.estate.specs.Disk.{Disk, IsTornBy, whole_log, disk_at, chosen_log}
use Rattle.estate.specs.Changes.{Rose, Counted}
use Rattle.estate.specs.Shelf.{ever_at, held_at, held_in, HasHappened, LosesFrom}

-- what stood at a moment
pub record Past : Type 0 where
  pub disk : Disk
  pub ever : List StoredPart
  pub held : List PartName
  pub commits : List Commit

-- what is held of it where nothing is torn
abbrev pub whole : Past → Holding
whole past = record {
  log = whole_log past.disk;
  ever = past.ever;
  held = past.held;
  commits = past.commits;
}

-- what a crash may leave of it
pub record IsLeftOf (past : Past) (image : Holding) : Type 0 where
  pub log : IsTornBy past.disk.writes past.disk.durable image.log
  pub ever : image.ever ≡ past.ever
  pub held : image.held ≡ past.held
  pub commits : image.commits ≡ past.commits

-- what a crash leaves by its choice
abbrev pub chosen : ℕ → Past → Holding
chosen choice past =
    record {
      log = chosen_log choice past.disk;
      ever = past.ever;
      held = past.held;
      commits = past.commits;
    }

-- an estate that tells what it holds, and what it was at each moment up to now
abbrev pub past_world : (ℕ → Past) → ℕ → Counts → World
past_world past now counts = record {
  told = true;
  holding = whole (past now);
  now = now;
  images = λ t image. (u : ℕ) × (t ≤ u) × (u ≤ now) × IsLeftOf (past u) image;
  counts = counts;
}

-- all that happened to an estate
pub record History : Type 0 where
  pub log : List LogChange
  pub shelf : List Shelved
  pub sink : List Committed

abbrev pub commits_in : List Committed → List Commit
commits_in sink = map (λ entry. entry.commit) sink

-- a commit as it stands in an estate of which this is the first moment
abbrev pub recalled_commit : Committed → Committed
recalled_commit entry = record { since = 0; commit = entry.commit }

abbrev pub commits_at : ℕ → List Committed → List Commit
commits_at u sink = commits_in (filter (λ entry. nat_le entry.since u) sink)

abbrev pub past_at : History → ℕ → Past
past_at history u = record {
  disk = disk_at u history.log;
  ever = ever_at u history.shelf;
  held = held_at u history.shelf;
  commits = commits_at u history.sink;
}

abbrev pub history : List LogChange → List Shelved → List Committed → History
history log shelf sink = record { log = log; shelf = shelf; sink = sink }

-- all of it happened up to a moment
pub record HasEnded (history : History) (now : ℕ) : Type 0 where
  pub log : All (λ change. change.since ≤ now) history.log
  pub shelf : HasHappened now history.shelf
  pub sink : All (λ entry. entry.since ≤ now) history.sink

-- where a name is no longer held, a loss was counted
abbrev pub IsCounted : List Shelved → List Shelved → ℕ → ℕ → Type 0
IsCounted old new before now =
    (name : PartName) → Contains (held_in old) name → Contains (held_in new) name ⊎ Rose before now

-- a call begins: parts may be lost, which is counted, and nothing else
pub record Enters (old new : History) (now : ℕ) (before after : Counts) : Type 0 where
  pub log : new.log ≡ old.log
  pub shelf : LosesFrom (now + 1) old.shelf new.shelf
  pub sink : new.sink ≡ old.sink
  pub counts : Counted before after
  pub lost : IsCounted old.shelf new.shelf before.losses after.losses
