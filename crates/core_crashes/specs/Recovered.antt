-- What recovery has read of its estate, and how a call goes on from its entry.
use Rattle.std.specs.Prelude.{◌≡◌, ◌⊎◌, ◌↔◌, ℕ, ◌≤◌, Bool, false, List, Contains}
use Rattle.estate.specs.Changes.{Leads}
use Rattle.estate.specs.Holding.{Holding, StoredPart}
use Rattle.estate.specs.World.{World}
use Rattle.event_log.specs.Started.{IsStarted}
use Rattle.graph_model.specs.declared.event.Event.{Event}
use Rattle.job_soundness.specs.Jobs.{Files, HasNone, Job}
use Rattle.job_soundness.specs.Logs.{SaysEvents}
use Rattle.job_soundness.specs.Sound.{IsSound}
use Rattle.job_soundness.specs.Starts.{AreLegal, state_of}
use Rattle.core_crashes.specs.Growth.{Grows, SaysWithin}

-- no part has an epoch behind the last one
abbrev pub HasNoLaterPart : Job → List Event → Holding → Type 0
HasNoLaterPart job events image = (part : StoredPart) → Contains image.ever part
    → part.name.epoch ≤ (state_of job events).epoch

-- each crash now leaves these events, which are legal; no commit of the job stands, unless it is
-- known to
pub record IsReadAs (job : Job) (opening : List Event) (log_end : ℕ) (committed : Bool)
    (world : World) : Type 0 where
  pub legal : AreLegal job opening
  pub started : IsStarted log_end world
  pub says : (image : Holding) → world.images world.now image → SaysEvents image.log opening
  pub none : committed ≡ false → (image : Holding) → world.images world.now image
      → HasNone job image.commits
  pub epochs : (image : Holding) → world.images world.now image → HasNoLaterPart job opening image

-- the image's log says what one at the entry says
pub record SaysAsAt (world : World) (image : Holding) : Type 0 where
  pub before : Holding
  pub stood : world.images world.now before
  pub same : (events : List Event) → SaysEvents before.log events ↔ SaysEvents image.log events

-- Each crash since the entry leaves the events of one at the entry, or a first part of these, with
-- so many at least.
pub record Ran (job : Job) (least : ℕ) (events : List Event) (a b : World) : Type 0 where
  pub leads : Leads (Grows job) a b
  pub images : (image : Holding) → b.images a.now image
      → SaysAsAt a image ⊎ SaysWithin least events image.log

-- and a sound holding
abbrev pub RanSoundly : Job → Files → World → World → Type 0
RanSoundly job files a b =
    (image : Holding) → b.images a.now image → IsSound job files image
