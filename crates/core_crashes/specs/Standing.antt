-- How the core stands to what a crash between two steps leaves: over any estate, and over a sound
-- one.
use Rattle.std.specs.Prelude.{◌≡◌, ◌≤◌, false, true, List, length, take, All, Contains}
use Rattle.estate.specs.Holding.{Holding, IsFresh, StoredPart}
use Rattle.estate.specs.World.{World}
use Rattle.estate.specs.declared.part_name.PartName.{PartName}
use Rattle.event_log.specs.Started.{IsStarted}
use Rattle.job_soundness.specs.Jobs.{Files, HasCommit, HasNone, Job}
use Rattle.job_soundness.specs.Logs.{SaysEvents}
use Rattle.job_soundness.specs.Sound.{AreRight}
use Rattle.job_soundness.specs.Starts.{AreLegal, StartsJob, state_of}
use Rattle.job_soundness.specs.Truth.{WasPut}
use Rattle.core_model.specs.Cores.{CoreState, Deployment, IsRunning, core_state}

-- ---- over any estate

-- the parts of the last epoch have names that were given, and none that an attempt will put
pub record HaveGivenNames (job : Job) (core : CoreState) (ever : List StoredPart) : Type 0 where
  pub given : (part : StoredPart) → Contains ever part
      → part.name.epoch ≡ (core_state job core).epoch
      → Contains core.attempts.given part.name
  pub fresh : (attempt : Deployment) → Contains core.deployed attempt → IsFresh attempt.name ever

-- a crash leaves exactly the flushed events; names are new and no commit stands, as long as it is
-- not known to
pub record Leaves (job : Job) (core : CoreState) (image : Holding) : Type 0 where
  pub says : SaysEvents image.log (take core.flushed core.events)
  pub names : core.committed ≡ false → IsRunning job core → HaveGivenNames job core image.ever
  pub none : core.committed ≡ false → HasNone job image.commits

-- an attempt of the last epoch, whose name was given
pub record IsOwnAttempt (job : Job) (core : CoreState) (attempt : Deployment) : Type 0 where
  pub epoch : attempt.name.epoch ≡ (core_state job core).epoch
  pub given : Contains core.attempts.given attempt.name

-- the core's events are legal, its log goes on, and each crash now leaves what it may
pub record IsBegun (job : Job) (core : CoreState) (world : World) : Type 0 where
  pub legal : AreLegal job core.events
  pub starts : StartsJob job core.events
  pub flushed : core.flushed ≤ length core.events
  pub own : (attempt : Deployment) → Contains core.deployed attempt → IsOwnAttempt job core attempt
  pub started : IsStarted core.log_end world
  pub images : (image : Holding) → world.images world.now image → Leaves job core image

-- and the flushed events have opened its epoch
pub record IsFor (job : Job) (core : CoreState) (world : World) : Type 0 where
  pub begun : IsBegun job core world
  pub epoch : (state_of job (take core.flushed core.events)).epoch
      ≡ (core_state job core).epoch

-- ---- over a sound estate

-- the flushed events and all events are right beside what a crash leaves, what attempts read was
-- put, and the commit stands where it is known to
pub record IsRightBeside (job : Job) (files : Files) (core : CoreState) (image : Holding)
    : Type 0 where
  pub flushed : AreRight job files (take core.flushed core.events) image.ever image.commits
  pub all : AreRight job files core.events image.ever image.commits
  pub held : (name : PartName) → Contains image.held name → WasPut image.ever name
  pub read : (attempt : Deployment) → Contains core.deployed attempt
      → All (WasPut image.ever) attempt.inputs
  pub commit : core.committed ≡ true → HasCommit job files image.commits

abbrev pub IsRight : Job → Files → CoreState → World → Type 0
IsRight job files core world =
    (image : Holding) → world.images world.now image → IsRightBeside job files core image
