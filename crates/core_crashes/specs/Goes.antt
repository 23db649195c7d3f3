-- How the core goes on over its estate.
use Rattle.std.specs.Prelude.{◌≡◌, ◌≢◌, ◌⊎◌, ◌≤◌, Contains}
use Rattle.estate.specs.Changes.{Leads}
use Rattle.estate.specs.Holding.{Holding}
use Rattle.estate.specs.World.{World}
use Rattle.estate.specs.declared.part_name.PartName.{PartName}
use Rattle.job_soundness.specs.Jobs.{Files, Job}
use Rattle.job_soundness.specs.Sound.{IsWithin}
use Rattle.core_model.specs.Cores.{CoreState, Deployment, core_state}
use Rattle.core_crashes.specs.Growth.{Grows, IsFirstPart, SaysWithin}

-- From old to new the core went on. Each crash since leaves a first part of the events that it has
-- now, with all that were flushed before; each crash now leaves all that are flushed now.
pub record Goes (job : Job) (old new : CoreState) (a b : World) : Type 0 where
  pub leads : Leads (Grows job) a b
  pub events : IsFirstPart old.events new.events
  pub flushed : old.flushed ≤ new.flushed
  pub images : (image : Holding) → b.images a.now image
      → SaysWithin old.flushed new.events image.log
  pub now : (image : Holding) → b.images b.now image
      → SaysWithin new.flushed new.events image.log

-- and each such crash leaves a sound holding
pub record GoesSoundly (job : Job) (files : Files) (old new : CoreState) (a b : World)
    : Type 0 where
  pub images : (image : Holding) → b.images a.now image
      → IsWithin job files old.flushed new.events image
  pub now : (image : Holding) → b.images b.now image
      → IsWithin job files new.flushed new.events image

-- an attempt of the last epoch, whose name was not given before
pub record IsNewAttempt (job : Job) (old new : CoreState) (attempt : Deployment) : Type 0 where
  pub epoch : attempt.name.epoch ≡ (core_state job old).epoch
  pub unused : Contains old.attempts.given attempt.name → ⊥
  pub given : Contains new.attempts.given attempt.name

-- events, log and commit stay; attempts may arrive and be deployed, and names be given
pub record ChangesAttempts (job : Job) (old new : CoreState) : Type 0 where
  pub events : new.events ≡ old.events
  pub flushed : new.flushed ≡ old.flushed
  pub log_end : new.log_end ≡ old.log_end
  pub committed : new.committed ≡ old.committed
  pub given : (name : PartName) → Contains old.attempts.given name
      → Contains new.attempts.given name
  pub deployed : (attempt : Deployment) → Contains new.deployed attempt
      → Contains old.deployed attempt ⊎ IsNewAttempt job old new attempt

-- an attempt has arrived: the others are those of before, of other names
pub record HasArrived (attempt : Deployment) (old new : CoreState) : Type 0 where
  pub events : new.events ≡ old.events
  pub flushed : new.flushed ≡ old.flushed
  pub log_end : new.log_end ≡ old.log_end
  pub committed : new.committed ≡ old.committed
  pub given : new.attempts.given ≡ old.attempts.given
  pub others : (other : Deployment) → Contains new.deployed other
      → Contains old.deployed other × (other.name ≢ attempt.name)
