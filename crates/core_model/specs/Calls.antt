-- What a call of the master answers with: its steps, and the events of the log.
use Rattle.std.specs.Prelude.{◌≡◌, ◌⊎◌, ℕ, Bool, List, [], ◌++◌, length, replicate}
use Rattle.attempt_names.specs.Attempts.{no_attempts}
use Rattle.estate.specs.Readings.{Readings}
use Rattle.estate.specs.declared.part_name.PartName.{PartName}
use Rattle.graph_model.specs.declared.event.Event.{Event}
use Rattle.job_soundness.specs.Jobs.{Job}
use Rattle.slot_pool.specs.Pool.{idle}
use Rattle.core_model.specs.declared.step.Step.{Step}
use Rattle.core_model.specs.Cores.{CoreState, Moment}
use Rattle.core_model.specs.Licensed.{IsLicensed, steps_of}
use Rattle.core_model.specs.Moves.{Run, Taken}
use Rattle.core_model.specs.Reopening.{Reopens}

-- a core that has taken no step, behind these events, of which so many are flushed
abbrev pub new_core : Job → ℕ → List Event → ℕ → ℕ → Bool → CoreState
new_core job workers events flushed log_end committed = record {
  events = events;
  flushed = flushed;
  log_end = log_end;
  attempts = no_attempts;
  deployed = [];
  wanted = [];
  slots = replicate workers (idle job.given.settings.slots_per_worker);
  now = 0;
  times = [];
  committed = committed;
}

-- recovery opened the next epoch behind the log's events, or left them as they were
abbrev pub MayReopen : Job → List Event → Bool → List PartName → List Event → Type 0
MayReopen job opening told held more = (more ≡ []) ⊎ Reopens job opening told held more

-- the steps of a call, and the events that it appended to those of the log: recovery's, and those
-- of a licensed run from there
pub record IsLicensedCall (job : Job) (workers : ℕ) (readings : Readings) (cut : Bool)
    (opening events : List Event) (steps : List Step) : Type 0 where
  pub start : Moment
  pub end : Moment
  pub reopened : List Event
  pub may : MayReopen job opening start.told start.held reopened
  pub log_end : ℕ
  pub committed : Bool
  pub starts : let all = opening ++ reopened in
      start.core ≡ new_core job workers all (length all) log_end committed
  pub trace : List Taken
  pub run : Run job start trace end
  pub steps_are : steps ≡ steps_of trace
  pub more : List Event
  pub adds : end.core.events ≡ (opening ++ reopened) ++ more
  pub events_are : events ≡ end.core.events
  pub licensed : IsLicensed job readings start.told cut trace more
