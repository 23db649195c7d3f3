-- What the master keeps between two steps.
use Rattle.std.specs.Prelude.{◌≡◌, ◌<◌, ℕ, Bool, false, not, List, ◌++◌, filter, length}
use Rattle.std.specs.List.{list_any}
use Rattle.attempt_names.specs.Attempts.{Attempts, is_of}
use Rattle.estate.specs.Parts.{is_same_name}
use Rattle.estate.specs.declared.part_name.PartName.{PartName}
use Rattle.graph_model.specs.declared.event.Event.{Event}
use Rattle.graph_model.specs.declared.sub.Sub.{Sub}
use Rattle.graph_model.specs.Legal.{IsOpen}
use Rattle.graph_model.specs.States.{State}
use Rattle.job_soundness.specs.Jobs.{Job}
use Rattle.job_soundness.specs.Starts.{state_of}
use Rattle.slot_pool.specs.Pool.{WorkerSlots, with_slot}
use Rattle.slot_pool.specs.declared.slot_id.SlotId.{SlotId}

-- an attempt that was deployed and has not arrived: the parts that it reads, the slot that it
-- takes, and the last moment at its deployment
pub record Deployment : Type 0 where
  pub name : PartName
  pub inputs : List PartName
  pub slot : SlotId
  pub since : ℕ

-- how long an attempt that won had run, in milliseconds
pub record RunTime : Type 0 where
  pub name : PartName
  pub time : ℕ

-- the events, how many of them are flushed and where the log goes on; the names of attempts, those
-- that have not arrived, the subtasks that want a further attempt, the slots, the last moment, the
-- times of attempts that won, and whether the job's commit is known to stand
pub record CoreState : Type 0 where
  pub events : List Event
  pub flushed : ℕ
  pub log_end : ℕ
  pub attempts : Attempts
  pub deployed : List Deployment
  pub wanted : List Sub
  pub slots : List WorkerSlots
  pub now : ℕ
  pub times : List RunTime
  pub committed : Bool

-- the core, and the names that the shelf holds, where the estate tells them
pub record Moment : Type 0 where
  pub core : CoreState
  pub told : Bool
  pub held : List PartName

abbrev pub core_state : Job → CoreState → State
core_state job core = state_of job core.events

-- the job has not ended, and its troubles are within the limit
abbrev pub IsRunning : Job → CoreState → Type 0
IsRunning job core = IsOpen job.given (core_state job core)

-- ---- changing

abbrev pub with_events : CoreState → List Event → CoreState
with_events core more = record core { events = core.events ++ more }

-- these attempts run, and a subtask of which none runs is wanted no more
abbrev pub with_running : CoreState → List PartName → CoreState
with_running core running = record core {
  attempts = record { given = core.attempts.given; running = running };
  wanted = filter (λ sub. list_any (is_of sub.vertex sub.subtask) running) core.wanted;
}

-- the attempt has arrived: it runs no more, and its slot is free
abbrev pub with_arrived : CoreState → Deployment → CoreState
with_arrived core attempt =
    let running = filter (λ name. not (is_same_name name attempt.name)) core.attempts.running in
    record (with_running core running) {
      deployed = filter (λ other. not (is_same_name other.name attempt.name)) core.deployed;
      slots = with_slot core.slots attempt.slot false;
    }

-- no attempt of the subtask runs
abbrev pub with_stopped : CoreState → Sub → CoreState
with_stopped core sub = with_running core
    (filter (λ name. not (is_of sub.vertex sub.subtask name)) core.attempts.running)

-- a name was given to an attempt that was not deployed, or none was
abbrev pub MayGiveName : CoreState → CoreState → Type 0
MayGiveName old new = (given : List PartName) × (length given < 2)
    × (new ≡ record old {
      attempts = record {
        given = old.attempts.given ++ given;
        running = old.attempts.running;
      };
    })
