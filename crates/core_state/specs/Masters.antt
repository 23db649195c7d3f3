-- What the master keeps, as contracts see it.
use Rattle.std.specs.Prelude.{◌≡◌, List, [], ◌∷◌}
use Rattle.event_codec.specs.Spelling.{AreShort}
use Rattle.event_graph.specs.Graphs.{JobState}
use Rattle.graph_model.specs.declared.event.Event.{Event}
use Rattle.graph_model.specs.Legal.{IsLegal}
use Rattle.graph_model.specs.States.{State}
use Rattle.job_soundness.specs.Jobs.{Job}
use Rattle.job_soundness.specs.Starts.{AreLegal, StartsJob, state_of}
use Rattle.core_model.specs.declared.step.Step.{Step}
use Rattle.core_model.specs.Cores.{CoreState, core_state, with_events}

-- the job, what its core keeps, and the steps that it has taken
pub record Master : Type 0 where
  pub job : Job
  pub core : CoreState
  pub trace : List Step

-- the events are legal and lead to this state; those that are not flushed can be spelled
pub record IsKept (job : Job) (events buffer : List Event) (state : State) : Type 0 where
  pub starts : StartsJob job events
  pub legal : AreLegal job events
  pub leads : state_of job events ≡ state
  pub short : AreShort buffer

-- the job with the state that its events lead to
abbrev pub job_state : Master → JobState
job_state master = record {
  given = master.job.given;
  state = core_state master.job master.core;
}

-- the event was legal, and joins
pub record Joins (event : Event) (old new : Master) : Type 0 where
  pub legal : IsLegal old.job.given (core_state old.job old.core) event
  pub is : new ≡ record old { core = with_events old.core (event ∷ []) }
