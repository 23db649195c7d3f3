-- How a log's events begin, and whose they are.
use Rattle.std.specs.Prelude.{◌≡◌, ℕ, List, ◌∷◌}
use Rattle.attempt_names.specs.Attempts.{no_attempts}
use Rattle.exec_graph.specs.Graphs.{GraphState}
use Rattle.graph_model.specs.declared.event.Event.{Event}
use Rattle.graph_model.specs.declared.event.Event.TheVariants.{Started}
use Rattle.job_soundness.specs.Jobs.{Job}
use Rattle.job_soundness.specs.Starts.{AreLegal, StartsJob, state_of}
use Rattle.recover_core.specs.Standing.{IsStanding}
use Rattle.recover_core.specs.declared.standing.Standing.{Standing}

-- a job of this text is started second, over files of these sizes
pub record Starts (events : List Event) (text : List ℕ) (files : List (List ℕ)) : Type 0 where
  pub first : Event
  pub rest : List Event
  pub is : events ≡ first ∷ Started text files ∷ rest

abbrev pub StartsAs : Job → List Event → Type 0
StartsAs job events = Starts events job.text job.given.files

-- the graph is the job's, in the state that its events lead to, and no attempt was named
pub record StandsFor (job : Job) (events : List Event) (graph : GraphState) : Type 0 where
  pub given : graph.job.given ≡ job.given
  pub state : graph.job.state ≡ state_of job events
  pub attempts : graph.attempts ≡ no_attempts

-- the events are the job's, and lead to this graph
pub record IsOwn (job : Job) (events : List Event) (graph : GraphState) (standing : Standing)
    : Type 0 where
  pub starts : StartsJob job events
  pub legal : AreLegal job events
  pub stands : StandsFor job events graph
  pub comes : IsStanding (state_of job events) standing
