-- The events of a job that is started: its start aside, they have a fold.
use Rattle.std.specs.Prelude.{◌≡◌, ℕ, List, ◌∷◌, length}
use Rattle.exec_graph.specs.Graphs.{GraphState}
use Rattle.graph_model.specs.declared.event.Event.{Event}
use Rattle.graph_model.specs.declared.event.Event.TheVariants.{Opened, Started}
use Rattle.graph_model.specs.Folds.{HasFold, fold_from}
use Rattle.graph_model.specs.States.{started}
use Rattle.job_json.specs.declared.job.Job.{Job}
use Rattle.plan_model.specs.TableNames.{tables_of}
use Rattle.job_events.specs.Logs.{IsAccepted, LeadsTo, given_of}
use Rattle.job_events.specs.declared.log_state.LogState.TheVariants.{Empty, Running}

-- an epoch is opened, then a job is started, over which all other events have a fold: the graph's
-- state
pub record IsFolded (events : List Event) (graph : GraphState) : Type 0 where
  pub epoch : ℕ
  pub text : List ℕ
  pub files : List (List ℕ)
  pub rest : List Event
  pub is : events ≡ Opened epoch ∷ Started text files ∷ rest
  pub job : Job
  pub accepted : IsAccepted text job
  pub tables : length files ≡ length (tables_of job.plan)
  pub given : graph.job.given ≡ given_of job files
  pub legal : HasFold (given_of job files) started (Opened epoch ∷ rest)
  pub state : graph.job.state ≡ fold_from (given_of job files) started (Opened epoch ∷ rest)

abbrev pub FoldLaw : Type 0
FoldLaw = (events : List Event) (graph : GraphState) → LeadsTo Empty events (Running graph)
    → IsFolded events graph
