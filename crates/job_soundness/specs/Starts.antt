-- The events of a job's log: its start, and what its graph is told.
use Rattle.std.specs.Prelude.{◌≡◌, ◌⊎◌, ℕ, List, [], ◌∷◌, drop}
use Rattle.graph_model.specs.declared.event.Event.{Event}
use Rattle.graph_model.specs.declared.event.Event.TheVariants.{Opened, Started}
use Rattle.graph_model.specs.Folds.{HasFold, fold_from}
use Rattle.graph_model.specs.States.{State, started}
use Rattle.job_soundness.specs.Jobs.{Job}

-- an epoch is opened, and the job's text and its files' sizes follow
pub record StartsJob (job : Job) (events : List Event) : Type 0 where
  pub epoch : ℕ
  pub rest : List Event
  pub is : events ≡ Opened epoch ∷ Started job.text job.given.files ∷ rest

-- all events but the second, which is the job's text and the sizes
abbrev pub graph_events : List Event → List Event
graph_events [] = []
graph_events (opened ∷ events) = opened ∷ drop 1 events

-- the state that the job's events lead to
abbrev pub state_of : Job → List Event → State
state_of job events = fold_from job.given started (graph_events events)

-- none, or the job's start, and each event is legal after those before it
pub record AreLegal (job : Job) (events : List Event) : Type 0 where
  pub begins : (events ≡ []) ⊎ StartsJob job events
  pub legal : HasFold job.given started (graph_events events)
