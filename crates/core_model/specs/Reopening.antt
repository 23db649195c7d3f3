-- What recovery appends to the events of a log.
use Rattle.std.specs.Prelude.{◌≡◌, ◌⊎◌, ◌+◌, Bool, IsTrue, List, [], ◌∷◌, ◌++◌}
use Rattle.estate.specs.declared.part_name.PartName.{PartName}
use Rattle.graph_model.specs.Closures.{IsClosure}
use Rattle.graph_model.specs.States.{State}
use Rattle.graph_model.specs.declared.event.Event.{Event}
use Rattle.graph_model.specs.declared.event.Event.TheVariants.{Opened, Started, Reset}
use Rattle.graph_model.specs.declared.sub.Sub.{Sub}
use Rattle.job_soundness.specs.Jobs.{Job}
use Rattle.job_soundness.specs.Starts.{state_of}
use Rattle.core_model.specs.Moves.{AreGone}

-- the job's text and its files' sizes, where the log had no event
abbrev pub start_of : Job → List Event → List Event
start_of job [] = Started job.text job.given.files ∷ []
start_of job (event ∷ events) = []

-- the winners that are not held lead to no reset, or to that of their closure
pub record ResetsLost (state : State) (told : Bool) (held : List PartName) (more : List Event)
    : Type 0 where
  pub gone : List PartName
  pub are : IsTrue told → AreGone state.vertices held gone
  pub subs : List Sub
  pub closure : IsClosure state.vertices gone subs
  pub is : ((subs ≡ []) × (more ≡ [])) ⊎ ((subs ≡ [] → ⊥) × (more ≡ Reset gone subs ∷ []))

-- the next epoch is opened, the job is started, and what was lost is reset
pub record Reopens (job : Job) (opening : List Event) (told : Bool) (held : List PartName)
    (more : List Event) : Type 0 where
  pub reset : List Event
  pub lost : ResetsLost (state_of job opening) told held reset
  pub is : more ≡ (Opened ((state_of job opening).epoch + 1) ∷ start_of job opening) ++ reset
