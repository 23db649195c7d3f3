-- A job with the state that its events lead to.
use Rattle.std.specs.Prelude.{◌≡◌, ℕ, ◌<◌, IsTrue}
use Rattle.graph_model.specs.declared.event.Event.{Event}
use Rattle.graph_model.specs.declared.sub.Sub.{Sub}
use Rattle.graph_model.specs.Legal.{IsLegal, IsOpen, IsUnfinished, after}
use Rattle.graph_model.specs.States.{Given, State}
use Rattle.event_graph.specs.Numbers.{is_fed}

pub record JobState : Type 0 where
  pub given : Given
  pub state : State

-- the event was legal, and is taken
pub record Takes (old : JobState) (event : Event) (new : JobState) : Type 0 where
  pub legal : IsLegal old.given old.state event
  pub next : new ≡ record old { state = after old.given old.state event }

-- the event is not legal, and nothing changes
pub record Refuses (old : JobState) (event : Event) (new : JobState) : Type 0 where
  pub illegal : IsLegal old.given old.state event → ⊥
  pub same : new ≡ old

-- a further attempt of the last epoch may be deployed: the subtask is unfinished, and what it reads
-- from has winners
pub record MayDeploy (job : JobState) (sub : Sub) (epoch : ℕ) : Type 0 where
  pub running : IsOpen job.given job.state
  pub timely : epoch ≡ job.state.epoch
  pub opened : 0 < job.state.epoch
  pub undone : IsUnfinished job.state.vertices sub
  pub fed : IsTrue (is_fed job.state.vertices sub)
