-- What a graph keeps beside its job and its attempts.
use Rattle.std.specs.Prelude.{◌≡◌, Bool, List, length}
use Rattle.attempt_names.specs.Attempts.{Attempts}
use Rattle.event_graph.specs.Graphs.{JobState}
use Rattle.ready_subtasks.specs.Marks.{IsReadiness}

-- which subtasks are ready, with a group of marks for each node of the plan
pub record IsKept (job : JobState) (attempts : Attempts) (marks : List (List Bool)) : Type 0 where
  pub ready : IsReadiness job.state.vertices attempts marks
  pub room : length marks ≡ length job.given.nodes
