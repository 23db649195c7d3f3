-- A graph: a job with the state that its events lead to, and the attempts of its subtasks.
use Rattle.attempt_names.specs.Attempts.{Attempts}
use Rattle.event_graph.specs.Graphs.{JobState}

pub record GraphState : Type 0 where
  pub job : JobState
  pub attempts : Attempts
