-- What comes of an event, by the event and the state before it.
use Rattle.std.proofs.Common.{◌≡◌, ◌⊎◌, ℕ, ◌<◌, List, inl, inr, refl, ap, ◌∙◌}
use Rattle.attempt_names.specs.Attempts.{Attempts}
use Rattle.event_graph.specs.Graphs.{JobState, Takes}
use Rattle.exec_graph.specs.Graphs.{GraphState}
use Rattle.graph_model.specs.declared.event.Event.{Event}
use Rattle.graph_model.specs.declared.event.Event.TheVariants.{Opened, Started}
use Rattle.job_events.specs.Logs.{Advances, IsRefused, IsStarted, OpensFirst, Reopens, StartsJob}
use Rattle.job_events.specs.declared.log_state.LogState.{LogState}
use Rattle.job_events.specs.declared.log_state.LogState.TheVariants.{Awaiting, Jobless, Running}

pub record IsFirst (event : Event) (new : LogState) : Type 0 where
  pub epoch : ℕ
  pub opened : event ≡ Opened epoch
  pub above : 0 < epoch
  pub is : new ≡ Awaiting epoch

pub first_is : (event : Event) (new : LogState) → OpensFirst event new → IsFirst event new
first_is (Opened epoch) (Awaiting now) h = record { epoch = epoch; opened = refl; above = h.0; is = ap Awaiting h.1 }
first_is event new h = absurd h

pub record IsReopened (last : ℕ) (event : Event) (new : LogState) : Type 0 where
  pub epoch : ℕ
  pub opened : event ≡ Opened epoch
  pub above : last < epoch
  pub is : new ≡ Jobless epoch

pub reopened_is : (last : ℕ) (event : Event) (new : LogState) → Reopens last event new → IsReopened last event new
reopened_is last (Opened epoch) (Jobless now) h = record { epoch = epoch; opened = refl; above = h.0; is = ap Jobless h.1 }
reopened_is last event new h = absurd h

pub record IsUnstarted (last : ℕ) (event : Event) (new : LogState) : Type 0 where
  pub text : List ℕ
  pub files : List (List ℕ)
  pub started : event ≡ Started text files
  pub refused : IsRefused text
  pub is : new ≡ Jobless last

pub record IsRunning (last : ℕ) (event : Event) (new : LogState) : Type 0 where
  pub text : List ℕ
  pub files : List (List ℕ)
  pub started : event ≡ Started text files
  pub graph : GraphState
  pub job : IsStarted last text files graph
  pub is : new ≡ Running graph

pub started_is : (last : ℕ) (event : Event) (new : LogState) → StartsJob last event new → IsReopened last event new ⊎ (IsUnstarted last event new ⊎ IsRunning last event new)
started_is last (Opened epoch) new h = inl (reopened_is last (Opened epoch) new h)
started_is last (Started text files) (Running graph) h = inr (inr (record { text = text; files = files; started = refl; graph = graph; job = h; is = refl }))
started_is last (Started text files) (Jobless now) h = inr (inl (record { text = text; files = files; started = refl; refused = h.0; is = ap Jobless h.1 }))
started_is last event new h = absurd h

pub record IsAdvanced (old : GraphState) (event : Event) (new : LogState) : Type 0 where
  pub graph : GraphState
  pub takes : Takes old.job event graph.job
  pub attempts : graph.attempts ≡ old.attempts
  pub is : new ≡ Running graph

pub advanced_is : (old : GraphState) (event : Event) (new : LogState) → Advances old event new → IsAdvanced old event new
advanced_is old event (Running graph) h = record { graph = graph; takes = h.0; attempts = h.1; is = refl }
advanced_is old event new h = absurd h

pub graph_is : (a b : GraphState) → a.job ≡ b.job → a.attempts ≡ b.attempts → a ≡ b
graph_is a b job attempts =
    let with_job : JobState → GraphState = λ j. record { job = j; attempts = a.attempts } in
    let with_attempts : Attempts → GraphState = λ t. record { job = b.job; attempts = t } in
    ap with_job job ∙ ap with_attempts attempts
