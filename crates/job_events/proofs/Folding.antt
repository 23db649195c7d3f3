-- The events of a job that is started have a fold.
use Rattle.std.proofs.Common.{◌≡◌, ℕ, List, [], ◌∷◌, ◌⊎◌, inl, inr, refl, sym, ap, subst}
use Rattle.event_graph.specs.Graphs.{JobState}
use Rattle.exec_graph.specs.Graphs.{GraphState}
use Rattle.graph_model.specs.declared.event.Event.{Event}
use Rattle.graph_model.specs.declared.event.Event.TheVariants.{Opened, Started}
use Rattle.graph_model.specs.Folds.{HasFold, fold_from}
use Rattle.job_events.specs.Folded.{IsFolded}
use Rattle.job_events.specs.Logs.{IsStarted, LeadsTo}
use Rattle.job_events.specs.declared.log_state.LogState.{LogState}
use Rattle.job_events.specs.declared.log_state.LogState.TheVariants.{Empty, Awaiting, Jobless, Running}
use Rattle.job_events.proofs.Coming.{IsReopened, IsRunning, IsUnstarted, advanced_is, first_is, reopened_is, started_is}

-- no job comes where none can be started
jobless : (events : List Event) (last : ℕ) (graph : GraphState) → LeadsTo (Jobless last) events (Running graph) → ⊥
jobless [] last graph same = absurd cc
jobless (event ∷ events) last graph (next, is, later) =
    let found = reopened_is last event next is in
    jobless events found.epoch graph (subst (λ (s : LogState). LeadsTo s events (Running graph)) found.is later)

-- the state of a job is the fold of its events
record Goes (job : JobState) (events : List Event) (new : JobState) : Type 0 where
  pub legal : HasFold job.given job.state events
  pub is : new ≡ record job { state = fold_from job.given job.state events }

goes : (events : List Event) (old new : GraphState) → LeadsTo (Running old) events (Running new) → Goes old.job events new.job
goes [] old new same = let one : new ≡ old = cc in record { legal = tt; is = ap (λ (g : GraphState). g.job) one }
goes (event ∷ events) old new (next, is, later) =
    let step = advanced_is old event next is in
    let rest = goes events step.graph new (subst (λ (s : LogState). LeadsTo s events (Running new)) step.is later) in
    let P : JobState → Type 0 = λ job. Goes job events new.job in
    let on = subst P step.takes.next rest in
    record { legal = (step.takes.legal, on.legal); is = on.is }

-- behind its start
behind_start : (events : List Event) (epoch : ℕ) (text : List ℕ) (files : List (List ℕ)) (first graph : GraphState) → IsStarted epoch text files first → LeadsTo (Running first) events (Running graph)
    → IsFolded (Opened epoch ∷ Started text files ∷ events) graph
behind_start events epoch text files first graph start leads =
    let P : JobState → Type 0 = λ job. Goes job events graph.job in
    let on = subst P start.opened.next (goes events first graph leads) in
    record {
      epoch = epoch;
      text = text;
      files = files;
      rest = events;
      is = refl;
      job = start.job;
      accepted = start.accepted;
      tables = start.tables;
      given = ap (λ (job : JobState). job.given) on.is;
      legal = (start.opened.legal, on.legal);
      state = ap (λ (job : JobState). job.state) on.is;
    }

second : (event : Event) (events : List Event) (epoch : ℕ) (next : LogState) (graph : GraphState) → IsRunning epoch event next → LeadsTo next events (Running graph) → IsFolded (Opened epoch ∷ event ∷ events) graph
second event events epoch next graph run leads =
    subst (λ (e : Event). IsFolded (Opened epoch ∷ e ∷ events) graph) (sym run.started)
    (behind_start events epoch run.text run.files run.graph graph run.job (subst (λ (s : LogState). LeadsTo s events (Running graph)) run.is leads))

-- behind the first epoch
behind_first : (event : Event) (events : List Event) (epoch : ℕ) (next : LogState) (graph : GraphState) → IsReopened epoch event next ⊎ (IsUnstarted epoch event next ⊎ IsRunning epoch event next) → LeadsTo next events (Running graph) → IsFolded (Opened epoch ∷ event ∷ events) graph
behind_first event events epoch next graph (inl found) later =
    absurd (jobless events found.epoch graph (subst (λ (s : LogState). LeadsTo s events (Running graph)) found.is later))
behind_first event events epoch next graph (inr (inl found)) later =
    absurd (jobless events epoch graph (subst (λ (s : LogState). LeadsTo s events (Running graph)) found.is later))
behind_first event events epoch next graph (inr (inr found)) later = second event events epoch next graph found later

in_epoch : (events : List Event) (epoch : ℕ) (graph : GraphState) → LeadsTo (Awaiting epoch) events (Running graph) → IsFolded (Opened epoch ∷ events) graph
in_epoch [] epoch graph same = absurd cc
in_epoch (event ∷ events) epoch graph (next, is, later) = behind_first event events epoch next graph (started_is epoch event next is) later

pub folded : (events : List Event) (graph : GraphState) → LeadsTo Empty events (Running graph) → IsFolded events graph
folded [] graph same = absurd cc
folded (event ∷ events) graph (next, is, later) =
    let found = first_is event next is in
    subst (λ (e : Event). IsFolded (e ∷ events) graph) (sym found.opened)
    (in_epoch events found.epoch graph (subst (λ (s : LogState). LeadsTo s events (Running graph)) found.is later))
