-- What the master keeps is kept: where an event joins, and where a block was flushed.
use Rattle.std.proofs.Common.{◌≡◌, ℕ, List, [], ◌∷◌, ◌++◌, refl, sym, ◌∙◌, ap, subst, append_assoc, inl, inr}
use Rattle.std.specs.List.{AllByRecursion}
use Rattle.event_codec.specs.Spelling.{AreShort, IsShort}
use Rattle.event_graph.specs.Graphs.{JobState, Takes}
use Rattle.graph_model.specs.declared.event.Event.{Event}
use Rattle.graph_model.specs.Folds.{HasFold}
use Rattle.graph_model.specs.Legal.{IsLegal, after}
use Rattle.graph_model.specs.States.{State, started}
use Rattle.job_soundness.specs.Jobs.{Job}
use Rattle.job_soundness.specs.Starts.{AreLegal, StartsJob, graph_events, state_of}
use Rattle.job_soundness.proofs.Laws.{graph_more, legal_more, starts_more, state_more}
use Rattle.core_state.specs.Masters.{IsKept}

short_more : (events : List Event) (event : Event) → AreShort events → IsShort event → AreShort (events ++ event ∷ [])
short_more [] event all one = (one, tt)
short_more (first ∷ events) event all one = (all.0, short_more events event all.1 one)

abbrev pub job_with : List ℕ → List ℕ → JobState → Job
job_with id text job = record { id = id; text = text; given = job.given }

pub legal_joined : (job : Job) (events : List Event) (event : Event) → StartsJob job events → AreLegal job events → IsLegal job.given (state_of job events) event → AreLegal job (events ++ event ∷ [])
legal_joined job events event starts legal here = record {
  begins = inr (starts_more job events (event ∷ []) starts);
  legal = subst (HasFold job.given started) (sym (graph_more job events (event ∷ []) starts)) (legal_more job.given started (graph_events events) event legal.legal here);
}

module _ (id text : List ℕ) (past buffer : List Event) (old new : JobState) (event : Event) where
  kept_same : IsKept (job_with id text old) (past ++ buffer) buffer old.state → IsShort event → IsLegal old.given old.state event
      → IsKept (job_with id text old) (past ++ (buffer ++ event ∷ [])) (buffer ++ event ∷ []) (after old.given old.state event)
  kept_same kept short legal =
      let job = job_with id text old in
      let at = subst (λ (s : State). IsLegal old.given s event) (sym kept.leads) legal in
      subst (λ (l : List Event). IsKept job l (buffer ++ event ∷ []) (after old.given old.state event)) (append_assoc past buffer (event ∷ []))
      (record {
        starts = starts_more job (past ++ buffer) (event ∷ []) kept.starts;
        legal = legal_joined job (past ++ buffer) event kept.starts kept.legal at;
        leads = state_more job (past ++ buffer) event kept.starts ∙ ap (λ (s : State). after old.given s event) kept.leads;
        short = short_more buffer event kept.short short;
      })

  pub kept_added : IsKept (job_with id text old) (past ++ buffer) buffer old.state → IsShort event → Takes old event new
      → IsKept (job_with id text new) (past ++ (buffer ++ event ∷ [])) (buffer ++ event ∷ []) new.state
  kept_added kept short takes =
      subst (λ (j : JobState). IsKept (job_with id text j) (past ++ (buffer ++ event ∷ [])) (buffer ++ event ∷ []) j.state) (sym takes.next) (kept_same kept short takes.legal)
