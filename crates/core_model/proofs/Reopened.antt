-- What recovery appends stays right, and opens the next epoch.
use Rattle.std.proofs.Common.{◌≡◌, ◌+◌, ◌<◌, Bool, false, List, [], ◌∷◌, ◌++◌, length, Some, refl, sym, ◌∙◌, ap, subst, arith, inr, ⊎_elim, append_assoc, append-nil}
use Rattle.estate.specs.Holding.{StoredPart}
use Rattle.estate.specs.declared.commit.Commit.{Commit}
use Rattle.estate.specs.declared.part_name.PartName.{PartName}
use Rattle.graph_model.specs.Closures.{IsClosure}
use Rattle.graph_model.specs.Legal.{IsOpen, MayReset, after}
use Rattle.graph_model.specs.States.{Given, State}
use Rattle.graph_model.specs.declared.event.Event.{Event}
use Rattle.graph_model.specs.declared.event.Event.TheVariants.{Opened, Reset}
use Rattle.graph_model.specs.declared.made_vertex.MadeVertex.{MadeVertex}
use Rattle.graph_model.specs.declared.sub.Sub.{Sub}
use Rattle.job_soundness.specs.Jobs.{Files, HasCommit, HasNone, Job}
use Rattle.job_soundness.specs.Sound.{AreRight, IsFit}
use Rattle.job_soundness.specs.Starts.{AreLegal, StartsJob, state_of}
use Rattle.job_soundness.proofs.Laws.{right_event, right_started, starts_more, state_more}
use Rattle.core_model.specs.Laws.{ReopenLaw}
use Rattle.core_model.specs.Reopening.{Reopens, ResetsLost, start_of}
use Rattle.core_model.proofs.Working.{legal_on}

-- where no commit stands, an event that doesn't end the job fits
fit_none : (job : Job) (files : Files) (commits : List Commit) (old new : State) → HasNone job commits → (new.ended ≡ Some false → HasCommit job files commits) → IsFit job files commits old new
fit_none job files commits old new none ended = record {
  keeps = λ has may. absurd (cc (sym none ∙ has));
  ended = ended;
}

not_ended : {P : Type 0} (given : Given) (state : State) → IsOpen given state → state.ended ≡ Some false → P
not_ended given state running is = absurd (cc (sym running.ended ∙ is))

-- ---- the next epoch

-- the job's events go on: the same vertices, and a later epoch
pub record IsReopened (job : Job) (opening next : List Event) : Type 0 where
  pub starts : StartsJob job next
  pub legal : AreLegal job next
  pub running : IsOpen job.given (state_of job next)
  pub vertices : (state_of job next).vertices ≡ (state_of job opening).vertices
  pub epoch : (state_of job next).epoch ≡ (state_of job opening).epoch + 1

abbrev next_epoch : Job → List Event → Event
next_epoch job opening = Opened ((state_of job opening).epoch + 1)

starts_some : (job : Job) (opening : List Event) → AreLegal job opening → ((opening ≡ []) → ⊥) → StartsJob job opening
starts_some job opening legal some = ⊎_elim (λ nothing. absurd (some nothing)) (λ starts. starts) legal.begins

reopened : (job : Job) (opening : List Event) → AreLegal job opening → IsOpen job.given (state_of job opening) → IsReopened job opening (opening ++ (next_epoch job opening ∷ start_of job opening))
reopened job [] legal running = record {
  starts = record { epoch = 1; rest = []; is = refl };
  legal = record { begins = inr (record { epoch = 1; rest = []; is = refl }); legal = ((record { ended = refl; troubles = omega arith }, omega arith), tt) };
  running = record { ended = refl; troubles = omega arith };
  vertices = refl;
  epoch = refl;
}
reopened job (first ∷ opening) legal running =
    let starts = starts_some job (first ∷ opening) legal (λ nothing. absurd (cc nothing)) in
    let event = next_epoch job (first ∷ opening) in
    let state = state_more job (first ∷ opening) event starts in record {
      starts = starts_more job (first ∷ opening) (event ∷ []) starts;
      legal = legal_on job (first ∷ opening) (event ∷ []) starts legal ((running, omega arith), tt);
      running = subst (IsOpen job.given) (sym state) (record { ended = running.ended; troubles = running.troubles });
      vertices = ap (λ (s : State). s.vertices) state;
      epoch = ap (λ (s : State). s.epoch) state;
    }

opened_right : (job : Job) (files : Files) (opening : List Event) (ever : List StoredPart) (commits : List Commit) → IsOpen job.given (state_of job opening) → HasNone job commits → AreRight job files opening ever commits
    → AreRight job files (opening ++ (next_epoch job opening ∷ start_of job opening)) ever commits
opened_right job files [] ever commits running none right = right_started job files 1 ever commits (omega arith) right
opened_right job files (first ∷ opening) ever commits running none right =
    let starts = starts_some job (first ∷ opening) right.legal (λ nothing. absurd (cc nothing)) in
    let state = state_of job (first ∷ opening) in
    let event = next_epoch job (first ∷ opening) in
    right_event job files (first ∷ opening) event ever commits starts right (running, omega arith) tt
    (fit_none job files commits state (after job.given state event) none (not_ended job.given state running))

-- ---- and the reset

some_long : (subs : List Sub) → ((subs ≡ []) → ⊥) → 0 < length subs
some_long [] some = absurd (some refl)
some_long (sub ∷ subs) some = omega arith

may_reset : (job : Job) (opening next : List Event) (told : Bool) (held : List PartName) (reset : List Event) (opened : IsReopened job opening next) (lost : ResetsLost (state_of job opening) told held reset) → (lost.subs ≡ [] → ⊥)
    → MayReset job.given (state_of job next) lost.gone lost.subs
may_reset job opening next told held reset opened lost some = record {
  running = opened.running;
  some = some_long lost.subs some;
  closure = subst (λ (vs : List MadeVertex). IsClosure vs lost.gone lost.subs) (sym opened.vertices) lost.closure;
}

-- the events of the log, and those behind them
pub record IsOnward (job : Job) (opening next : List Event) : Type 0 where
  pub starts : StartsJob job next
  pub legal : AreLegal job next
  pub epoch : (state_of job next).epoch ≡ (state_of job opening).epoch + 1

reset_legal : (job : Job) (opening next : List Event) (told : Bool) (held : List PartName) (reset : List Event) → IsReopened job opening next → ResetsLost (state_of job opening) told held reset → IsOnward job opening (next ++ reset)
reset_legal job opening next told held reset opened lost = ⊎_elim
    (λ (nothing : (lost.subs ≡ []) × (reset ≡ [])).
    subst (IsOnward job opening) (sym (ap (λ (l : List Event). next ++ l) nothing.1 ∙ append-nil next)) (record { starts = opened.starts; legal = opened.legal; epoch = opened.epoch }))
    (λ (some : (lost.subs ≡ [] → ⊥) × (reset ≡ Reset lost.gone lost.subs ∷ [])).
    let event = Reset lost.gone lost.subs in
    subst (λ (l : List Event). IsOnward job opening (next ++ l)) (sym some.1) (record {
      starts = starts_more job next (event ∷ []) opened.starts;
      legal = legal_on job next (event ∷ []) opened.starts opened.legal (may_reset job opening next told held reset opened lost some.0, tt);
      epoch = ap (λ (s : State). s.epoch) (state_more job next event opened.starts) ∙ opened.epoch;
    }))
    lost.is

reset_right : (job : Job) (files : Files) (opening next : List Event) (told : Bool) (held : List PartName) (reset : List Event) (ever : List StoredPart) (commits : List Commit) → HasNone job commits → IsReopened job opening next → AreRight job files next ever commits
    → ResetsLost (state_of job opening) told held reset → AreRight job files (next ++ reset) ever commits
reset_right job files opening next told held reset ever commits none opened right lost = ⊎_elim
    (λ (nothing : (lost.subs ≡ []) × (reset ≡ [])).
    subst (λ (l : List Event). AreRight job files l ever commits) (sym (ap (λ (l : List Event). next ++ l) nothing.1 ∙ append-nil next)) right)
    (λ (some : (lost.subs ≡ [] → ⊥) × (reset ≡ Reset lost.gone lost.subs ∷ [])).
    let event = Reset lost.gone lost.subs in
    subst (λ (l : List Event). AreRight job files (next ++ l) ever commits) (sym some.1)
    (right_event job files next event ever commits opened.starts right (may_reset job opening next told held reset opened lost some.0) tt
    (fit_none job files commits (state_of job next) (after job.given (state_of job next) event) none (not_ended job.given (state_of job next) opened.running))))
    lost.is

-- ---- both

whole : (job : Job) (opening more : List Event) (told : Bool) (held : List PartName) → (reopens : Reopens job opening told held more)
    → opening ++ more ≡ (opening ++ (next_epoch job opening ∷ start_of job opening)) ++ reopens.reset
whole job opening more told held reopens =
    ap (λ (l : List Event). opening ++ l) reopens.is ∙ sym (append_assoc opening (next_epoch job opening ∷ start_of job opening) reopens.reset)

pub reopen_legal : (job : Job) (opening more : List Event) (told : Bool) (held : List PartName) → Reopens job opening told held more → IsOpen job.given (state_of job opening) → AreLegal job opening → IsOnward job opening (opening ++ more)
reopen_legal job opening more told held reopens running legal =
    subst (IsOnward job opening) (sym (whole job opening more told held reopens))
    (reset_legal job opening (opening ++ (next_epoch job opening ∷ start_of job opening)) told held reopens.reset (reopened job opening legal running) reopens.lost)

pub reopen_right : ReopenLaw
reopen_right job files opening more told held ever commits reopens running none right =
    subst (λ (l : List Event). AreRight job files l ever commits) (sym (whole job opening more told held reopens))
    (reset_right job files opening (opening ++ (next_epoch job opening ∷ start_of job opening)) told held reopens.reset ever commits none
    (reopened job opening right.legal running) (opened_right job files opening ever commits running none right) reopens.lost)
