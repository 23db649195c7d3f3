-- What stays right: one event more, one part more, the job's commit.
use Rattle.std.proofs.Common.{◌≡◌, ◌≢◌, ℕ, ◌<◌, ◌≤◌, Bool, true, false, List, [], ◌∷◌, ◌++◌, get_or, cond, Some, None, refl, sym, ◌∙◌, ap, subst, arith, inl, inr, ⊎_elim, if◌then◌else◌}
use Rattle.std.specs.Str.{bytes_eq}
use Rattle.std.proofs.lemmas.Slice.Eq.{bytes_eq-Decides}
use Rattle.std.proofs.lemmas.List.Elements.{filter-append, Contains-get_or, Contains-push_cases}
use Rattle.std.proofs.lemmas.List.Quantifiers.{all_pairs_push}
use Rattle.estate.specs.Holding.{IsFresh, StoredPart, job_under}
use Rattle.estate.specs.declared.commit.Commit.{Commit}
use Rattle.graph_model.specs.declared.event.Event.{Event}
use Rattle.graph_model.specs.declared.event.Event.TheVariants.{Opened, Started, Made, Widened, Decided, Done, Reset, Trouble, Ended}
use Rattle.graph_model.specs.Folds.{HasFold, fold_from}
use Rattle.graph_model.specs.Legal.{IsLegal, after}
use Rattle.graph_model.specs.States.{Given, State, started}
use Rattle.job_soundness.specs.Jobs.{Files, Job, HasCommit, HasNone, commits_under, the_commit}
use Rattle.job_soundness.specs.Sound.{AreRight, CommitsOnce, IsFit, IsOpened, MayHaveCommit}
use Rattle.job_soundness.specs.Starts.{AreLegal, StartsJob, graph_events, state_of}
use Rattle.job_soundness.specs.Truth.{AreTrue, IsTrueEvent}
use Rattle.job_soundness.proofs.Standing.{true_put}

-- ---- one event more

pub fold_more : (given : Given) (state : State) (events : List Event) (event : Event) → fold_from given state (events ++ event ∷ []) ≡ after given (fold_from given state events) event
fold_more given state [] event = refl
fold_more given state (first ∷ events) event = fold_more given (after given state first) events event

pub legal_more : (given : Given) (state : State) (events : List Event) (event : Event) → HasFold given state events → IsLegal given (fold_from given state events) event → HasFold given state (events ++ event ∷ [])
legal_more given state [] event legal is = (is, tt)
legal_more given state (first ∷ events) event (here, rest) is = (here, legal_more given (after given state first) events event rest is)

pub true_more : (job : Job) (files : Files) (ever : List StoredPart) (state : State) (events : List Event) (event : Event) → AreTrue job files ever state events → IsTrueEvent job files ever (fold_from job.given state events) event → AreTrue job files ever state (events ++ event ∷ [])
true_more job files ever state [] event are is = (is, tt)
true_more job files ever state (first ∷ events) event (here, rest) is = (here, true_more job files ever (after job.given state first) events event rest is)

pub starts_more : (job : Job) (events more : List Event) → StartsJob job events → StartsJob job (events ++ more)
starts_more job events more starts = record { epoch = starts.epoch; rest = starts.rest ++ more; is = ap (λ (l : List Event). l ++ more) starts.is }

pub graph_more : (job : Job) (events more : List Event) → StartsJob job events → graph_events (events ++ more) ≡ graph_events events ++ more
graph_more job events more starts =
    ap (λ (l : List Event). graph_events (l ++ more)) starts.is ∙ ap (λ (l : List Event). graph_events l ++ more) (sym starts.is)

pub state_more : (job : Job) (events : List Event) (event : Event) → StartsJob job events → state_of job (events ++ event ∷ []) ≡ after job.given (state_of job events) event
state_more job events event starts = ap (fold_from job.given started) (graph_more job events (event ∷ []) starts) ∙ fold_more job.given started (graph_events events) event

are_legal_more : (job : Job) (events : List Event) (event : Event) → StartsJob job events → AreLegal job events → IsLegal job.given (state_of job events) event → AreLegal job (events ++ event ∷ [])
are_legal_more job events event starts legal is = record {
  begins = inr (starts_more job events (event ∷ []) starts);
  legal = subst (HasFold job.given started) (sym (graph_more job events (event ∷ []) starts)) (legal_more job.given started (graph_events events) event legal.legal is);
}

-- no event takes an epoch back
pub epoch_after : (given : Given) (state : State) (event : Event) → IsLegal given state event → state.epoch ≤ (after given state event).epoch
epoch_after given state (Opened epoch) (running, later) = omega (arith, later)
epoch_after given state (Started text sizes) legal = absurd legal
epoch_after given state (Made vertex nodes) legal = omega arith
epoch_after given state (Widened node side) legal = omega arith
epoch_after given state (Decided vertex decision) legal = omega arith
epoch_after given state (Done name inputs sizes) legal = omega arith
epoch_after given state (Reset gone subs) legal = omega arith
epoch_after given state (Trouble cause) legal = omega arith
epoch_after given state (Ended failed) legal = omega arith

pub right_event : (job : Job) (files : Files) (events : List Event) (event : Event) (ever : List StoredPart) (commits : List Commit) → StartsJob job events → AreRight job files events ever commits → IsLegal job.given (state_of job events) event
    → IsTrueEvent job files ever (state_of job events) event → IsFit job files commits (state_of job events) (after job.given (state_of job events) event) → AreRight job files (events ++ event ∷ []) ever commits
right_event job files events event ever commits starts right legal is_true fit =
    let old = state_of job events in
    let new = after job.given old event in
    let state : state_of job (events ++ event ∷ []) ≡ new = state_more job events event starts in
    let epoch = epoch_after job.given old event legal in
    record {
      legal = are_legal_more job events event starts right.legal legal;
      are_true = subst (AreTrue job files ever started) (sym (graph_more job events (event ∷ []) starts)) (true_more job files ever started (graph_events events) event right.are_true is_true);
      distinct = right.distinct;
      epochs = λ part has. subst (λ (s : State). IsOpened s part.name) (sym state) (record { first = (right.epochs part has).first; last = later old new epoch part.name.epoch (right.epochs part has).last });
      once = subst (λ (s : State). CommitsOnce job files s commits) (sym state) (⊎_elim (λ none. inl none) (λ has. inr (has.0, fit.keeps has.0 has.1)) right.once);
      ended = subst (λ (s : State). s.ended ≡ Some false → HasCommit job files commits) (sym state) fit.ended;
    }
  where
    later : (old new : State) → old.epoch ≤ new.epoch → (n : ℕ) → n ≤ old.epoch → n ≤ new.epoch
    later old new epoch n le = omega (arith, epoch, le)

-- ---- the job's start

-- a log without events gets the job's start: nothing was put yet, or the first epoch is no earlier
pub right_started : (job : Job) (files : Files) (epoch : ℕ) (ever : List StoredPart) (commits : List Commit) → 0 < epoch → AreRight job files [] ever commits → AreRight job files (Opened epoch ∷ Started job.text job.given.files ∷ []) ever commits
right_started job files epoch ever commits some right = record {
  legal = record { begins = inr (record { epoch = epoch; rest = []; is = refl }); legal = ((record { ended = refl; troubles = omega arith }, some), tt) };
  are_true = (tt, tt);
  distinct = right.distinct;
  epochs = λ part has. let was = right.epochs part has in record { first = was.first; last = omega (arith, was.first, was.last) };
  once = ⊎_elim (λ none. inl none) (λ has. inr (has.0, record { done = (has.1).done; troubles = (has.1).troubles })) right.once;
  ended = right.ended;
}

-- ---- one part more

pub right_put : (job : Job) (files : Files) (events : List Event) (ever : List StoredPart) (commits : List Commit) (part : StoredPart) → AreRight job files events ever commits → IsFresh part.name ever → IsOpened (state_of job events) part.name
    → AreRight job files events (ever ++ part ∷ []) commits
right_put job files events ever commits part right fresh opened = record {
  legal = right.legal;
  are_true = true_put job files ever part fresh opened.first started (graph_events events) right.are_true;
  distinct = all_pairs_push (λ p q. p.name ≢ q.name) ever part right.distinct (λ k d lt. fresh (get_or ever k d) (Contains-get_or ever k d lt));
  epochs = λ other has. ⊎_elim
      (λ old. right.epochs other old)
      (λ (same : part ≡ other). subst (λ (p : StoredPart). IsOpened (state_of job events) p.name) same opened)
      (Contains-push_cases ever part other has);
  once = right.once;
  ended = right.ended;
}

-- ---- the job's commit

pub once_more : (job : Job) (files : Files) (commits : List Commit) → HasNone job commits → HasCommit job files (commits ++ the_commit job files ∷ [])
once_more job files commits none =
    filter-append (λ (other : Commit). bytes_eq other.id job.id) commits (the_commit job files ∷ [])
    ∙ ap (λ (l : List Commit). l ++ commits_under job.id (the_commit job files ∷ [])) none
    ∙ ap (λ (b : Bool). cond {A = List Commit} b (the_commit job files ∷ []) []) ((bytes_eq-Decides job.id job.id).1 refl)

pub right_commit : (job : Job) (files : Files) (events : List Event) (ever : List StoredPart) (commits : List Commit) → AreRight job files events ever commits → HasNone job commits → MayHaveCommit job (state_of job events)
    → AreRight job files events ever (commits ++ the_commit job files ∷ [])
right_commit job files events ever commits right none may = record {
  legal = right.legal;
  are_true = right.are_true;
  distinct = right.distinct;
  epochs = right.epochs;
  once = inr (once_more job files commits none, may);
  ended = λ is. once_more job files commits none;
}

-- where no commit stands under an id, no job's text is found there
pub none_found : (job : Job) (commits : List Commit) → HasNone job commits → job_under job.id commits ≡ None
none_found job [] none = refl
none_found job (commit ∷ commits) none = by (bytes_eq commit.id job.id) none (none_found job commits)
  where
    by : (b : Bool) → cond b (commit ∷ commits_under job.id commits) (commits_under job.id commits) ≡ [] → (HasNone job commits → job_under job.id commits ≡ None) → (if b then Some commit.job else job_under job.id commits) ≡ None
    by true none later = absurd (cc none)
    by false none later = later none

-- and where none is found, none stands
pub found_none : (job : Job) (commits : List Commit) → job_under job.id commits ≡ None → HasNone job commits
found_none job [] none = refl
found_none job (commit ∷ commits) none = by (bytes_eq commit.id job.id) none (found_none job commits)
  where
    by : (b : Bool) → (if b then Some commit.job else job_under job.id commits) ≡ None → (job_under job.id commits ≡ None → HasNone job commits) → cond b (commit ∷ commits_under job.id commits) (commits_under job.id commits) ≡ []
    by true none later = absurd (cc none)
    by false none later = later none

-- where the job's commit stands, its text is found
pub commit_found : (job : Job) (files : Files) (commits : List Commit) → HasCommit job files commits → job_under job.id commits ≡ Some job.text
commit_found job files [] has = absurd (cc has)
commit_found job files (commit ∷ commits) has = by (bytes_eq commit.id job.id) has (commit_found job files commits)
  where
    head : (rest : List Commit) → commit ∷ rest ≡ the_commit job files ∷ [] → commit ≡ the_commit job files
    head rest is = cc is

    by : (b : Bool) → cond b (commit ∷ commits_under job.id commits) (commits_under job.id commits) ≡ the_commit job files ∷ [] → (HasCommit job files commits → job_under job.id commits ≡ Some job.text)
        → (if b then Some commit.job else job_under job.id commits) ≡ Some job.text
    by true has later = ap (λ (c : Commit). Some c.job) (head (commits_under job.id commits) has)
    by false has later = later has
