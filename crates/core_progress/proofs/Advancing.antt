-- What each step takes away, and that troubles are bounded.
use Rattle.std.proofs.Common.{◌≡◌, ◌+◌, ◌<◌, ◌≤◌, List, [], ◌∷◌, ◌++◌, refl, sym, ◌∙◌, ap, subst, arith, append_assoc, inl, inr}
use Rattle.graph_model.specs.Folds.{HasFold, fold_from}
use Rattle.graph_model.specs.Legal.{IsLegal, after}
use Rattle.graph_model.specs.States.{Given, State, started}
use Rattle.graph_model.specs.declared.cause.Cause.TheVariants.{Gate, Lost}
use Rattle.graph_model.specs.declared.event.Event.{Event}
use Rattle.graph_model.specs.declared.event.Event.TheVariants as event
use Rattle.job_soundness.specs.Jobs.{Job}
use Rattle.job_soundness.specs.Starts.{StartsJob, graph_events, state_of}
use Rattle.job_soundness.proofs.Laws.{starts_more, state_more}
use Rattle.core_model.specs.declared.arrival.Arrival.{Arrival}
use Rattle.core_model.specs.declared.arrival.Arrival.TheVariants.{Win, Stale, Double, Fault, Lost as Late, NoMemory}
use Rattle.core_model.specs.declared.step.Step.TheVariants.{Tick, Arrive, Make, Widen, Decide, Deploy, Reset, Spent, Flush, Commit, End}
use Rattle.core_model.specs.Arrivals.{ArrivesBy}
use Rattle.core_model.specs.Cores.{CoreState, Deployment, MayGiveName, core_state}
use Rattle.core_progress.specs.Progress.{AdvancesBy, AdvanceLaw, BoundLaw, DoesWork, StaysLevel, work_left}
use Rattle.core_progress.proofs.Working.{decided_less, made_less, widened_less, won_less}

-- ---- without an event, and with one

level : (job : Job) (old new : CoreState) → new.events ≡ old.events → StaysLevel job.given (core_state job old) (core_state job new)
level job old new same = record {
  troubles = ap (λ (l : List Event). (state_of job l).troubles) same;
  work = ap (λ (l : List Event). work_left job.given (state_of job l)) same;
}

state_one : (job : Job) (old new : CoreState) (event : Event) → StartsJob job old.events → new.events ≡ old.events ++ event ∷ [] → core_state job new ≡ after job.given (core_state job old) event
state_one job old new event starts is = ap (state_of job) is ∙ state_more job old.events event starts

works : (job : Job) (old new : CoreState) (event : Event) → StartsJob job old.events → new.events ≡ old.events ++ event ∷ [] → (after job.given (core_state job old) event).troubles ≡ (core_state job old).troubles
    → work_left job.given (after job.given (core_state job old) event) < work_left job.given (core_state job old) → DoesWork job.given (core_state job old) (core_state job new)
works job old new event starts is troubles less =
    let same = state_one job old new event starts is in record {
      troubles = ap (λ (s : State). s.troubles) same ∙ troubles;
      work = subst (λ (s : State). work_left job.given s < work_left job.given (core_state job old)) (sym same) less;
    }

same_events : (old named : CoreState) → MayGiveName old named → named.events ≡ old.events
same_events old named (given, few, is) = ap (λ (c : CoreState). c.events) is

-- ---- arrivals

by_arrival : (job : Job) (kind : Arrival) (attempt : Deployment) (old new : CoreState) → StartsJob job old.events → ArrivesBy job attempt kind old new → AdvancesBy job.given kind (core_state job old) (core_state job new)
by_arrival job Win attempt old new starts by =
    works job old new (event.Done attempt.name attempt.inputs by.sizes) starts (ap (λ (c : CoreState). c.events) by.is) refl
    (won_less job.given (core_state job old) attempt.name attempt.inputs by.sizes (record { name = attempt.name; inputs = attempt.inputs; sizes = by.sizes }) by.legal)
by_arrival job (Stale input) attempt old new starts by = level job old new (ap (λ (c : CoreState). c.events) by.1)
by_arrival job (Double winner) attempt old new starts by = level job old new (ap (λ (c : CoreState). c.events) by.1)
by_arrival job (Fault code) attempt old new starts (inl fails) =
    inl (ap (λ (s : State). s.troubles) (state_one job old new (event.Trouble (Gate attempt.name code)) starts (ap (λ (c : CoreState). c.events) fails.is)))
by_arrival job (Fault code) attempt old new starts (inr late) = inr (level job old new (ap (λ (c : CoreState). c.events) late.1))
by_arrival job (Late winner) attempt old new starts by = level job old new (ap (λ (c : CoreState). c.events) by.1)
by_arrival job NoMemory attempt old new starts by = level job old new (ap (λ (c : CoreState). c.events) by)

-- ---- steps

pub advances : AdvanceLaw
advances job (Tick now) old new good starts legal moves = level job old.core new.core (ap (λ (c : CoreState). c.events) moves.is)
advances job (Arrive name kind) old new good starts legal moves = by_arrival job kind moves.attempt old.core new.core starts moves.by
advances job (Make vertex) old new good starts legal moves =
    works job old.core new.core (event.Made vertex moves.0) starts (ap (λ (c : CoreState). c.events) (moves.1).1) refl (made_less job.given (core_state job old.core) vertex moves.0 (moves.1).0)
advances job (Widen node side) old new good starts legal moves =
    works job old.core new.core (event.Widened node side) starts (ap (λ (c : CoreState). c.events) moves.1) refl (widened_less job.given (core_state job old.core) node side moves.0)
advances job (Decide vertex) old new good starts legal moves =
    works job old.core new.core (event.Decided vertex moves.0) starts (ap (λ (c : CoreState). c.events) (moves.1).1) refl (decided_less job.given (core_state job old.core) vertex moves.0 (moves.1).0)
advances job (Deploy name worker) old new good starts legal moves = level job old.core new.core (ap (λ (c : CoreState). c.events) moves.is)
advances job (Reset gone subs) old new good starts legal moves =
    let trouble = event.Trouble (Lost moves.name) in
    let reset = event.Reset gone subs in
    let is : new.core.events ≡ old.core.events ++ (trouble ∷ reset ∷ []) =
    ap (λ (c : CoreState). c.events) moves.is ∙ ap (λ (l : List Event). l ++ (trouble ∷ reset ∷ [])) (same_events old.core moves.named moves.gave) in
    ap (λ (s : State). s.troubles) (ap (state_of job) is ∙ state_two job old.core.events trouble reset starts)
  where
    state_two : (job : Job) (events : List Event) (first second : Event) → StartsJob job events → state_of job (events ++ first ∷ second ∷ []) ≡ after job.given (after job.given (state_of job events) first) second
    state_two job events first second starts =
        ap (state_of job) (sym (append_assoc events (first ∷ []) (second ∷ [])))
        ∙ state_more job (events ++ first ∷ []) second (starts_more job events (first ∷ []) starts)
        ∙ ap (λ (s : State). after job.given s second) (state_more job events first starts)
advances job (Spent name) old new good starts legal moves =
    ap (λ (s : State). s.troubles) (state_one job old.core new.core (event.Trouble (Lost name)) starts
    (ap (λ (c : CoreState). c.events) moves.is ∙ ap (λ (l : List Event). l ++ event.Trouble (Lost name) ∷ []) (same_events old.core moves.named moves.gave)))
advances job (Flush count) old new good starts legal moves = level job old.core new.core (ap (λ (c : CoreState). c.events) moves.is)
advances job (Commit fresh) old new good starts legal moves = level job old.core new.core (ap (λ (c : CoreState). c.events) moves.is)
advances job (End failed) old new good starts legal moves =
    let same = state_one job old.core new.core (event.Ended failed) starts (ap (λ (c : CoreState). c.events) moves.is) in record {
      troubles = ap (λ (s : State). s.troubles) same;
      work = ap (work_left job.given) same;
    }

-- ---- troubles

bound_after : (given : Given) (state : State) (event : Event) → IsLegal given state event → state.troubles ≤ given.settings.restart_limit + 1 → (after given state event).troubles ≤ given.settings.restart_limit + 1
bound_after given state (event.Opened epoch) legal le = le
bound_after given state (event.Started text sizes) legal le = le
bound_after given state (event.Made vertex nodes) legal le = le
bound_after given state (event.Widened node side) legal le = le
bound_after given state (event.Decided vertex decision) legal le = le
bound_after given state (event.Done name inputs sizes) legal le = le
bound_after given state (event.Reset gone subs) legal le = le
bound_after given state (event.Trouble cause) legal le = let within = (legal.running).troubles in omega (arith, within)
bound_after given state (event.Ended failed) legal le = le

bound_from : (given : Given) (state : State) (events : List Event) → HasFold given state events → state.troubles ≤ given.settings.restart_limit + 1 → (fold_from given state events).troubles ≤ given.settings.restart_limit + 1
bound_from given state [] legal le = le
bound_from given state (first ∷ events) (here, rest) le = bound_from given (after given state first) events rest (bound_after given state first here le)

pub bounded : BoundLaw
bounded job events legal = bound_from job.given started (graph_events events) legal.legal (omega arith)
