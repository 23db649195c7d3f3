-- Runs add legal events, and keep the work that is done.
use Rattle.std.proofs.Common.{◌≡◌, List, [], ◌∷◌, ◌++◌, get_or, Option, Some, None, IsTrue, refl, sym, ◌∙◌, ap, subst, append_assoc, append-nil, inl, inr, ⊎_elim}
use Rattle.std.specs.Option.{is_some}
use Rattle.plan_model.specs.Checks.{plan_faults}
use Rattle.graph_model.specs.Folds.{HasFold, fold_from}
use Rattle.graph_model.specs.Legal.{IsLegal, after}
use Rattle.graph_model.specs.States.{Given, State, no_subtask, started, sub_of, winner_at}
use Rattle.graph_model.specs.Valid.{IsValid}
use Rattle.graph_model.specs.declared.event.Event.{Event}
use Rattle.graph_model.specs.declared.event.Event.TheVariants.{Opened, Started, Made, Widened, Decided, Done, Reset as ResetEvent, Trouble, Ended}
use Rattle.graph_model.specs.declared.made_vertex.MadeVertex.{MadeVertex}
use Rattle.graph_model.specs.declared.sub.Sub.{Sub}
use Rattle.graph_model.specs.declared.win.Win.{Win}
use Rattle.graph_model.proofs.Laws.{cases_sub, keeps_decided, keeps_made, none_is_some, put-other, valid_after, valid_law, without-other}
use Rattle.job_soundness.specs.Jobs.{Job}
use Rattle.job_soundness.specs.Starts.{AreLegal, StartsJob, graph_events, state_of}
use Rattle.job_soundness.proofs.Laws.{graph_more, starts_more}
use Rattle.core_model.specs.declared.step.Step.{Step}
use Rattle.core_model.specs.declared.step.Step.TheVariants.{Tick, Arrive, Make, Widen, Decide, Deploy, Reset, Spent, Flush, Commit, End}
use Rattle.core_model.specs.Cores.{CoreState, Moment, core_state}
use Rattle.core_model.specs.KeptWork.{DeploysOthers, KeepsWork}
use Rattle.core_model.specs.Laws.{GoesOnLegally, LegalLaw, WorkLaw}
use Rattle.core_model.specs.Licensed.{steps_of}
use Rattle.core_model.specs.Moves.{Moves, Rests, Run, Taken}
use Rattle.core_model.proofs.Gaining.{Frees, FreesOne, Gains, gains}

-- ---- legal events

fold_both : (given : Given) (state : State) (events more : List Event) → HasFold given state events → HasFold given (fold_from given state events) more → HasFold given state (events ++ more)
fold_both given state [] more legal rest = rest
fold_both given state (event ∷ events) more (here, behind) rest = (here, fold_both given (after given state event) events more behind rest)

fold_on : (given : Given) (state : State) (events more : List Event) → fold_from given state (events ++ more) ≡ fold_from given (fold_from given state events) more
fold_on given state [] more = refl
fold_on given state (event ∷ events) more = fold_on given (after given state event) events more

-- legal events behind the job's
pub legal_on : (job : Job) (events more : List Event) → StartsJob job events → AreLegal job events → HasFold job.given (state_of job events) more → AreLegal job (events ++ more)
legal_on job events more starts legal rest = record {
  begins = inr (starts_more job events more starts);
  legal = subst (HasFold job.given started) (sym (graph_more job events more starts)) (fold_both job.given started (graph_events events) more legal.legal rest);
}

state_on : (job : Job) (events more : List Event) → StartsJob job events → state_of job (events ++ more) ≡ fold_from job.given (state_of job events) more
state_on job events more starts = ap (fold_from job.given started) (graph_more job events more starts) ∙ fold_on job.given started (graph_events events) more

step_legal : (job : Job) (step : Step) (old new : CoreState) → StartsJob job old.events → AreLegal job old.events → Gains job step old new → GoesOnLegally job old.events new.events
step_legal job step old new starts legal gain = record {
  more = gain.more;
  is = gain.is;
  starts = subst (StartsJob job) (sym gain.is) (starts_more job old.events gain.more starts);
  legal = subst (AreLegal job) (sym gain.is) (legal_on job old.events gain.more starts legal gain.legal);
}

rested : (old new : Moment) → Rests old new → new.core.events ≡ old.core.events
rested old new rests = ap (λ (c : CoreState). c.events) rests.core

goes_both : (job : Job) (a b c : List Event) → GoesOnLegally job a b → GoesOnLegally job b c → GoesOnLegally job a c
goes_both job a b c one two = record {
  more = one.more ++ two.more;
  is = two.is ∙ ap (λ (l : List Event). l ++ two.more) one.is ∙ append_assoc a one.more two.more;
  starts = two.starts;
  legal = two.legal;
}

goes_same : (job : Job) (a b : List Event) → b ≡ a → StartsJob job a → AreLegal job a → GoesOnLegally job a b
goes_same job a b is starts legal = record { more = []; is = is ∙ sym (append-nil a); starts = subst (StartsJob job) (sym is) starts; legal = subst (AreLegal job) (sym is) legal }

pub run_legal : LegalLaw
run_legal job start end [] starts legal rests = goes_same job start.core.events end.core.events (rested start end rests) starts legal
run_legal job start end (taken ∷ trace) starts legal (rests, takes, run) =
    let first = goes_same job start.core.events taken.before.core.events (rested start taken.before rests) starts legal in
    let second = step_legal job taken.step taken.before.core taken.after.core first.starts first.legal (gains job taken.step taken.before taken.after takes.moves) in
    let third = run_legal job taken.after end trace second.starts second.legal run in
    goes_both job start.core.events taken.before.core.events end.core.events first (goes_both job taken.before.core.events taken.after.core.events end.core.events second third)

-- ---- winners that stay

abbrev HasWinner : State → Sub → Type 0
HasWinner state sub = (win : Win) × (winner_at state.vertices sub ≡ Some win)

stays : (given : Given) (state : State) (event : Event) (sub : Sub) → plan_faults given.nodes ≡ [] → IsValid given state → IsLegal given state event → (Frees sub event → ⊥) → HasWinner state sub → HasWinner (after given state event) sub
stays given state (Opened epoch) sub good valid legal apart has = has
stays given state (Started text sizes) sub good valid legal apart has = has
stays given state (Made v nodes) sub good valid legal apart (win, is) =
    (win, ap (λ (m : MadeVertex). (get_or m.subtasks sub.subtask no_subtask).winner) ((keeps_made given state v nodes good valid legal).stays sub win is) ∙ is)
stays given state (Widened node side) sub good valid legal apart has = has
stays given state (Decided v decision) sub good valid legal apart (win, is) =
    (win, ap (λ (m : MadeVertex). (get_or m.subtasks sub.subtask no_subtask).winner) ((keeps_decided given state v decision valid legal).stays sub win is) ∙ is)
stays given state (Done name inputs sizes) sub good valid legal apart (win, is) = ⊎_elim
    (λ (same : sub ≡ sub_of name). absurd (none_is_some win (sym (legal.unfinished).unwon ∙ subst (λ (s : Sub). winner_at state.vertices s ≡ Some win) same is)))
    (λ (other : sub ≡ sub_of name → ⊥). (win, put-other state.vertices (sub_of name) sub (Some (record { name = name; inputs = inputs; sizes = sizes })) other ∙ is))
    (cases_sub sub (sub_of name))
stays given state (ResetEvent gone subs) sub good valid legal apart (win, is) = (win, without-other state.vertices subs sub apart ∙ is)
stays given state (Trouble cause) sub good valid legal apart has = has
stays given state (Ended failed) sub good valid legal apart has = has

all_stay : (given : Given) (state : State) (events : List Event) (sub : Sub) → plan_faults given.nodes ≡ [] → IsValid given state → HasFold given state events → (FreesOne sub events → ⊥) → HasWinner state sub → HasWinner (fold_from given state events) sub
all_stay given state [] sub good valid legal apart has = has
all_stay given state (event ∷ events) sub good valid (here, rest) apart has =
    all_stay given (after given state event) events sub good (valid_after given state event good valid here) rest (λ one. apart (inr one))
    (stays given state event sub good valid here (λ frees. apart (inl frees)) has)

valid_here : (job : Job) (events : List Event) → plan_faults job.given.nodes ≡ [] → AreLegal job events → IsValid job.given (state_of job events)
valid_here job events good legal = valid_law job.given (graph_events events) good legal.legal

-- ---- what is deployed

unfinished_apart : (job : Job) (step : Step) (old new : Moment) (sub : Sub) → Moves job step old new → HasWinner (core_state job old.core) sub → DeploysOthers step sub
unfinished_apart job (Tick now) old new sub moves has = tt
unfinished_apart job (Arrive name kind) old new sub moves has = tt
unfinished_apart job (Make vertex) old new sub moves has = tt
unfinished_apart job (Widen node side) old new sub moves has = tt
unfinished_apart job (Decide vertex) old new sub moves has = tt
unfinished_apart job (Deploy name worker) old new sub moves (win, is) = λ same.
    none_is_some win (sym (moves.unfinished).unwon ∙ subst (λ (s : Sub). winner_at (core_state job old.core).vertices s ≡ Some win) (sym same) is)
unfinished_apart job (Reset gone subs) old new sub moves has = tt
unfinished_apart job (Spent name) old new sub moves has = tt
unfinished_apart job (Flush count) old new sub moves has = tt
unfinished_apart job (Commit fresh) old new sub moves has = tt
unfinished_apart job (End failed) old new sub moves has = tt

run_keeps : (job : Job) (start end : Moment) (trace : List Taken) (sub : Sub) → plan_faults job.given.nodes ≡ [] → StartsJob job start.core.events → AreLegal job start.core.events → HasWinner (core_state job start.core) sub → Run job start trace end → KeepsWork sub (steps_of trace)
run_keeps job start end [] sub good starts legal has run = tt
run_keeps job start end (taken ∷ trace) sub good starts legal has (rests, takes, run) =
    let first = goes_same job start.core.events taken.before.core.events (rested start taken.before rests) starts legal in
    let had : HasWinner (core_state job taken.before.core) sub = subst (λ (l : List Event). HasWinner (state_of job l) sub) (sym (rested start taken.before rests)) has in
    let gain = gains job taken.step taken.before taken.after takes.moves in
    let second = step_legal job taken.step taken.before.core taken.after.core first.starts first.legal gain in (
      unfinished_apart job taken.step taken.before taken.after sub takes.moves had,
      λ apart.
          let stayed = all_stay job.given (core_state job taken.before.core) gain.more sub good (valid_here job taken.before.core.events good first.legal) gain.legal (λ one. apart (gain.frees sub one)) had in
          let now : HasWinner (core_state job taken.after.core) sub =
          subst (λ (s : State). HasWinner s sub) (sym (ap (state_of job) gain.is ∙ state_on job taken.before.core.events gain.more first.starts)) stayed in
          run_keeps job taken.after end trace sub good second.starts second.legal now run,
    )

some_winner : (o : Option Win) → IsTrue (is_some o) → (win : Win) × (o ≡ Some win)
some_winner None is = absurd (cc is)
some_winner (Some win) is = (win, refl)

pub run_works : WorkLaw
run_works job start end trace sub good starts legal finished run =
    run_keeps job start end trace sub good starts legal (some_winner (winner_at (core_state job start.core).vertices sub) finished) run
