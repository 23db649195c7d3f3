-- The graph of a job, by the events of its log.
use Rattle.std.proofs.Common.{◌≡◌, ℕ, ◌<◌, List, [], ◌∷◌, length, get_or, Ok, Err, Result, IfErr, refl, sym, ap, subst, ◌∙◌, arith, append-nil, inl, inr, ◌⊎◌}
use Rattle.attempt_names.specs.Attempts.{no_attempts}
use Rattle.event_codec.specs.Spelling.{AreShort, EventsFit, events_bytes}
use Rattle.exec_graph.specs.Graphs.{GraphState}
use Rattle.graph_model.specs.Folds.{HasFold, fold_from}
use Rattle.graph_model.specs.Legal.{after}
use Rattle.graph_model.specs.States.{Given, State, started}
use Rattle.graph_model.specs.declared.event.Event.{Event}
use Rattle.graph_model.specs.declared.event.Event.TheVariants.{Opened, Started}
use Rattle.job_json.specs.declared.job.Job.{Job as JobText}
use Rattle.job_events.specs.Folded.{FoldLaw, IsFolded}
use Rattle.job_events.specs.Logs.{IsAccepted, IsStarted, LeadsTo, OpensFirst, StartsJob, given_of}
use Rattle.job_events.specs.Replays.{IsReplay}
use Rattle.job_events.specs.declared.log_state.LogState.{LogState}
use Rattle.job_events.specs.declared.log_state.LogState.TheVariants.{Awaiting, Empty, Jobless, Running}
use Rattle.job_soundness.specs.Jobs.{Job}
use Rattle.job_soundness.specs.Starts.{graph_events, state_of}
use Rattle.plan_model.specs.TableNames.{tables_of}
use Rattle.recover_core.specs.Causes.{IsChange, IsOtherStart}
use Rattle.recover_core.specs.declared.recover_error.RecoverError.{RecoverError}
use Rattle.recover_core.specs.declared.recover_error.RecoverError.TheVariants.{InputChanged}
use Rattle.recover_core.specs.Jobs.{CanStart}
use Rattle.recover_core.specs.Opening.{OpensFirst as OpensFirstEpoch}
use Rattle.recover_core.specs.Standing.{IsStanding}
use Rattle.recover_core.specs.Starting.{IsOwn, Starts, StartsAs}
use Rattle.recover_core.specs.declared.standing.Standing.{Standing}

accepted_once : (text : List ℕ) (a b : JobText) → IsAccepted text a → IsAccepted text b → a ≡ b
accepted_once text a b accepted other = let same : Ok a ≡ Ok b = sym accepted.is ∙ other.is in cc

-- ---- a log that starts with the job's text runs

pub record IsRun (job : Job) (files : List (List ℕ)) (state : LogState) : Type 0 where
  pub graph : GraphState
  pub is : state ≡ Running graph
  pub attempts : graph.attempts ≡ no_attempts
  pub tables : length files ≡ length job.given.files

pub record StillRuns (state : LogState) : Type 0 where
  pub graph : GraphState
  pub is : state ≡ Running graph
  pub attempts : graph.attempts ≡ no_attempts

abbrev pub IsOther : LogState → Type 0
IsOther state = (state ≡ Empty) ⊎ (((last : ℕ) × (state ≡ Awaiting last)) ⊎ ((last : ℕ) × (state ≡ Jobless last)))

runs : (events : List Event) (old : GraphState) (state : LogState) → old.attempts ≡ no_attempts → LeadsTo (Running old) events state → StillRuns state
runs [] old state none same = record { graph = old; is = same; attempts = none }
runs (event ∷ events) old state none (Running graph, is, later) = runs events graph state (is.1 ∙ none) later
runs (event ∷ events) old state none (next, is, later) = absurd is

module _ (job : Job) (can : CanStart job) where
  abbrev own_text : JobText
  own_text = record { name = job.id; plan = job.given.nodes; settings = job.given.settings }

  started_run : (epoch : ℕ) (files : List (List ℕ)) (rest : List Event) (next state : LogState) → StartsJob epoch (Started job.text files) next → LeadsTo next rest state → IsRun job files state
  started_run epoch files rest (Running graph) state starts later =
      let run = runs rest graph state starts.attempts later in
      let same = accepted_once job.text starts.job own_text starts.accepted can.accepted in
      record { graph = run.graph; is = run.is; attempts = run.attempts; tables = starts.tables ∙ ap (λ (j : JobText). length (tables_of j.plan)) same ∙ sym can.tables }
  started_run epoch files rest (Jobless now) state starts later = absurd (starts.0 own_text can.accepted)
  started_run epoch files rest next state starts later = absurd starts

  behind_first : (first : Event) (files : List (List ℕ)) (rest : List Event) (next state : LogState) → OpensFirst first next → LeadsTo next (Started job.text files ∷ rest) state → IsRun job files state
  behind_first (Opened epoch) files rest (Awaiting now) state opens leads = started_run now files rest leads.0 state leads.1 leads.2
  behind_first first files rest next state opens leads = absurd opens

  pub own_run : (events : List Event) (files : List (List ℕ)) (state : LogState) → Starts events job.text files → LeadsTo Empty events state → IsRun job files state
  own_run events files state starts leads =
      let from : LeadsTo Empty (starts.first ∷ Started job.text files ∷ starts.rest) state = subst (λ (l : List Event). LeadsTo Empty l state) starts.is leads in
      behind_first starts.first files starts.rest from.0 state from.1 from.2

  -- ---- and its graph is the job's

  module _ (events : List Event) (graph : GraphState) (starts : StartsAs job events) (folded : IsFolded events graph) where
    both : Opened folded.epoch ∷ Started folded.text folded.files ∷ folded.rest ≡ starts.first ∷ Started job.text job.given.files ∷ starts.rest
    both = sym folded.is ∙ starts.is

    text_same : folded.text ≡ job.text
    text_same = let e = both in cc

    files_same : folded.files ≡ job.given.files
    files_same = let e = both in cc

    start_is : events ≡ Opened folded.epoch ∷ Started job.text job.given.files ∷ folded.rest
    start_is = folded.is
        ∙ ap (λ (t : List ℕ). Opened folded.epoch ∷ Started t folded.files ∷ folded.rest) text_same
        ∙ ap (λ (f : List (List ℕ)). Opened folded.epoch ∷ Started job.text f ∷ folded.rest) files_same

    job_same : folded.job ≡ own_text
    job_same = accepted_once job.text folded.job own_text (subst (λ (t : List ℕ). IsAccepted t folded.job) text_same folded.accepted) can.accepted

    given_same : given_of folded.job folded.files ≡ job.given
    given_same = ap (λ (j : JobText). given_of j folded.files) job_same ∙ ap (λ (f : List (List ℕ)). given_of own_text f) files_same

    abbrev behind : List Event
    behind = Opened folded.epoch ∷ folded.rest

    graph_is : graph_events events ≡ behind
    graph_is = ap graph_events start_is

    state_is : fold_from job.given started behind ≡ state_of job events
    state_is = sym (ap (fold_from job.given started) graph_is)

    pub own_is : (standing : Standing) → graph.attempts ≡ no_attempts → ((given : Given) → IsStanding (fold_from given started events) standing) → IsOwn job events graph standing
    own_is standing none comes = record {
      starts = record { epoch = folded.epoch; rest = folded.rest; is = start_is };
      legal = record {
        begins = inr (record { epoch = folded.epoch; rest = folded.rest; is = start_is });
        legal = subst (HasFold job.given started) (sym graph_is) (subst (λ (g : Given). HasFold g started behind) given_same folded.legal);
      };
      stands = record {
        given = folded.given ∙ given_same;
        state = folded.state ∙ ap (λ (g : Given). fold_from g started behind) given_same ∙ state_is;
        attempts = none;
      };
      comes =
          let P : List Event → Type 0 = λ l. IsStanding (fold_from job.given started l) standing in
          let here : IsStanding (fold_from job.given started behind) standing = subst P start_is (comes job.given) in
          subst (λ (s : State). IsStanding s standing) state_is here;
    }

  pub owned : (events : List Event) (state : LogState) (graph : GraphState) (standing : Standing) → FoldLaw → LeadsTo Empty events state → state ≡ Running graph → StartsAs job events
      → ((given : Given) → IsStanding (fold_from given started events) standing) → IsOwn job events graph standing
  owned events state graph standing law leads is starts comes =
      let run = own_run events job.given.files state starts leads in
      let one : Running run.graph ≡ Running graph = sym run.is ∙ is in
      let same : run.graph ≡ graph = cc in
      let folded = law events graph (subst (LeadsTo Empty events) is leads) in
      own_is events graph starts folded standing (sym (ap (λ (g : GraphState). g.attempts) same) ∙ run.attempts) comes

  pub never_other : (events : List Event) (state : LogState) → LeadsTo Empty events state → StartsAs job events → IsOther state → ⊥
  never_other events state leads starts other = apart state (own_run events job.given.files state starts leads) other
    where
      apart : (s : LogState) → IsRun job job.given.files s → IsOther s → ⊥
      apart s run (inl e) = let no : Empty ≡ Running run.graph = sym e ∙ run.is in absurd (cc)
      apart s run (inr (inl (last, e))) = let no : Awaiting last ≡ Running run.graph = sym e ∙ run.is in absurd (cc)
      apart s run (inr (inr (last, e))) = let no : Jobless last ≡ Running run.graph = sym e ∙ run.is in absurd (cc)

  -- ---- the first epoch

  abbrev pub first_graph : GraphState
  first_graph = record { job = record { given = job.given; state = after job.given started (Opened 1) }; attempts = no_attempts }

  first_start : IsStarted 1 job.text job.given.files first_graph
  first_start = record {
    job = own_text;
    accepted = can.accepted;
    tables = can.tables;
    opened = record { legal = (record { ended = refl; troubles = omega arith }, omega arith); next = refl };
    attempts = refl;
  }

  module _ (events : List Event) (is : events ≡ Opened 1 ∷ Started job.text job.given.files ∷ []) where
    pub first_replay : (body : List ℕ) (blocks : List (List ℕ)) → EventsFit events → body ≡ events_bytes events → blocks ≡ body ∷ [] → IsReplay blocks events (Running first_graph)
    first_replay body blocks fits spelled one = subst (λ (b : List (List ℕ)). IsReplay b events (Running first_graph)) (sym one) (record {
      spelled = (events, [], record { fit = fits; is = spelled }, refl, sym (append-nil events));
      leads = subst (λ (l : List Event). LeadsTo Empty l (Running first_graph)) (sym is) (Awaiting 1, (omega arith, refl), (Running first_graph, first_start, refl));
    })

    pub opens_first : (graph : GraphState) → Running first_graph ≡ Running graph → OpensFirstEpoch job events graph
    opens_first graph same =
        let one : first_graph ≡ graph = cc in record {
          is = is;
          stands = record {
            given = sym (ap (λ (g : GraphState). g.job.given) one);
            state = sym (ap (λ (g : GraphState). g.job.state) one) ∙ sym (ap (state_of job) is);
            attempts = sym (ap (λ (g : GraphState). g.attempts) one);
          };
          short = subst AreShort (sym is) (tt, (can.short, tt));
        }

-- ---- whose text stands second

pub starts_second : (events : List Event) (event : Event) (text : List ℕ) (files : List (List ℕ)) → 1 < length events → ((d : Event) → event ≡ get_or events 1 d) → event ≡ Started text files → Starts events text files
starts_second [] event text files lt at is = absurd (omega (arith, lt))
starts_second (first ∷ []) event text files lt at is = absurd (omega (arith, lt))
starts_second (first ∷ second ∷ rest) event text files lt at is = record { first = first; rest = rest; is = ap (λ (e : Event). first ∷ e ∷ rest) (sym (at second) ∙ is) }

pub other_files : (job : Job) (events : List Event) (files : List (List ℕ)) (result : Result Unit RecoverError) → Starts events job.text files → IfErr result (IsChange files job.given.files) → IfErr result (IsOtherStart job events)
other_files job events files (Ok x) starts change = tt
other_files job events files (Err (InputChanged table file was now)) starts change = (files, starts, change)
other_files job events files (Err error) starts change = absurd change
