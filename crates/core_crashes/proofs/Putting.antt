-- A part is put.
use Rattle.std.proofs.Common.{◌≡◌, ℕ, ◌<◌, ◌≤◌, false, List, [], ◌∷◌, ◌++◌, length, take, Some, None, IsTrue, sym, ◌∙◌, ap, subst, arith, Contains, ⊎_elim}
use Rattle.std.proofs.lemmas.List.Elements.{All-weaker, Contains-append_left, Contains-push, Contains-push_cases}
use Rattle.estate.specs.Changes.{HasPut, Leads, Puts, Same}
use Rattle.estate.specs.Holding.{Holding, IsFresh, StoredPart, part_of}
use Rattle.estate.specs.World.{World, IsWorld}
use Rattle.estate.specs.declared.commit.Commit.{Commit}
use Rattle.estate.specs.declared.part_name.PartName.{PartName}
use Rattle.estate.proofs.Laws.{leads_by, now_since}
use Rattle.event_log.proofs.Laws.{log_stays_started}
use Rattle.event_log.specs.Started.{IsStarted}
use Rattle.graph_model.specs.declared.event.Event.{Event}
use Rattle.graph_model.specs.declared.event.Event.TheVariants.{Opened}
use Rattle.graph_model.specs.Folds.{HasFold, fold_from}
use Rattle.graph_model.specs.Legal.{after}
use Rattle.graph_model.specs.States.{Given, State, started}
use Rattle.job_soundness.specs.Jobs.{Files, HasNone, Job}
use Rattle.job_soundness.specs.Logs.{SaysEvents}
use Rattle.job_soundness.specs.Sound.{AreRight, IsOpened, IsWithin}
use Rattle.job_soundness.specs.Starts.{AreLegal, StartsJob, graph_events, state_of}
use Rattle.job_soundness.specs.Truth.{WasPut}
use Rattle.job_soundness.proofs.Laws.{epoch_after, right_put}
use Rattle.core_model.specs.Cores.{CoreState, Deployment, IsRunning, core_state}
use Rattle.core_crashes.specs.Goes.{Goes, GoesSoundly, HasArrived}
use Rattle.core_crashes.specs.Growth.{IsFirstPart, SaysWithin}
use Rattle.core_crashes.specs.Standing.{HaveGivenNames, IsFor, IsRight, Leaves}
use Rattle.core_crashes.proofs.Growing.{grows_step, says_within_more, within_more}
use Rattle.core_crashes.proofs.Since.{images_since}
use Rattle.core_crashes.proofs.Keeping.{state_same, taken_same}

-- ---- epochs begin at 1

epochs_rise : (given : Given) (state : State) (events : List Event) → HasFold given state events → state.epoch ≤ (fold_from given state events).epoch
epochs_rise given state [] legal = omega arith
epochs_rise given state (event ∷ events) (here, rest) =
    omega (arith, epoch_after given state event here, epochs_rise given (after given state event) events rest)

pub epoch_first : (job : Job) (events : List Event) → StartsJob job events → AreLegal job events → 0 < (state_of job events).epoch
epoch_first job events starts legal =
    subst (λ (l : List Event). HasFold job.given started (graph_events l) → 0 < (state_of job l).epoch) (sym starts.is) at legal.legal
  where
    at : HasFold job.given started (Opened starts.epoch ∷ starts.rest) → 0 < (fold_from job.given (after job.given started (Opened starts.epoch)) starts.rest).epoch
    at (opens, rest) = omega (arith, opens.1, epochs_rise job.given (after job.given started (Opened starts.epoch)) starts.rest rest)

module _ (job : Job) (x : CoreState) (attempt : Deployment) (edges : List (List (List ℕ))) (a b : World) (lawful_a : IsWorld a) (lawful_b : IsWorld b) (stands : IsFor job x a)
    (deployed : Contains x.deployed attempt) (fresh : x.committed ≡ false) (running : IsRunning job x) where
  abbrev part : StoredPart
  part = part_of attempt.name edges

  leaves_at : (d : Holding) → a.images a.now d → Leaves job x d
  leaves_at d from = (stands.begun).images d from

  new_at : (d : Holding) → a.images a.now d → IsFresh attempt.name d.ever
  new_at d from = ((leaves_at d from).names fresh running).fresh attempt deployed

  -- its name is new, as the shelf asks
  pub put_may : IsTrue a.told → IsFresh attempt.name a.holding.ever
  put_may told = new_at a.holding (lawful_a.own told)

  opened_all : IsOpened (core_state job x) attempt.name
  opened_all =
      let own = (stands.begun).own attempt deployed in
      let first = epoch_first job x.events (stands.begun).starts (stands.begun).legal in
      record { first = subst (λ (n : ℕ). 0 < n) (sym own.epoch) first; last = omega (arith, own.epoch) }

  opened_flushed : IsOpened (state_of job (take x.flushed x.events)) attempt.name
  opened_flushed = record { first = opened_all.first; last = subst (λ (n : ℕ). attempt.name.epoch ≤ n) (sym stands.epoch) opened_all.last }

  module _ (adds : Leads (Puts part) a b) where
    since : (events : List Event) → IsFirstPart x.events events → (image : Holding) → b.images a.now image → SaysWithin x.flushed events image.log
    since events more = images_since (Leaves job x) (λ image. SaysWithin x.flushed events image.log) (Puts part) a b adds (stands.begun).images
        (λ d h leaves step. says_within_more x.flushed x.flushed x.events events h.log (omega arith) more
        (record { count = x.flushed; no_fewer = omega arith; no_more = (stands.begun).flushed; says = subst (λ (l : List ℕ). SaysEvents l (take x.flushed x.events)) (sym step.log) leaves.says }))

    -- whatever events join behind it
    pub put_goes : (y : CoreState) → IsFirstPart x.events y.events → y.flushed ≡ x.flushed → Goes job x y a b
    put_goes y events flushed = record {
      leads = leads_by a b lawful_a adds (λ d h from step. grows_step job Same (Some part) d h step);
      events = events;
      flushed = omega (arith, flushed);
      images = since y.events events;
      now = λ image here. subst (λ (n : ℕ). SaysWithin n y.events image.log) (sym flushed) (since y.events events image (now_since a b lawful_b adds.time image here));
    }

    module _ (files : Files) (right : IsRight job files x a) where
      right_here : (events : List Event) (d h : Holding) → a.images a.now d → Puts part d h → IsOpened (state_of job events) attempt.name → AreRight job files events d.ever d.commits → AreRight job files events h.ever h.commits
      right_here events d h from step opened here =
          subst (λ (l : List Commit). AreRight job files events h.ever l) (sym step.commits)
          (⊎_elim
          (λ same. subst (λ (l : List StoredPart). AreRight job files events l d.commits) (sym same) here)
          (λ more. subst (λ (l : List StoredPart). AreRight job files events l d.commits) (sym more) (right_put job files events d.ever d.commits part here (new_at d from) opened))
          step.ever)

      put_stays : (d h : Holding) → Puts part d h → (name : PartName) → WasPut d.ever name → WasPut h.ever name
      put_stays d h step name was = ⊎_elim
          (λ same. subst (λ (l : List StoredPart). WasPut l name) (sym same) was)
          (λ more. subst (λ (l : List StoredPart). WasPut l name) (sym more) (was.0, Contains-append_left d.ever (part ∷ []) was.0 was.1, was.2))
          step.ever

      held_here : (d h : Holding) → a.images a.now d → Puts part d h → (name : PartName) → Contains h.held name → WasPut h.ever name
      held_here d h from step name has = ⊎_elim
          (λ old. put_stays d h step name ((right d from).held name old))
          (λ new. subst (λ (l : List StoredPart). WasPut l name) (sym new.1) (part, Contains-push d.ever part, sym new.0))
          (step.held name has)

      soundly : (events : List Event) → IsFirstPart x.events events → (image : Holding) → b.images a.now image → IsWithin job files x.flushed events image
      soundly events more image here =
          let from = adds.images image here in
          let d = from.0 in
          within_more job files x.flushed x.flushed x.events events image (omega arith) more (record {
            count = x.flushed;
            no_fewer = omega arith;
            no_more = (stands.begun).flushed;
            says = record {
              log = subst (λ (l : List ℕ). SaysEvents l (take x.flushed x.events)) (sym (from.2).log) (leaves_at d from.1).says;
              right = right_here (take x.flushed x.events) d image from.1 from.2 opened_flushed (right d from.1).flushed;
              held = held_here d image from.1 from.2;
            };
          })

      pub put_soundly : (y : CoreState) → IsFirstPart x.events y.events → y.flushed ≡ x.flushed → GoesSoundly job files x y a b
      put_soundly y events flushed = record {
        images = soundly y.events events;
        now = λ image here. subst (λ (n : ℕ). IsWithin job files n y.events image) (sym flushed) (soundly y.events events image (now_since a b lawful_b adds.time image here));
      }

    -- ---- where the part was put

    module _ (put : IsTrue a.told → HasPut part a.holding b.holding) where
      has_put : (image : Holding) (here : b.images b.now image) → image.ever ≡ (adds.images image (now_since a b lawful_b adds.time image here)).0.ever ++ part ∷ []
      has_put image here =
          let from = adds.images image (now_since a b lawful_b adds.time image here) in
          let told = lawful_a.tells a.now from.0 from.1 in
          lawful_b.ever image here ∙ (put told).0 ∙ ap (λ (l : List StoredPart). l ++ part ∷ []) (sym (lawful_a.ever from.0 from.1))

      -- the core whose attempt has arrived
      module _ (y : CoreState) (arrives : HasArrived attempt x y) where
        same : core_state job y ≡ core_state job x
        same = state_same job x y arrives.events

        front : take y.flushed y.events ≡ take x.flushed x.events
        front = taken_same x y arrives.events arrives.flushed

        names_put : (ever : List StoredPart) → HaveGivenNames job x ever → HaveGivenNames job y (ever ++ part ∷ [])
        names_put ever names = record {
          given = λ p has epoch. subst (λ (l : List PartName). Contains l p.name) (sym arrives.given)
              (⊎_elim
              (λ old. names.given p old (epoch ∙ ap (λ (s : State). s.epoch) same))
              (λ (this : part ≡ p). subst (λ (q : StoredPart). Contains x.attempts.given q.name) this ((stands.begun).own attempt deployed).given)
              (Contains-push_cases ever part p has));
          fresh = λ other has p in_ever. ⊎_elim
              (λ old. names.fresh other (arrives.others other has).0 p old)
              (λ (this : part ≡ p). λ is. (arrives.others other has).1 (sym (ap (λ (q : StoredPart). q.name) this ∙ is)))
              (Contains-push_cases ever part p in_ever);
        }

        pub put_for : IsFor job y b
        put_for =
            let begun = stands.begun in record {
              begun = record {
                legal = subst (AreLegal job) (sym arrives.events) begun.legal;
                starts = record { epoch = (begun.starts).epoch; rest = (begun.starts).rest; is = arrives.events ∙ (begun.starts).is };
                flushed = omega (arith, begun.flushed, arrives.flushed, ap length arrives.events);
                own = λ other has.
                    let own = begun.own other (arrives.others other has).0 in
                    record { epoch = own.epoch ∙ sym (ap (λ (s : State). s.epoch) same); given = subst (λ (l : List PartName). Contains l other.name) (sym arrives.given) own.given };
                started = subst (λ (n : ℕ). IsStarted n b) (sym arrives.log_end) (log_stays_started x.log_end (Some part) None a b lawful_b adds begun.started);
                images = λ image here.
                    let from = adds.images image (now_since a b lawful_b adds.time image here) in
                    let leaves = leaves_at from.0 from.1 in
                    let step = from.2 in record {
                      says = subst (SaysEvents image.log) (sym front) (subst (λ (l : List ℕ). SaysEvents l (take x.flushed x.events)) (sym step.log) leaves.says);
                      names = λ unknown goes. subst (HaveGivenNames job y) (sym (has_put image here)) (names_put (from.0).ever (leaves.names fresh running));
                      none = λ unknown. subst (HasNone job) (sym step.commits) (leaves.none fresh);
                    };
              };
              epoch = ap (λ (l : List Event). (state_of job l).epoch) front ∙ stands.epoch ∙ sym (ap (λ (s : State). s.epoch) same);
            }

        module _ (files : Files) (right : IsRight job files x a) where
          pub put_right : IsRight job files y b
          put_right image here =
              let from = adds.images image (now_since a b lawful_b adds.time image here) in
              let d = from.0 in
              let beside = right d from.1 in
              let step = from.2 in record {
                flushed = subst (λ (l : List Event). AreRight job files l image.ever image.commits) (sym front) (right_here files right (take x.flushed x.events) d image from.1 step opened_flushed beside.flushed);
                all = subst (λ (l : List Event). AreRight job files l image.ever image.commits) (sym arrives.events) (right_here files right x.events d image from.1 step opened_all beside.all);
                held = held_here files right d image from.1 step;
                read = λ other has. All-weaker (WasPut d.ever) (WasPut image.ever) (put_stays files right d image step) other.inputs (beside.read other (arrives.others other has).0);
                commit = λ knows. absurd (cc (sym knows ∙ arrives.committed ∙ fresh));
              }
