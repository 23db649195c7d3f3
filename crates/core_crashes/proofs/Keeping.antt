-- What leaves the log's blocks, parts and commits; attempts that come and go; and one event more.
use Rattle.std.proofs.Common.{◌≡◌, ◌≢◌, ℕ, Bool, true, not, List, [], ◌∷◌, ◌++◌, length, filter, take, None, refl, sym, ◌∙◌, ap, subst, arith, All, Contains, inl, inr, ⊎_elim, length-append}
use Rattle.std.proofs.lemmas.List.{take-append-le}
use Rattle.std.proofs.lemmas.List.Elements.{All-contains, All-contains_itself, All-filter, filter_passes}
use Rattle.estate.specs.Changes.{Leads, Same, Stays}
use Rattle.estate.specs.Holding.{Holding, StoredPart}
use Rattle.estate.specs.Parts.{is_same_name}
use Rattle.estate.specs.World.{World, IsWorld}
use Rattle.estate.specs.declared.commit.Commit.{Commit}
use Rattle.estate.specs.declared.part_name.PartName.{PartName}
use Rattle.estate.proofs.Laws.{leads_by, name_itself, now_since, step_by}
use Rattle.event_log.specs.Blocks.{KeepsBlocks, SameBlocks}
use Rattle.event_log.specs.Started.{IsStarted}
use Rattle.graph_model.specs.declared.event.Event.{Event}
use Rattle.graph_model.specs.declared.event.Event.TheVariants.{Opened, Started, Made, Widened, Decided, Done, Reset, Trouble, Ended}
use Rattle.graph_model.specs.Folds.{HasFold}
use Rattle.graph_model.specs.Legal.{IsLegal, IsOpen, after}
use Rattle.graph_model.specs.States.{Given, State, started}
use Rattle.job_soundness.specs.Jobs.{Files, HasCommit, HasNone, Job}
use Rattle.job_soundness.specs.Logs.{SaysEvents}
use Rattle.job_soundness.specs.Sound.{AreRight, IsFit, IsWithin}
use Rattle.job_soundness.specs.Starts.{AreLegal, graph_events, state_of}
use Rattle.job_soundness.specs.Truth.{IsTrueEvent, WasPut}
use Rattle.job_soundness.proofs.Laws.{graph_more, legal_more, right_event, says_same, starts_more, state_more}
use Rattle.core_model.specs.Cores.{CoreState, Deployment, core_state, with_arrived, with_events}
use Rattle.core_crashes.specs.Goes.{ChangesAttempts, Goes, GoesSoundly, HasArrived, IsNewAttempt}
use Rattle.core_crashes.specs.Growth.{IsFirstPart, SaysWithin}
use Rattle.core_crashes.specs.Standing.{HaveGivenNames, IsBegun, IsFor, IsOwnAttempt, IsRight, IsRightBeside, Leaves}
use Rattle.core_crashes.proofs.Growing.{grows_step, says_within_more, within_more}
use Rattle.core_crashes.proofs.Since.{images_since}

-- ---- a call that leaves blocks, parts and commits

-- a call that changes nothing but that names may be gone leaves the blocks
pub keeps_blocks : (a b : World) → IsWorld a → Leads Stays a b → Leads KeepsBlocks a b
keeps_blocks a b lawful stays = leads_by a b lawful stays (λ d h from step. step_by Same None None SameBlocks d h (λ same. subst (SameBlocks d.log) (sym same) (λ bodies. (λ read. read, λ read. read))) step)

leaves_keeps : (job : Job) (core : CoreState) (d h : Holding) → Leaves job core d → KeepsBlocks d h → Leaves job core h
leaves_keeps job core d h leaves step = record {
  says = says_same d.log h.log (take core.flushed core.events) step.log leaves.says;
  names = λ fresh running. subst (HaveGivenNames job core) (sym step.ever) (leaves.names fresh running);
  none = λ fresh. subst (HasNone job) (sym step.commits) (leaves.none fresh);
}

right_at : (job : Job) (files : Files) (events : List Event) (d h : Holding) → h.ever ≡ d.ever → h.commits ≡ d.commits → AreRight job files events d.ever d.commits → AreRight job files events h.ever h.commits
right_at job files events d h ever commits right =
    subst (λ (l : List Commit). AreRight job files events h.ever l) (sym commits) (subst (λ (l : List StoredPart). AreRight job files events l d.commits) (sym ever) right)

beside_keeps : (job : Job) (files : Files) (core : CoreState) (d h : Holding) → IsRightBeside job files core d → KeepsBlocks d h → IsRightBeside job files core h
beside_keeps job files core d h beside step = record {
  flushed = right_at job files (take core.flushed core.events) d h step.ever step.commits beside.flushed;
  all = right_at job files core.events d h step.ever step.commits beside.all;
  held = λ name has. subst (λ (l : List StoredPart). WasPut l name) (sym step.ever) (beside.held name (step.held name has));
  read = λ attempt has. subst (λ (l : List StoredPart). All (WasPut l) attempt.inputs) (sym step.ever) (beside.read attempt has);
  commit = λ knows. subst (HasCommit job files) (sym step.commits) (beside.commit knows);
}

pub begun_keeps : (job : Job) (core : CoreState) (a b : World) → IsWorld b → IsBegun job core a → Leads KeepsBlocks a b → IsStarted core.log_end b → IsBegun job core b
begun_keeps job core a b lawful begun keeps started = record {
  legal = begun.legal;
  starts = begun.starts;
  flushed = begun.flushed;
  own = begun.own;
  started = started;
  images = λ image here. let from = keeps.images image (now_since a b lawful keeps.time image here) in leaves_keeps job core from.0 image (begun.images from.0 from.1) from.2;
}

pub for_keeps : (job : Job) (core : CoreState) (a b : World) → IsWorld b → IsFor job core a → Leads KeepsBlocks a b → IsStarted core.log_end b → IsFor job core b
for_keeps job core a b lawful stands keeps started = record { begun = begun_keeps job core a b lawful stands.begun keeps started; epoch = stands.epoch }

pub right_keeps : (job : Job) (files : Files) (core : CoreState) (a b : World) → IsWorld b → IsRight job files core a → Leads KeepsBlocks a b → IsRight job files core b
right_keeps job files core a b lawful right keeps image here = let from = keeps.images image (now_since a b lawful keeps.time image here) in beside_keeps job files core from.0 image (right from.0 from.1) from.2

-- whatever events were added meanwhile
pub goes_quiet : (job : Job) (x y : CoreState) (a b : World) → IsWorld a → IsWorld b → IsBegun job x a → Leads KeepsBlocks a b → IsFirstPart x.events y.events → y.flushed ≡ x.flushed → Goes job x y a b
goes_quiet job x y a b lawful_a lawful_b begun keeps events flushed = record {
  leads = leads_by a b lawful_a keeps (λ d h from step. grows_step job SameBlocks None d h step);
  events = events;
  flushed = omega (arith, flushed);
  images = since;
  now = λ image here. subst (λ (n : ℕ). SaysWithin n y.events image.log) (sym flushed) (since image (now_since a b lawful_b keeps.time image here));
}
  where
    since : (image : Holding) → b.images a.now image → SaysWithin x.flushed y.events image.log
    since = images_since (Leaves job x) (λ image. SaysWithin x.flushed y.events image.log) KeepsBlocks a b keeps begun.images
        (λ d h leaves step. says_within_more x.flushed x.flushed x.events y.events h.log (omega arith) events
        (record { count = x.flushed; no_fewer = omega arith; no_more = begun.flushed; says = (leaves_keeps job x d h leaves step).says }))

pub soundly_quiet : (job : Job) (files : Files) (x y : CoreState) (a b : World) → IsWorld b → IsBegun job x a → IsRight job files x a → Leads KeepsBlocks a b → IsFirstPart x.events y.events → y.flushed ≡ x.flushed → GoesSoundly job files x y a b
soundly_quiet job files x y a b lawful_b begun right keeps events flushed = record {
  images = since;
  now = λ image here. subst (λ (n : ℕ). IsWithin job files n y.events image) (sym flushed) (since image (now_since a b lawful_b keeps.time image here));
}
  where
    since : (image : Holding) → b.images a.now image → IsWithin job files x.flushed y.events image
    since image here =
        let from = keeps.images image here in
        let leaves = leaves_keeps job x from.0 image (begun.images from.0 from.1) from.2 in
        let beside = beside_keeps job files x from.0 image (right from.0 from.1) from.2 in
        within_more job files x.flushed x.flushed x.events y.events image (omega arith) events
        (record { count = x.flushed; no_fewer = omega arith; no_more = begun.flushed; says = record { log = leaves.says; right = beside.flushed; held = beside.held } })

-- ---- attempts

pub state_same : (job : Job) (x y : CoreState) → y.events ≡ x.events → core_state job y ≡ core_state job x
state_same job x y events = ap (state_of job) events

pub taken_same : (x y : CoreState) → y.events ≡ x.events → y.flushed ≡ x.flushed → take y.flushed y.events ≡ take x.flushed x.events
taken_same x y events flushed = ap (λ (n : ℕ). take n y.events) flushed ∙ ap (take x.flushed) events

names_change : (job : Job) (x y : CoreState) (ever : List StoredPart) → ChangesAttempts job x y → HaveGivenNames job x ever → HaveGivenNames job y ever
names_change job x y ever changes names = record {
  given = λ part has epoch. changes.given part.name (names.given part has (epoch ∙ ap (λ (s : State). s.epoch) (state_same job x y changes.events)));
  fresh = λ attempt has. ⊎_elim
      (λ old. names.fresh attempt old)
      (λ (new : IsNewAttempt job x y attempt). λ part in_ever same.
      new.unused (subst (Contains x.attempts.given) same (names.given part in_ever (ap (λ (n : PartName). n.epoch) same ∙ new.epoch))))
      (changes.deployed attempt has);
}

own_change : (job : Job) (x y : CoreState) → ChangesAttempts job x y → ((attempt : Deployment) → Contains x.deployed attempt → IsOwnAttempt job x attempt) → (attempt : Deployment) → Contains y.deployed attempt → IsOwnAttempt job y attempt
own_change job x y changes own attempt has =
    let same : (core_state job y).epoch ≡ (core_state job x).epoch = ap (λ (s : State). s.epoch) (state_same job x y changes.events) in
    ⊎_elim
    (λ old. let was = own attempt old in record { epoch = was.epoch ∙ sym same; given = changes.given attempt.name was.given })
    (λ (new : IsNewAttempt job x y attempt). record { epoch = new.epoch ∙ sym same; given = new.given })
    (changes.deployed attempt has)

pub for_changes : (job : Job) (x y : CoreState) (world : World) → IsFor job x world → ChangesAttempts job x y → IsFor job y world
for_changes job x y world stands changes =
    let begun = stands.begun in
    let front = taken_same x y changes.events changes.flushed in
    record {
      begun = record {
        legal = subst (AreLegal job) (sym changes.events) begun.legal;
        starts = record { epoch = (begun.starts).epoch; rest = (begun.starts).rest; is = changes.events ∙ (begun.starts).is };
        flushed = omega (arith, begun.flushed, changes.flushed, ap length changes.events);
        own = own_change job x y changes begun.own;
        started = subst (λ (n : ℕ). IsStarted n world) (sym changes.log_end) begun.started;
        images = λ image here.
            let leaves = begun.images image here in record {
              says = subst (SaysEvents image.log) (sym front) leaves.says;
              names = λ fresh running. names_change job x y image.ever changes (leaves.names (sym changes.committed ∙ fresh) (subst (IsOpen job.given) (state_same job x y changes.events) running));
              none = λ fresh. leaves.none (sym changes.committed ∙ fresh);
            };
      };
      epoch = ap (λ (l : List Event). (state_of job l).epoch) front ∙ stands.epoch ∙ sym (ap (λ (s : State). s.epoch) (state_same job x y changes.events));
    }

pub right_changes : (job : Job) (files : Files) (x y : CoreState) (world : World) → IsRight job files x world → ChangesAttempts job x y
    → ((image : Holding) → world.images world.now image → (attempt : Deployment) → IsNewAttempt job x y attempt → All (WasPut image.ever) attempt.inputs) → IsRight job files y world
right_changes job files x y world right changes put image here =
    let beside = right image here in record {
      flushed = subst (λ (l : List Event). AreRight job files l image.ever image.commits) (sym (taken_same x y changes.events changes.flushed)) beside.flushed;
      all = subst (λ (l : List Event). AreRight job files l image.ever image.commits) (sym changes.events) beside.all;
      held = beside.held;
      read = λ attempt has. ⊎_elim (λ old. beside.read attempt old) (λ new. put image here attempt new) (changes.deployed attempt has);
      commit = λ knows. beside.commit (sym changes.committed ∙ knows);
    }

-- the attempts that are left when one has arrived
filtered : (p : Deployment → Bool) (l : List Deployment) (attempt : Deployment) → Contains (filter p l) attempt → Contains l attempt × (p attempt ≡ true)
filtered p l attempt has = (
  All-contains (Contains l) (filter p l) attempt (All-filter p (Contains l) l (All-contains_itself l)) has,
  All-contains (λ (d : Deployment). p d ≡ true) (filter p l) attempt (filter_passes p l) has,
)

other_name : (a b : PartName) → not (is_same_name a b) ≡ true → a ≢ b
other_name a b apart same = absurd (cc (subst (λ (n : PartName). not (is_same_name a n) ≡ true) (sym same) apart, name_itself a))

pub arrived : (core : CoreState) (attempt : Deployment) → HasArrived attempt core (with_arrived core attempt)
arrived core attempt = record {
  events = refl;
  flushed = refl;
  log_end = refl;
  committed = refl;
  given = refl;
  others = λ other has.
      let left = filtered (λ (d : Deployment). not (is_same_name d.name attempt.name)) core.deployed other has in
      (left.0, other_name other.name attempt.name left.1);
}

pub arrived_changes : (job : Job) (attempt : Deployment) (x y : CoreState) → HasArrived attempt x y → ChangesAttempts job x y
arrived_changes job attempt x y has = record {
  events = has.events;
  flushed = has.flushed;
  log_end = has.log_end;
  committed = has.committed;
  given = λ name is. subst (λ (l : List PartName). Contains l name) (sym has.given) is;
  deployed = λ other in_y. inl ((has.others other in_y).0);
}

-- ---- one event more

running_before : (given : Given) (state : State) (event : Event) → IsLegal given state event → IsOpen given (after given state event) → IsOpen given state
running_before given state (Opened epoch) legal running = legal.0
running_before given state (Started text sizes) legal running = absurd legal
running_before given state (Made vertex nodes) legal running = legal.running
running_before given state (Widened node side) legal running = legal.running
running_before given state (Decided vertex decision) legal running = (legal.decidable).running
running_before given state (Done name inputs sizes) legal running = legal.running
running_before given state (Reset gone subs) legal running = legal.running
running_before given state (Trouble cause) legal running = legal.running
running_before given state (Ended failed) legal running = absurd (cc running.ended)

module _ (job : Job) (x : CoreState) (event : Event) (world : World) (stands : IsFor job x world) (legal : IsLegal job.given (core_state job x) event) (epoch : (after job.given (core_state job x) event).epoch ≡ (core_state job x).epoch) where
  abbrev with_one : CoreState
  with_one = with_events x (event ∷ [])

  state_is : core_state job with_one ≡ after job.given (core_state job x) event
  state_is = state_more job x.events event (stands.begun).starts

  front_is : take x.flushed (x.events ++ event ∷ []) ≡ take x.flushed x.events
  front_is = take-append-le x.flushed x.events (event ∷ []) (stands.begun).flushed

  epoch_is : (core_state job with_one).epoch ≡ (core_state job x).epoch
  epoch_is = ap (λ (s : State). s.epoch) state_is ∙ epoch

  legal_is : AreLegal job (x.events ++ event ∷ [])
  legal_is = record {
    begins = inr (starts_more job x.events (event ∷ []) (stands.begun).starts);
    legal = subst (HasFold job.given started) (sym (graph_more job x.events (event ∷ []) (stands.begun).starts)) (legal_more job.given started (graph_events x.events) event ((stands.begun).legal).legal legal);
  }

  names_event : (ever : List StoredPart) → HaveGivenNames job x ever → HaveGivenNames job with_one ever
  names_event ever names = record { given = λ part has same. names.given part has (same ∙ epoch_is); fresh = names.fresh }

  pub for_event : IsFor job with_one world
  for_event = record {
    begun = record {
      legal = legal_is;
      starts = starts_more job x.events (event ∷ []) (stands.begun).starts;
      flushed = omega (arith, (stands.begun).flushed, length-append x.events (event ∷ []));
      own = λ attempt has. let own = (stands.begun).own attempt has in record { epoch = own.epoch ∙ sym epoch_is; given = own.given };
      started = (stands.begun).started;
      images = λ image here.
          let leaves = (stands.begun).images image here in record {
            says = subst (SaysEvents image.log) (sym front_is) leaves.says;
            names = λ fresh running. names_event image.ever (leaves.names fresh (running_before job.given (core_state job x) event legal (subst (IsOpen job.given) state_is running)));
            none = leaves.none;
          };
    };
    epoch = ap (λ (l : List Event). (state_of job l).epoch) front_is ∙ stands.epoch ∙ sym epoch_is;
  }

  -- where the event is true and fits, beside each image
  pub right_more : (files : Files) → IsRight job files x world
      → ((image : Holding) → world.images world.now image → IsTrueEvent job files image.ever (core_state job x) event)
      → ((image : Holding) → world.images world.now image → IsFit job files image.commits (core_state job x) (after job.given (core_state job x) event)) → IsRight job files with_one world
  right_more files right are_true fits image here =
      let beside = right image here in record {
        flushed = subst (λ (l : List Event). AreRight job files l image.ever image.commits) (sym front_is) beside.flushed;
        all = right_event job files x.events event image.ever image.commits (stands.begun).starts beside.all legal (are_true image here) (fits image here);
        held = beside.held;
        read = beside.read;
        commit = beside.commit;
      }
