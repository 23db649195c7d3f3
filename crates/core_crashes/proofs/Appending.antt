-- The job's commit is appended.
use Rattle.std.proofs.Common.{◌≡◌, ℕ, true, false, List, [], ◌∷◌, ◌++◌, length, take, Some, None, Result, Ok, Err, IsTrue, refl, sym, ◌∙◌, ap, subst, arith, All, Contains, append-nil, inl, ⊎_elim}
use Rattle.std.proofs.lemmas.List.{take_all}
use Rattle.estate.specs.Changes.{Appends, Leads, Same, Step}
use Rattle.estate.specs.Holding.{Holding, StoredPart, job_under}
use Rattle.estate.specs.World.{World, IsWorld}
use Rattle.estate.specs.declared.commit.Commit.{Commit}
use Rattle.estate.specs.declared.part_name.PartName.{PartName}
use Rattle.estate.proofs.Laws.{leads_by, now_since}
use Rattle.event_log.proofs.Laws.{log_stays_started}
use Rattle.graph_model.specs.declared.event.Event.{Event}
use Rattle.sink_commit.specs.Answers.{AddsAs, Answers, Lands}
use Rattle.sink_commit.specs.declared.committed.Committed.{Committed}
use Rattle.sink_commit.specs.declared.committed.Committed.TheVariants.{Before, Fresh}
use Rattle.sink_commit.specs.declared.commit_error.CommitError.{CommitError}
use Rattle.sink_commit.specs.declared.commit_error.CommitError.TheVariants.{IdTaken, SinkFault, NoMemory}
use Rattle.job_soundness.specs.Jobs.{Files, HasCommit, Job, the_commit}
use Rattle.job_soundness.specs.Logs.{SaysEvents}
use Rattle.job_soundness.specs.Sound.{AreRight, IsWithin, MayHaveCommit}
use Rattle.job_soundness.specs.Truth.{WasPut}
use Rattle.job_soundness.proofs.Laws.{none_found, once_more, right_commit}
use Rattle.core_model.specs.Cores.{CoreState, core_state}
use Rattle.core_crashes.specs.Goes.{Goes, GoesSoundly}
use Rattle.core_crashes.specs.Growth.{IsOfJob, SaysWithin}
use Rattle.core_crashes.specs.Standing.{IsFor, IsRight, Leaves}
use Rattle.core_crashes.proofs.Growing.{grows_commit}
use Rattle.core_crashes.proofs.Since.{images_since}

-- the commit is known to stand
abbrev pub with_commit : CoreState → CoreState
with_commit core = record core { committed = true }

-- whatever the answer, at most the commit was added
pub leads_may : (commit : Commit) (result : Result Committed CommitError) (a b : World) → IsWorld a → Leads (AddsAs commit result) a b → Leads (Appends commit) a b
leads_may commit result a b lawful adds = leads_by a b lawful adds (λ d h from step. by result d h step)
  where
    none : (d h : Holding) → Step Same None None d h → Appends commit d h
    none d h step = record { log = step.log; ever = step.ever; commits = inl step.commits; held = step.held }

    by : (result : Result Committed CommitError) (d h : Holding) → AddsAs commit result d h → Appends commit d h
    by (Ok Before) d h step = none d h step
    by (Ok Fresh) d h step = step
    by (Err (IdTaken other)) d h step = none d h step
    by (Err SinkFault) d h step = step
    by (Err NoMemory) d h step = none d h step

module _ (job : Job) (x : CoreState) (commit : Commit) (a b : World) (lawful_a : IsWorld a) (lawful_b : IsWorld b) (stands : IsFor job x a)
    (own : IsOfJob job commit) (fresh : x.committed ≡ false) (flushed : x.flushed ≡ length x.events) (adds : Leads (Appends commit) a b) where
  whole : take x.flushed x.events ≡ x.events
  whole = take_all x.flushed x.events (omega (arith, flushed))

  within : (d h : Holding) → Leaves job x d → Appends commit d h → SaysWithin x.flushed x.events h.log
  within d h leaves step = record {
    count = x.flushed;
    no_fewer = omega arith;
    no_more = (stands.begun).flushed;
    says = subst (λ (l : List ℕ). SaysEvents l (take x.flushed x.events)) (sym step.log) leaves.says;
  }

  since : (image : Holding) → b.images a.now image → SaysWithin x.flushed x.events image.log
  since = images_since (Leaves job x) (λ image. SaysWithin x.flushed x.events image.log) (Appends commit) a b adds (stands.begun).images within

  -- whether it is known to stand or not
  pub commit_goes : (y : CoreState) → y.events ≡ x.events → y.flushed ≡ x.flushed → Goes job x y a b
  commit_goes y events same = record {
    leads = leads_by a b lawful_a adds (λ d h from step. grows_commit job Same commit d h own step);
    events = ([], events ∙ sym (append-nil x.events));
    flushed = omega (arith, same);
    images = subst (λ (l : List Event). (image : Holding) → b.images a.now image → SaysWithin x.flushed l image.log) (sym events) since;
    now = λ image here. subst (λ (n : ℕ). SaysWithin n y.events image.log) (sym same)
        (subst (λ (l : List Event). SaysWithin x.flushed l image.log) (sym events) (since image (now_since a b lawful_b adds.time image here)));
  }

  pub commit_for : IsFor job (with_commit x) b
  commit_for =
      let begun = stands.begun in record {
        begun = record {
          legal = begun.legal;
          starts = begun.starts;
          flushed = begun.flushed;
          own = λ attempt has. let was = begun.own attempt has in record { epoch = was.epoch; given = was.given };
          started = log_stays_started x.log_end None (Some commit) a b lawful_b adds begun.started;
          images = λ image here.
              let from = adds.images image (now_since a b lawful_b adds.time image here) in record {
                says = subst (λ (l : List ℕ). SaysEvents l (take x.flushed x.events)) (sym (from.2).log) (begun.images from.0 from.1).says;
                names = λ not running. absurd (cc not);
                none = λ not. absurd (cc not);
              };
        };
        epoch = stands.epoch;
      }

  -- the sink was asked and had nothing, so after Ok each image has the commit
  pub commit_lands : (committed : Committed) → (IsTrue a.told → Answers commit a b (Ok committed)) → (committed ≡ Fresh → IsTrue a.told → Lands commit a b) → IsTrue a.told → Lands commit a b
  commit_lands Before answer lands told =
      let stood : job_under job.id a.holding.commits ≡ Some commit.job = subst (λ (id : List ℕ). job_under id a.holding.commits ≡ Some commit.job) own.0 (answer told).0 in
      let none : job_under job.id a.holding.commits ≡ None = none_found job a.holding.commits (((stands.begun).images a.holding (lawful_a.own told)).none fresh) in
      absurd (cc (sym stood ∙ none))
  commit_lands Fresh answer lands told = lands refl told

  -- ---- sound

  module _ (files : Files) (right : IsRight job files x a) (is : IsTrue a.told → commit ≡ the_commit job files) (may : MayHaveCommit job (core_state job x)) where
    more_right : (d : Holding) → a.images a.now d → AreRight job files x.events d.ever (d.commits ++ commit ∷ [])
    more_right d from = subst (λ (c : Commit). AreRight job files x.events d.ever (d.commits ++ c ∷ [])) (sym (is (lawful_a.tells a.now d from)))
        (right_commit job files x.events d.ever d.commits (right d from).all (((stands.begun).images d from).none fresh) may)

    right_here : (d h : Holding) → a.images a.now d → Appends commit d h → AreRight job files x.events h.ever h.commits
    right_here d h from step = subst (λ (l : List StoredPart). AreRight job files x.events l h.commits) (sym step.ever)
        (⊎_elim
        (λ same. subst (λ (l : List Commit). AreRight job files x.events d.ever l) (sym same) (right d from).all)
        (λ more. subst (λ (l : List Commit). AreRight job files x.events d.ever l) (sym more) (more_right d from))
        step.commits)

    held_here : (d h : Holding) → a.images a.now d → Appends commit d h → (name : PartName) → Contains h.held name → WasPut h.ever name
    held_here d h from step name has = subst (λ (l : List StoredPart). WasPut l name) (sym step.ever) ((right d from).held name (step.held name has))

    soundly : (image : Holding) → b.images a.now image → IsWithin job files x.flushed x.events image
    soundly image here =
        let from = adds.images image here in
        let d = from.0 in record {
          count = x.flushed;
          no_fewer = omega arith;
          no_more = (stands.begun).flushed;
          says = record {
            log = subst (λ (l : List ℕ). SaysEvents l (take x.flushed x.events)) (sym (from.2).log) ((stands.begun).images d from.1).says;
            right = subst (λ (l : List Event). AreRight job files l image.ever image.commits) (sym whole) (right_here d image from.1 from.2);
            held = held_here d image from.1 from.2;
          };
        }

    pub commit_soundly : (y : CoreState) → y.events ≡ x.events → y.flushed ≡ x.flushed → GoesSoundly job files x y a b
    commit_soundly y events same = record {
      images = subst (λ (l : List Event). (image : Holding) → b.images a.now image → IsWithin job files x.flushed l image) (sym events) soundly;
      now = λ image here. subst (λ (n : ℕ). IsWithin job files n y.events image) (sym same)
          (subst (λ (l : List Event). IsWithin job files x.flushed l image) (sym events) (soundly image (now_since a b lawful_b adds.time image here)));
    }

    pub commit_right : (IsTrue a.told → Lands commit a b) → IsRight job files (with_commit x) b
    commit_right lands image here =
        let from = adds.images image (now_since a b lawful_b adds.time image here) in
        let d = from.0 in
        let told = lawful_a.tells a.now d from.1 in
        let all = right_here d image from.1 from.2 in
        let landed : image.commits ≡ d.commits ++ the_commit job files ∷ [] =
        lands told image here ∙ ap (λ (l : List Commit). l ++ commit ∷ []) (sym (lawful_a.commits d from.1)) ∙ ap (λ (c : Commit). d.commits ++ c ∷ []) (is told) in record {
          flushed = subst (λ (l : List Event). AreRight job files l image.ever image.commits) (sym whole) all;
          all = all;
          held = held_here d image from.1 from.2;
          read = λ attempt has. subst (λ (l : List StoredPart). All (WasPut l) attempt.inputs) (sym (from.2).ever) ((right d from.1).read attempt has);
          commit = λ knows. subst (HasCommit job files) (sym landed) (once_more job files d.commits (((stands.begun).images d from.1).none fresh));
        }
