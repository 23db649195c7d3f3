-- A block is added.
use Rattle.std.proofs.Common.{◌≡◌, ℕ, List, ◌++◌, length, take, drop, None, sym, ap, subst, arith, All, Contains, inl, inr, ⊎_elim}
use Rattle.std.specs.Prelude.{◌⊎◌}
use Rattle.std.proofs.lemmas.List.{take-append-drop, take_all}
use Rattle.estate.specs.Changes.{Leads}
use Rattle.estate.specs.Holding.{Holding, StoredPart}
use Rattle.estate.specs.World.{World, IsWorld}
use Rattle.estate.specs.declared.commit.Commit.{Commit}
use Rattle.estate.specs.declared.part_name.PartName.{PartName}
use Rattle.estate.proofs.Laws.{leads_by, now_since}
use Rattle.event_log.specs.Blocks.{AddsBlock, LandsBehind, MayGainBlock}
use Rattle.event_log.specs.Started.{IsStarted}
use Rattle.graph_model.specs.declared.event.Event.{Event}
use Rattle.event_codec.specs.Spelling.{events_bytes, EventsFit}
use Rattle.job_soundness.specs.Jobs.{Files, HasCommit, HasNone, Job}
use Rattle.job_soundness.specs.Logs.{SaysEvents}
use Rattle.job_soundness.specs.Sound.{AreRight, IsWithin, Says}
use Rattle.job_soundness.specs.Starts.{state_of}
use Rattle.job_soundness.specs.Truth.{WasPut}
use Rattle.job_soundness.proofs.Laws.{says_landed, says_more, says_same}
use Rattle.core_model.specs.Cores.{CoreState}
use Rattle.core_crashes.specs.Goes.{Goes, GoesSoundly}
use Rattle.core_crashes.specs.Growth.{SaysWithin}
use Rattle.core_crashes.specs.Standing.{HaveGivenNames, IsBegun, IsFor, IsRight, Leaves}
use Rattle.core_crashes.proofs.Growing.{first_refl, grows_step}
use Rattle.core_crashes.proofs.Since.{images_since}

-- all events of the core are flushed
abbrev pub with_flushed : CoreState → ℕ → CoreState
with_flushed core log_end = record core { flushed = length core.events; log_end = log_end }

module _ (job : Job) (x : CoreState) (body : List ℕ) (a b : World) (lawful_a : IsWorld a) (lawful_b : IsWorld b) (begun : IsBegun job x a)
    (fits : EventsFit (drop x.flushed x.events)) (spelled : body ≡ events_bytes (drop x.flushed x.events)) (adds : Leads (AddsBlock body) a b) where
  whole : take x.flushed x.events ++ drop x.flushed x.events ≡ x.events
  whole = take-append-drop x.flushed x.events

  all_taken : take (length x.events) x.events ≡ x.events
  all_taken = take_all (length x.events) x.events (omega arith)

  says_all : (d h : Holding) → Leaves job x d → MayGainBlock body d.log h.log → SaysEvents h.log (take x.flushed x.events) ⊎ SaysEvents h.log x.events
  says_all d h leaves gains = ⊎_elim
      (λ same. inl (says_same d.log h.log (take x.flushed x.events) same leaves.says))
      (λ more. inr (subst (SaysEvents h.log) whole (says_more body d.log h.log (take x.flushed x.events) (drop x.flushed x.events) more fits spelled leaves.says)))
      gains

  within : (d h : Holding) → Leaves job x d → AddsBlock body d h → SaysWithin x.flushed x.events h.log
  within d h leaves step = ⊎_elim
      (λ old. record { count = x.flushed; no_fewer = omega arith; no_more = begun.flushed; says = old })
      (λ new. record { count = length x.events; no_fewer = begun.flushed; no_more = omega arith; says = subst (SaysEvents h.log) (sym all_taken) new })
      (says_all d h leaves step.log)

  since : (image : Holding) → b.images a.now image → SaysWithin x.flushed x.events image.log
  since = images_since (Leaves job x) (λ image. SaysWithin x.flushed x.events image.log) (AddsBlock body) a b adds begun.images within

  -- where it was refused
  pub flush_refused : Goes job x x a b
  flush_refused = record {
    leads = leads_by a b lawful_a adds (λ d h from step. grows_step job (MayGainBlock body) None d h step);
    events = first_refl x.events;
    flushed = omega arith;
    images = since;
    now = λ image here. since image (now_since a b lawful_b adds.time image here);
  }

  -- ---- sound

  module _ (files : Files) (right : IsRight job files x a) where
    right_here : (events : List Event) (d h : Holding) → AddsBlock body d h → AreRight job files events d.ever d.commits → AreRight job files events h.ever h.commits
    right_here events d h step here =
        subst (λ (l : List Commit). AreRight job files events h.ever l) (sym step.commits) (subst (λ (l : List StoredPart). AreRight job files events l d.commits) (sym step.ever) here)

    held_here : (d h : Holding) → a.images a.now d → AddsBlock body d h → (name : PartName) → Contains h.held name → WasPut h.ever name
    held_here d h from step name has = subst (λ (l : List StoredPart). WasPut l name) (sym step.ever) ((right d from).held name (step.held name has))

    soundly : (image : Holding) → b.images a.now image → IsWithin job files x.flushed x.events image
    soundly image here =
        let from = adds.images image here in
        let d = from.0 in
        let beside = right d from.1 in
        ⊎_elim
        (λ old. record {
          count = x.flushed;
          no_fewer = omega arith;
          no_more = begun.flushed;
          says = record { log = old; right = right_here (take x.flushed x.events) d image from.2 beside.flushed; held = held_here d image from.1 from.2 };
        })
        (λ new. record {
          count = length x.events;
          no_fewer = begun.flushed;
          no_more = omega arith;
          says = subst (λ (l : List Event). Says job files l image) (sym all_taken) (record { log = new; right = right_here x.events d image from.2 beside.all; held = held_here d image from.1 from.2 });
        })
        (says_all d image (begun.images d from.1) (from.2).log)

    pub flush_refused_soundly : GoesSoundly job files x x a b
    flush_refused_soundly = record { images = soundly; now = λ image here. soundly image (now_since a b lawful_b adds.time image here) }

  -- ---- where the block has landed

  module _ (log_end : ℕ) (lands : LandsBehind body a b) (ready : IsStarted log_end b) where
    abbrev flushed_all : CoreState
    flushed_all = with_flushed x log_end

    says_now : (image : Holding) → b.images b.now image → SaysEvents image.log x.events
    says_now image here =
        let from = adds.images image (now_since a b lawful_b adds.time image here) in
        let told = lawful_a.tells a.now from.0 from.1 in
        let own = begun.images a.holding (lawful_a.own told) in
        subst (SaysEvents image.log) whole (says_landed body a b image (take x.flushed x.events) (drop x.flushed x.events) lands here fits spelled own.says)

    pub flush_goes : Goes job x flushed_all a b
    flush_goes = record {
      leads = flush_refused.leads;
      events = first_refl x.events;
      flushed = begun.flushed;
      images = since;
      now = λ image here. record { count = length x.events; no_fewer = omega arith; no_more = omega arith; says = subst (SaysEvents image.log) (sym all_taken) (says_now image here) };
    }

    pub flush_for : IsFor job flushed_all b
    flush_for = record {
      begun = record {
        legal = begun.legal;
        starts = begun.starts;
        flushed = omega arith;
        own = λ attempt has. let own = begun.own attempt has in record { epoch = own.epoch; given = own.given };
        started = ready;
        images = λ image here.
            let from = adds.images image (now_since a b lawful_b adds.time image here) in
            let leaves = begun.images from.0 from.1 in
            let step = from.2 in record {
              says = subst (SaysEvents image.log) (sym all_taken) (says_now image here);
              names = λ fresh running.
                  let names = leaves.names fresh running in
                  subst (HaveGivenNames job flushed_all) (sym step.ever) (record { given = names.given; fresh = names.fresh });
              none = λ fresh. subst (HasNone job) (sym step.commits) (leaves.none fresh);
            };
      };
      epoch = ap (λ (l : List Event). (state_of job l).epoch) all_taken;
    }

    module _ (files : Files) (right : IsRight job files x a) where
      pub flush_right : IsRight job files flushed_all b
      flush_right image here =
          let from = adds.images image (now_since a b lawful_b adds.time image here) in
          let beside = right from.0 from.1 in
          let step = from.2 in
          let all = right_here files right x.events from.0 image step beside.all in record {
            flushed = subst (λ (l : List Event). AreRight job files l image.ever image.commits) (sym all_taken) all;
            all = all;
            held = held_here files right from.0 image from.1 step;
            read = λ attempt has. subst (λ (l : List StoredPart). All (WasPut l) attempt.inputs) (sym step.ever) (beside.read attempt has);
            commit = λ knows. subst (HasCommit job files) (sym step.commits) (beside.commit knows);
          }

      pub flush_soundly : GoesSoundly job files x flushed_all a b
      flush_soundly = record {
        images = soundly files right;
        now = λ image here.
            let beside = flush_right image here in record {
              count = length x.events;
              no_fewer = omega arith;
              no_more = omega arith;
              says = record { log = subst (SaysEvents image.log) (sym all_taken) (says_now image here); right = beside.flushed; held = beside.held };
            };
      }
