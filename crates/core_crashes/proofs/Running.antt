-- A call goes on from its entry: first without a block, and then by the core.
use Rattle.std.proofs.Common.{ℕ, ◌≤◌, List, take, sym, subst, arith, None, inl, inr, ⊎_elim}
use Rattle.estate.specs.Changes.{Leads}
use Rattle.estate.specs.Holding.{Holding}
use Rattle.estate.specs.World.{World, IsWorld}
use Rattle.estate.proofs.Laws.{leads_by, leads_on, now_since}
use Rattle.event_log.specs.Blocks.{KeepsBlocks, SameBlocks}
use Rattle.graph_model.specs.declared.event.Event.{Event}
use Rattle.job_soundness.specs.Jobs.{Files, Job}
use Rattle.job_soundness.specs.Sound.{AreRight, IsSound, IsSoundWorld, IsWithin}
use Rattle.job_soundness.specs.Truth.{WasPut}
use Rattle.job_soundness.proofs.Laws.{says_same}
use Rattle.core_model.specs.Cores.{CoreState}
use Rattle.core_crashes.specs.Goes.{Goes, GoesSoundly}
use Rattle.core_crashes.specs.Growth.{Grows}
use Rattle.core_crashes.specs.Recovered.{Ran, RanSoundly}
use Rattle.core_crashes.proofs.Growing.{first_refl, grows_step, grows_trans, says_within_more, within_more}

same_back : (old new : List ℕ) → SameBlocks old new → SameBlocks new old
same_back old new same bodies = ((same bodies).1, (same bodies).0)

-- ---- without a block

-- of whatever events
pub ran_keeps : (job : Job) (least : ℕ) (events : List Event) (a b : World) → IsWorld a → Leads KeepsBlocks a b → Ran job least events a b
ran_keeps job least events a b lawful keeps = record {
  leads = leads_by a b lawful keeps (λ d h from step. grows_step job SameBlocks None d h step);
  images = λ image since.
      let from = keeps.images image since in
      inl (record {
        before = from.0;
        stood = from.1;
        same = λ events. (says_same (from.0).log image.log events (from.2).log, says_same image.log (from.0).log events (same_back (from.0).log image.log (from.2).log));
      });
}

pub ran_keeps_soundly : (job : Job) (files : Files) (a b : World) → Leads KeepsBlocks a b → ((image : Holding) → a.images a.now image → IsSound job files image) → RanSoundly job files a b
ran_keeps_soundly job files a b keeps sound image since =
    let from = keeps.images image since in
    let d = from.0 in
    let step = from.2 in
    let had = sound d from.1 in
    let says = had.1 in (
      had.0,
      record {
        log = says_same d.log image.log had.0 step.log says.log;
        right = subst (λ l. AreRight job files had.0 image.ever l) (sym step.commits) (subst (λ l. AreRight job files had.0 l d.commits) (sym step.ever) says.right);
        held = λ name has. subst (λ l. WasPut l name) (sym step.ever) (says.held name (step.held name has));
      },
    )

-- ---- and then by the core

pub ran_goes : (job : Job) (x y : CoreState) (a b c : World) → IsWorld a → IsWorld b → IsWorld c → Leads KeepsBlocks a b → Goes job x y b c → Ran job x.flushed y.events a c
ran_goes job x y a b c lawful_a lawful_b lawful_c keeps goes =
    let first = ran_keeps job x.flushed y.events a b lawful_a keeps in record {
      leads = leads_on a b c lawful_a lawful_b lawful_c first.leads goes.leads (λ d h from grows. grows) (λ d e h from middle one two. grows_trans job d e h one two);
      images = λ image since. ⊎_elim
          (λ earlier. first.images image earlier)
          (λ here. inr (goes.images image here))
          (goes.leads.time.nothing_else a.now image first.leads.time.later since);
    }

pub ran_on : (job : Job) (least : ℕ) (x y : CoreState) (a b c : World) → IsWorld a → IsWorld b → IsWorld c → least ≤ x.flushed → Ran job least x.events a b → Goes job x y b c → Ran job least y.events a c
ran_on job least x y a b c lawful_a lawful_b lawful_c le ran goes = record {
  leads = leads_on a b c lawful_a lawful_b lawful_c ran.leads goes.leads (λ d h from grows. grows) (λ d e h from middle one two. grows_trans job d e h one two);
  images = λ image since. ⊎_elim
      (λ earlier. ⊎_elim
      (λ as_at. inl as_at)
      (λ within. inr (says_within_more least least x.events y.events image.log (omega arith) goes.events within))
      (ran.images image earlier))
      (λ here. inr (says_within_more x.flushed least y.events y.events image.log le (first_refl y.events) (goes.images image here)))
      (goes.leads.time.nothing_else a.now image ran.leads.time.later since);
}

pub within_sound : (job : Job) (files : Files) (least : ℕ) (events : List Event) (image : Holding) → IsWithin job files least events image → IsSound job files image
within_sound job files least events image within = (take within.count events, within.says)

pub ran_soundly_on : (job : Job) (files : Files) (x y : CoreState) (a b c : World) → Leads (Grows job) a b → Leads (Grows job) b c → RanSoundly job files a b → GoesSoundly job files x y b c → RanSoundly job files a c
ran_soundly_on job files x y a b c first second ran goes image since = ⊎_elim
    (λ earlier. ran image earlier)
    (λ here. within_sound job files x.flushed y.events image (goes.images image here))
    (second.time.nothing_else a.now image first.time.later since)

-- ---- the world that is left

-- also after a step that was refused
pub goes_world : (job : Job) (files : Files) (x y : CoreState) (a b : World) → GoesSoundly job files x y a b → IsSoundWorld job files b
goes_world job files x y a b goes = record {
  events = y.events;
  images = λ image here. within_more job files y.flushed 0 y.events y.events image (omega arith) (first_refl y.events) (goes.now image here);
}

pub world_keeps : (job : Job) (files : Files) (a b : World) → IsWorld b → Leads KeepsBlocks a b → IsSoundWorld job files a → IsSoundWorld job files b
world_keeps job files a b lawful keeps world = record {
  events = world.events;
  images = λ image here.
      let from = keeps.images image (now_since a b lawful keeps.time image here) in
      let d = from.0 in
      let step = from.2 in
      let within = world.images d from.1 in
      let events = take within.count world.events in
      let says = within.says in record {
        count = within.count;
        no_fewer = within.no_fewer;
        no_more = within.no_more;
        says = record {
          log = says_same d.log image.log events step.log says.log;
          right = subst (λ l. AreRight job files events image.ever l) (sym step.commits) (subst (λ l. AreRight job files events l d.commits) (sym step.ever) says.right);
          held = λ name has. subst (λ l. WasPut l name) (sym step.ever) (says.held name (step.held name has));
        };
      };
}
