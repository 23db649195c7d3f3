-- What the images since a moment have, and how two goings compose.
use Rattle.std.proofs.Common.{◌≡◌, None, arith, ⊎_elim}
use Rattle.estate.specs.Changes.{Leads}
use Rattle.estate.specs.Holding.{Holding}
use Rattle.estate.specs.World.{World, IsWorld}
use Rattle.estate.proofs.Laws.{leads_by, leads_on, leads_start}
use Rattle.job_soundness.specs.Jobs.{Files, Job}
use Rattle.job_soundness.specs.Sound.{IsWithin}
use Rattle.core_model.specs.Cores.{CoreState}
use Rattle.core_crashes.specs.Goes.{Goes, GoesSoundly}
use Rattle.core_crashes.specs.Growth.{SaysWithin}
use Rattle.core_crashes.specs.Standing.{IsBegun, IsRight}
use Rattle.core_crashes.proofs.Growing.{first_refl, first_trans, grows_step, grows_trans, says_within_more, within_more}

-- what the images of a have, the images since a have after a call
pub images_since : (P Q : Holding → Type 0) (R : Holding → Holding → Type 0) (a b : World) → Leads R a b → ((image : Holding) → a.images a.now image → P image)
    → ((d h : Holding) → P d → R d h → Q h) → (image : Holding) → b.images a.now image → Q image
images_since P Q R a b leads had follows image since = let from = leads.images image since in follows from.0 image (had from.0 from.1) from.2

-- each crash now leaves the flushed events
pub begun_within : (job : Job) (core : CoreState) (world : World) → IsBegun job core world → (image : Holding) → world.images world.now image → SaysWithin core.flushed core.events image.log
begun_within job core world begun image here = record { count = core.flushed; no_fewer = omega arith; no_more = begun.flushed; says = (begun.images image here).says }

pub right_within : (job : Job) (files : Files) (core : CoreState) (world : World) → IsBegun job core world → IsRight job files core world → (image : Holding) → world.images world.now image → IsWithin job files core.flushed core.events image
right_within job files core world begun right image here =
    let beside = right image here in record {
      count = core.flushed;
      no_fewer = omega arith;
      no_more = begun.flushed;
      says = record { log = (begun.images image here).says; right = beside.flushed; held = beside.held };
    }

-- ---- before the first call

pub goes_start : (job : Job) (core : CoreState) (world : World) → IsWorld world → IsBegun job core world → Goes job core core world world
goes_start job core world lawful begun = record {
  leads = leads_by world world lawful (leads_start world) (λ d h from stays. grows_step job (λ old new. new ≡ old) None d h stays);
  events = first_refl core.events;
  flushed = omega arith;
  images = begun_within job core world begun;
  now = begun_within job core world begun;
}

pub soundly_start : (job : Job) (files : Files) (core : CoreState) (world : World) → IsBegun job core world → IsRight job files core world → GoesSoundly job files core core world world
soundly_start job files core world begun right = record { images = right_within job files core world begun right; now = right_within job files core world begun right }

-- ---- one more

pub goes_on : (job : Job) (x y z : CoreState) (a b c : World) → IsWorld a → IsWorld b → IsWorld c → Goes job x y a b → Goes job y z b c → Goes job x z a c
goes_on job x y z a b c lawful_a lawful_b lawful_c one two = record {
  leads = leads_on a b c lawful_a lawful_b lawful_c one.leads two.leads (λ d h from grows. grows) (λ d e h from middle first second. grows_trans job d e h first second);
  events = first_trans x.events y.events z.events one.events two.events;
  flushed = omega (arith, one.flushed, two.flushed);
  images = λ image since. ⊎_elim
      (λ earlier. says_within_more x.flushed x.flushed y.events z.events image.log (omega arith) two.events (one.images image earlier))
      (λ here. says_within_more y.flushed x.flushed z.events z.events image.log one.flushed (first_refl z.events) (two.images image here))
      (two.leads.time.nothing_else a.now image one.leads.time.later since);
  now = two.now;
}

pub soundly_on : (job : Job) (files : Files) (x y z : CoreState) (a b c : World) → Goes job x y a b → Goes job y z b c → GoesSoundly job files x y a b → GoesSoundly job files y z b c → GoesSoundly job files x z a c
soundly_on job files x y z a b c one two first second = record {
  images = λ image since. ⊎_elim
      (λ earlier. within_more job files x.flushed x.flushed y.events z.events image (omega arith) two.events (first.images image earlier))
      (λ here. within_more job files y.flushed x.flushed z.events z.events image one.flushed (first_refl z.events) (second.images image here))
      (two.leads.time.nothing_else a.now image one.leads.time.later since);
  now = second.now;
}
