-- The laws of estates and inputs, which other crates may cite: names are told apart, what leads to what composes, stays and
-- widens, counts rise, and contents are kept.
use Rattle.std.proofs.Common.{ap, Bool, [], ◌∷◌, ◌++◌, ◌≡◌, inl, inr, ⊎_elim, ℕ, ◌≤◌, List, Option, Some, None, IsTrue, Contains, refl, sym, ◌∙◌, subst, arith}
use Rattle.estate.specs.declared.part_name.PartName.{PartName}
use Rattle.estate.specs.Holding.{StoredPart, Holding, Counts}
use Rattle.estate.specs.declared.commit.Commit.{Commit}
use Rattle.estate.specs.World.{World, IsWorld}
use Rattle.estate.specs.Contents.{Contents, KeepsContents}
use Rattle.estate.specs.Changes.{Rose, Same, MayGain, WasHeld, Step, Stays, Counted, Elapses, Leads}
-- a part's name is its own, and no other's
pub use Rattle.estate.proofs.Shelving.{name_itself, names_apart}

-- a count that rose in a part of the time rose in all of it
pub rose_later : (a b c : ℕ) → a ≤ b → Rose b c → Rose a c
rose_later a b c le (inl more) = inl (omega arith)
rose_later a b c le (inr top) = inr top

pub rose_earlier : (a b c : ℕ) → Rose a b → b ≤ c → Rose a c
rose_earlier a b c (inl more) le = inl (omega arith)
rose_earlier a b c (inr top) le = inr (omega arith)

pub told_on : (old new : World) → Elapses old new → IsTrue old.told → IsTrue new.told
told_on old new time told = subst (λ b. IsTrue b) (sym time.told) told

counted : (a b c : Counts) → Counted a b → Counted b c → Counted a c
counted a b c first second = record {
  log_faults = omega (arith, first.log_faults, second.log_faults);
  shelf_faults = omega (arith, first.shelf_faults, second.shelf_faults);
  sink_faults = omega (arith, first.sink_faults, second.sink_faults);
  losses = omega (arith, first.losses, second.losses);
}

-- time goes on twice
pub elapses : (a b c : World) → IsWorld c → Elapses a b → Elapses b c → Elapses a c
elapses a b c lawful first second = record {
  told = second.told ∙ first.told;
  later = omega (arith, first.later, second.later);
  nothing_else = λ t image le since.
      ⊎_elim
      (λ earlier. ⊎_elim (λ was. inl was) (λ here. inr (second.keeps a.now image first.later here)) (first.nothing_else t image le earlier))
      (λ here. inr (lawful.widens a.now b.now image first.later second.later here))
      (second.nothing_else t image (omega (arith, le, first.later)) since);
  keeps = λ t image le was. second.keeps t image (omega (arith, le, first.later)) (first.keeps t image le was);
  counts = counted a.counts b.counts c.counts first.counts second.counts;
  losses = λ told name had.
      ⊎_elim
      (λ still. ⊎_elim (λ now. inl now) (λ rose. inr (rose_later a.counts.losses b.counts.losses c.counts.losses first.counts.losses rose)) (second.losses (told_on a b first told) name still))
      (λ rose. inr (rose_earlier a.counts.losses b.counts.losses c.counts.losses rose second.counts.losses))
      (first.losses told name had);
}

-- The one lemma by which a run of calls goes on: what leads by R and then by S leads by U. Of the images it may be used
-- that they are images of a, and images of b.
pub leads_on : {R S U : Holding → Holding → Type 0} (a b c : World) → IsWorld a → IsWorld b → IsWorld c → Leads R a b → Leads S b c
    → ((d h : Holding) → a.images a.now d → R d h → U d h)
    → ((d e h : Holding) → a.images a.now d → b.images b.now e → R d e → S e h → U d h)
    → Leads U a c
leads_on a b c lawful_a lawful_b lawful_c first second alone both = record {
  time = elapses a b c lawful_c first.time second.time;
  holding = λ told.
      let told_b = told_on a b first.time told in
      both a.holding b.holding c.holding (lawful_a.own told) (lawful_b.own told_b) (first.holding told) (second.holding told_b);
  images = λ image since.
      ⊎_elim
      (λ earlier. let from = first.images image earlier in (from.0, from.1, alone from.0 image from.1 from.2))
      (λ here.
      let middle = second.images image here in
      let from = first.images middle.0 (lawful_b.widens a.now b.now middle.0 first.time.later (omega arith) middle.1) in
      (from.0, from.1, both from.0 middle.0 image from.1 middle.1 from.2 middle.2))
      (second.time.nothing_else a.now image first.time.later since);
}

-- another step, where it follows for the images of a
pub leads_by : {R U : Holding → Holding → Type 0} (a b : World) → IsWorld a → Leads R a b → ((d h : Holding) → a.images a.now d → R d h → U d h) → Leads U a b
leads_by a b lawful_a first follows = record {
  time = first.time;
  holding = λ told. follows a.holding b.holding (lawful_a.own told) (first.holding told);
  images = λ image since. let from = first.images image since in (from.0, from.1, follows from.0 image from.1 from.2);
}

-- a crash now leaves what a crash since then may leave
pub now_since : (a b : World) → IsWorld b → Elapses a b → (image : Holding) → b.images b.now image → b.images a.now image
now_since a b lawful_b time image here = lawful_b.widens a.now b.now image time.later (omega arith) here

pub stays_refl : (h : Holding) → Stays h h
stays_refl h = record { log = refl; ever = refl; commits = refl; held = λ name has. has }

-- before the first call
pub leads_start : (a : World) → Leads Stays a a
leads_start a = record {
  time = record {
    told = refl;
    later = omega arith;
    nothing_else = λ t image le since. inl since;
    keeps = λ t image le was. was;
    counts = record { log_faults = omega arith; shelf_faults = omega arith; sink_faults = omega arith; losses = omega arith };
    losses = λ told name had. inl had;
  };
  holding = λ told. stays_refl a.holding;
  images = λ image since. (image, since, stays_refl image);
}

was_held : (part : Option StoredPart) (d e h : Holding) → Stays d e → (name : PartName) → WasHeld part e h name → WasHeld part d h name
was_held None d e h stays name has = stays.held name has
was_held (Some part) d e h stays name (inl has) = inl (stays.held name has)
was_held (Some part) d e h stays name (inr put) = inr (put.0, put.1 ∙ ap (λ (l : List StoredPart). l ++ part ∷ []) stays.ever)

still_held : (part : Option StoredPart) (d e h : Holding) → h.ever ≡ e.ever → (name : PartName) → WasHeld part d e name → WasHeld part d h name
still_held None d e h is name has = has
still_held (Some part) d e h is name (inl has) = inl has
still_held (Some part) d e h is name (inr put) = inr (put.0, is ∙ put.1)

pub may_stay : {A : Type 0} (x : Option A) (old new : List A) → new ≡ old → MayGain x old new
may_stay None old new is = is
may_stay (Some x) old new is = inl is

pub held_stays : (part : Option StoredPart) (old new : Holding) (name : PartName) → Contains old.held name → WasHeld part old new name
held_stays None old new name has = has
held_stays (Some part) old new name has = inl has

-- two steps that add nothing, where a relation of the first and the last log follows
pub step_both : (first second both : List ℕ → List ℕ → Type 0) (d e h : Holding) → Step first None None d e → Step second None None e h → both d.log h.log → Step both None None d h
step_both first second both d e h one two follows = record {
  log = follows;
  ever = two.ever ∙ one.ever;
  commits = two.commits ∙ one.commits;
  held = λ name has. one.held name (two.held name has);
}

module _ (writes : List ℕ → List ℕ → Type 0) (part : Option StoredPart) (commit : Option Commit) where
  -- a step that adds no more than it may
  pub step_stays : ((log : List ℕ) → writes log log) → (d h : Holding) → Stays d h → Step writes part commit d h
  step_stays same d h stays = record {
    log = subst (λ (l : List ℕ). writes d.log l) (sym stays.log) (same d.log);
    ever = may_stay part d.ever h.ever stays.ever;
    commits = may_stay commit d.commits h.commits stays.commits;
    held = λ name has. held_stays part d h name (stays.held name has);
  }

  -- a step after one that leaves all but names
  pub stays_step : (d e h : Holding) → Stays d e → Step writes part commit e h → Step writes part commit d h
  stays_step d e h stays step = record {
    log = subst (λ (l : List ℕ). writes l h.log) stays.log step.log;
    ever = subst (λ (l : List StoredPart). MayGain part l h.ever) stays.ever step.ever;
    commits = subst (λ (l : List Commit). MayGain commit l h.commits) stays.commits step.commits;
    held = λ name has. was_held part d e h stays name (step.held name has);
  }

  -- a step before one that leaves all but names
  pub step_stay : (d e h : Holding) → Step writes part commit d e → Stays e h → Step writes part commit d h
  step_stay d e h step stays = record {
    log = subst (λ (l : List ℕ). writes d.log l) (sym stays.log) step.log;
    ever = subst (λ (l : List StoredPart). MayGain part d.ever l) (sym stays.ever) step.ever;
    commits = subst (λ (l : List Commit). MayGain commit d.commits l) (sym stays.commits) step.commits;
    held = λ name has. still_held part d e h stays.ever name (step.held name (stays.held name has));
  }

  -- another relation of the logs, where it follows
  pub step_by : (others : List ℕ → List ℕ → Type 0) (d h : Holding) → (writes d.log h.log → others d.log h.log) → Step writes part commit d h → Step others part commit d h
  step_by others d h follows step = record { log = follows step.log; ever = step.ever; commits = step.commits; held = step.held }

  -- a call that changes nothing, and then one that goes by a step
  pub leads_after : (a b c : World) → IsWorld a → IsWorld b → IsWorld c → ((log : List ℕ) → writes log log) → Leads Stays a b → Leads (Step writes part commit) b c → Leads (Step writes part commit) a c
  leads_after a b c lawful_a lawful_b lawful_c same first second =
      leads_on a b c lawful_a lawful_b lawful_c first second (λ d h from. step_stays same d h) (λ d e h from middle. stays_step d e h)

  -- a call that goes by a step, and then one that changes nothing
  pub leads_before : (a b c : World) → IsWorld a → IsWorld b → IsWorld c → Leads (Step writes part commit) a b → Leads Stays b c → Leads (Step writes part commit) a c
  leads_before a b c lawful_a lawful_b lawful_c first second =
      leads_on a b c lawful_a lawful_b lawful_c first second (λ d h from step. step) (λ d e h from middle. step_stay d e h)

pub leads_stays : (a b c : World) → IsWorld a → IsWorld b → IsWorld c → Leads Stays a b → Leads Stays b c → Leads Stays a c
leads_stays a b c lawful_a lawful_b lawful_c first second = leads_before Same None None a b c lawful_a lawful_b lawful_c first second

-- a call that changes nothing, as one that may change something
pub leads_more : (writes : List ℕ → List ℕ → Type 0) (part : Option StoredPart) (commit : Option Commit) (a b : World) → ((log : List ℕ) → writes log log) → Leads Stays a b → Leads (Step writes part commit) a b
leads_more writes part commit a b same first = record {
  time = first.time;
  holding = λ told. step_stays writes part commit same a.holding b.holding (first.holding told);
  images = λ image since. let from = first.images image since in (from.0, from.1, step_stays writes part commit same from.0 image from.2);
}

-- before the first call of inputs
pub keeps_contents_start : (a : Contents) → KeepsContents a a
keeps_contents_start a = record { told = refl; job = λ told. refl; files = λ told table. refl; faults = omega arith }

-- one call of inputs more
pub keeps_contents_on : (a b c : Contents) → KeepsContents a b → KeepsContents b c → KeepsContents a c
keeps_contents_on a b c first second = record {
  told = second.told ∙ first.told;
  job = λ told. second.job (subst (λ (x : Bool). IsTrue x) (sym first.told) told) ∙ first.job told;
  files = λ told table. second.files (subst (λ (x : Bool). IsTrue x) (sym first.told) told) table ∙ first.files told table;
  faults = omega (arith, first.faults, second.faults);
}
