-- A block of the events that were not flushed.
use Rattle.std.proofs.Common.{rules, ◌≡◌, ℕ, ◌+◌, ◌<◌, Bool, true, false, cond, IsTrue, List, [], ◌∷◌, ◌++◌, length, drop, take, None, Contains, refl, sym, ◌∙◌, ap, subst, inl, inr, ⊎_elim, arith, Option}
use Rattle.std.specs.Prelude.{◌⊎◌}
use Rattle.std.proofs.Math.Seq.{drop-append_seam}
use Rattle.std.proofs.lemmas.List.{append-nil, length-append}
use Rattle.estate.specs.Changes.{Leads, Step as Change}
use Rattle.estate.specs.World.{World, IsWorld}
use Rattle.estate.specs.declared.commit.Commit.{Commit}
use Rattle.event_codec.specs.Spelling.{EventsFit, events_bytes}
use Rattle.event_log.specs.Blocks.{AddsBlock, KeepsBlocks}
use Rattle.estate.specs.declared.part_name.PartName.{PartName}
use Rattle.graph_model.specs.declared.event.Event.{Event}
use Rattle.job_soundness.specs.Jobs.{Files, Job}
use Rattle.core_model.specs.Cores.{CoreState}
use Rattle.core_model.specs.Moves.{HoldsFewer}
use Rattle.core_model.specs.declared.step.Step.{Step}
use Rattle.core_crashes.specs.Goes.{Goes, GoesSoundly}
use Rattle.core_crashes.specs.Standing.{IsFor, IsRight}
use Rattle.core_crashes.proofs.Laws.{first_refl, flush_for, flush_goes, flush_refused, flush_refused_soundly, flush_right, flush_soundly, goes_quiet, soundly_quiet, with_flushed}
use Rattle.core_state.specs.Steps.{moment_of}
use Rattle.core_state.specs.Writing.{AddsEvents, Wrote}

-- ---- what is held

none_held : (name : PartName) → Contains [] name → ⊥
none_held name has = grind arith

-- what is told to be held after a call that puts no part was held before
pub held_fewer : (writes : List ℕ → List ℕ → Type 0) (commit : Option Commit) (x y : CoreState) (step : Step) (a b : World)
    → Leads (Change writes None commit) a b → HoldsFewer step (moment_of x a) (moment_of y b)
held_fewer writes commit x y step a b leads name has = inl (by a.told refl)
  where
    by : (t : Bool) → a.told ≡ t → Contains (cond a.told a.holding.held []) name
    by true is =
        let there = subst (λ (t : Bool). Contains (cond t b.holding.held []) name) ((leads.time).told ∙ is) has in
        subst (λ (t : Bool). Contains (cond t a.holding.held []) name) (sym is)
        ((leads.holding (subst (λ (t : Bool). IsTrue t) (sym is) (search rules))).held name there)
    by false is = absurd (none_held name (subst (λ (t : Bool). Contains (cond t b.holding.held []) name) ((leads.time).told ∙ is) has))

-- ---- cores

pub core_is : (x : CoreState) (l m : List Event) (n k end last : ℕ) → l ≡ m → n ≡ k → end ≡ last
    → record x { events = l; flushed = n; log_end = end } ≡ record x { events = m; flushed = k; log_end = last }
core_is x l m n k end last events flushed ends =
    ap (λ (l : List Event). record x { events = l; flushed = n; log_end = end }) events
    ∙ ap (λ (n : ℕ). record x { events = m; flushed = n; log_end = end }) flushed
    ∙ ap (λ (e : ℕ). record x { events = m; flushed = k; log_end = e }) ends

module _ (job : Job) (x : CoreState) (past buffer : List Event) (events_are : x.events ≡ past ++ buffer) (flushed_is : x.flushed ≡ length past)
    (a b : World) (lawful_a : IsWorld a) (lawful_b : IsWorld b) (stands : IsFor job x a) where
  pub unflushed_is : drop x.flushed x.events ≡ buffer
  unflushed_is = ap (λ (n : ℕ). drop n x.events) flushed_is ∙ ap (drop (length past)) events_are ∙ drop-append_seam past buffer

  fits_at : EventsFit buffer → EventsFit (drop x.flushed x.events)
  fits_at fits = subst EventsFit (sym unflushed_is) fits

  spelled : events_bytes buffer ≡ events_bytes (drop x.flushed x.events)
  spelled = ap events_bytes (sym unflushed_is)

  -- ---- refused

  refused : AddsEvents buffer a b → Goes job x x a b
  refused adds = ⊎_elim
      (λ keeps. goes_quiet job x x a b lawful_a lawful_b stands.begun keeps (first_refl x.events) refl)
      (λ (block : EventsFit buffer × Leads (AddsBlock (events_bytes buffer)) a b). flush_refused job x (events_bytes buffer) a b lawful_a lawful_b stands.begun (fits_at block.0) spelled block.1)
      adds

  refused_soundly : (files : Files) → IsRight job files x a → AddsEvents buffer a b → GoesSoundly job files x x a b
  refused_soundly files right adds = ⊎_elim
      (λ keeps. soundly_quiet job files x x a b lawful_b stands.begun right keeps (first_refl x.events) refl)
      (λ (block : EventsFit buffer × Leads (AddsBlock (events_bytes buffer)) a b). flush_refused_soundly job x (events_bytes buffer) a b lawful_a lawful_b stands.begun (fits_at block.0) spelled block.1 files right)
      adds

  module _ (p m : List Event) (end : ℕ) (p_is : p ≡ past) (m_is : m ≡ buffer) (end_is : end ≡ x.log_end) (adds : AddsEvents buffer a b) where
    left_is : record x { events = p ++ m; flushed = length p; log_end = end } ≡ x
    left_is = core_is x (p ++ m) x.events (length p) x.flushed end x.log_end
        (ap (λ (l : List Event). l ++ m) p_is ∙ ap (λ (l : List Event). past ++ l) m_is ∙ sym events_are)
        (ap length p_is ∙ sym flushed_is) end_is

    pub goes_refused : Goes job x (record x { events = p ++ m; flushed = length p; log_end = end }) a b
    goes_refused = subst (λ (y : CoreState). Goes job x y a b) (sym left_is) (refused adds)

    pub soundly_refused : (files : Files) → IsRight job files x a → GoesSoundly job files x (record x { events = p ++ m; flushed = length p; log_end = end }) a b
    soundly_refused files right = subst (λ (y : CoreState). GoesSoundly job files x y a b) (sym left_is) (refused_soundly files right adds)

  -- ---- landed

  module _ (p m : List Event) (before end : ℕ) (p_is : p ≡ past ++ buffer) (m_is : m ≡ []) (wrote : Wrote buffer before end a b) where
    pub flushed_core : record x { events = p ++ m; flushed = length p; log_end = end } ≡ with_flushed x end
    flushed_core = core_is x (p ++ m) x.events (length p) (length x.events) end end
        (ap (λ (l : List Event). p ++ l) m_is ∙ append-nil p ∙ p_is ∙ sym events_are)
        (ap length (p_is ∙ sym events_are)) refl

    pub goes_landed : Goes job x (record x { events = p ++ m; flushed = length p; log_end = end }) a b
    goes_landed = subst (λ (y : CoreState). Goes job x y a b) (sym flushed_core)
        (flush_goes job x (events_bytes buffer) a b lawful_a lawful_b stands.begun (fits_at wrote.fits) spelled wrote.adds end wrote.lands wrote.started)

    pub for_landed : IsFor job (record x { events = p ++ m; flushed = length p; log_end = end }) b
    for_landed = subst (λ (y : CoreState). IsFor job y b) (sym flushed_core)
        (flush_for job x (events_bytes buffer) a b lawful_a lawful_b stands.begun (fits_at wrote.fits) spelled wrote.adds end wrote.lands wrote.started)

    pub right_landed : (files : Files) → IsRight job files x a → IsRight job files (record x { events = p ++ m; flushed = length p; log_end = end }) b
    right_landed files right = subst (λ (y : CoreState). IsRight job files y b) (sym flushed_core)
        (flush_right job x (events_bytes buffer) a b lawful_a lawful_b stands.begun (fits_at wrote.fits) spelled wrote.adds end wrote.lands wrote.started files right)

    pub soundly_landed : (files : Files) → IsRight job files x a → GoesSoundly job files x (record x { events = p ++ m; flushed = length p; log_end = end }) a b
    soundly_landed files right = subst (λ (y : CoreState). GoesSoundly job files x y a b) (sym flushed_core)
        (flush_soundly job x (events_bytes buffer) a b lawful_a lawful_b stands.begun (fits_at wrote.fits) spelled wrote.adds end wrote.lands wrote.started files right)
