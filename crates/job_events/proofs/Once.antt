-- Blocks come to one thing: a replay, or a first fault.
use Rattle.std.proofs.Common.{◌≡◌, ◌⊎◌, ℕ, zero, suc, ◌+◌, ◌<◌, List, [], ◌∷◌, ◌++◌, length, get_or, take, Result, Ok, Err, IfOk, IfErr, refl, sym, ap, subst, ◌∙◌, append_assoc, arith, inl, inr}
use Rattle.std.proofs.lemmas.List.{append-nil, get_or-take, length-append, length-take-le, take-take}
use Rattle.std.proofs.lemmas.Bool.{cases_lt}
use Rattle.event_codec.proofs.Laws.{event_free, events_same}
use Rattle.event_codec.specs.Spelling.{event_bytes, events_bytes, EventFits, EventsFit}
use Rattle.event_graph.specs.Graphs.{JobState}
use Rattle.exec_graph.specs.Graphs.{GraphState}
use Rattle.graph_model.specs.declared.event.Event.{Event}
use Rattle.graph_model.specs.declared.event.Event.TheVariants.{Opened}
use Rattle.graph_model.specs.Legal.{after}
use Rattle.graph_model.specs.States.{started}
use Rattle.job_json.specs.declared.job.Job.{Job}
use Rattle.row_core.proofs.Laws.{lists_front}
use Rattle.job_events.specs.Logs.{IsAccepted, IsNext, IsStarted, LeadsTo, fresh_job, given_of}
use Rattle.job_events.specs.Replays.{AreSpelled, FaultAt, GivesFault, GivesReplay, IsFault, IsReplay, Spells, StopsAt}
use Rattle.job_events.specs.declared.log_state.LogState.{LogState}
use Rattle.job_events.specs.declared.log_state.LogState.TheVariants.{Empty, Awaiting, Jobless, Running}
use Rattle.job_events.specs.declared.replayed_log.ReplayedLog.{ReplayedLog}
use Rattle.job_events.specs.declared.replay_error.ReplayError.{ReplayError}
use Rattle.job_events.specs.declared.replay_error.ReplayError.TheVariants.{BadLog, NoMemory}
use Rattle.job_events.proofs.Coming.{IsReopened, IsRunning, IsUnstarted, advanced_is, first_is, graph_is, reopened_is, started_is}
use Rattle.job_events.proofs.Starting.{accepted_once}

-- ---- one state comes of an event

running_once : (last : ℕ) (text : List ℕ) (files : List (List ℕ)) (g h : GraphState) → IsStarted last text files g → IsStarted last text files h → g ≡ h
running_once last text files g h first other =
    let same : first.job ≡ other.job = accepted_once text first.job other.job first.accepted other.accepted in
    let opened : Job → JobState = λ job. record (fresh_job job files) { state = after (given_of job files) started (Opened last) } in
    graph_is g h (first.opened.next ∙ ap opened same ∙ sym other.opened.next) (first.attempts ∙ sym other.attempts)

started_once : (last : ℕ) (event : Event) (a b : LogState) → IsReopened last event a ⊎ (IsUnstarted last event a ⊎ IsRunning last event a) → IsReopened last event b ⊎ (IsUnstarted last event b ⊎ IsRunning last event b) → a ≡ b
started_once last event a b (inl x) (inl y) = let same : x.epoch ≡ y.epoch = cc (x.opened, y.opened) in x.is ∙ ap Jobless same ∙ sym y.is
started_once last event a b (inl x) (inr (inl y)) = absurd (cc (x.opened, y.started))
started_once last event a b (inl x) (inr (inr y)) = absurd (cc (x.opened, y.started))
started_once last event a b (inr (inl x)) (inl y) = absurd (cc (x.started, y.opened))
started_once last event a b (inr (inr x)) (inl y) = absurd (cc (x.started, y.opened))
started_once last event a b (inr (inl x)) (inr (inl y)) = x.is ∙ sym y.is
started_once last event a b (inr (inl x)) (inr (inr y)) =
    let same : y.text ≡ x.text = cc (x.started, y.started) in
    absurd (x.refused y.job.job (subst (λ (t : List ℕ). IsAccepted t y.job.job) same y.job.accepted))
started_once last event a b (inr (inr x)) (inr (inl y)) =
    let same : x.text ≡ y.text = cc (x.started, y.started) in
    absurd (y.refused x.job.job (subst (λ (t : List ℕ). IsAccepted t x.job.job) same x.job.accepted))
started_once last event a b (inr (inr x)) (inr (inr y)) =
    let texts : y.text ≡ x.text = cc (x.started, y.started) in
    let files : y.files ≡ x.files = cc (x.started, y.started) in
    let of_text = subst (λ (t : List ℕ). IsStarted last t y.files y.graph) texts y.job in
    let of_files = subst (λ (f : List (List ℕ)). IsStarted last x.text f y.graph) files of_text in
    x.is ∙ ap Running (running_once last x.text x.files x.graph y.graph x.job of_files) ∙ sym y.is

next_once : (old : LogState) (event : Event) (a b : LogState) → IsNext old event a → IsNext old event b → a ≡ b
next_once Empty event a b first other =
    let x = first_is event a first in
    let y = first_is event b other in
    let same : x.epoch ≡ y.epoch = cc (x.opened, y.opened) in
    x.is ∙ ap Awaiting same ∙ sym y.is
next_once (Awaiting last) event a b first other = started_once last event a b (started_is last event a first) (started_is last event b other)
next_once (Jobless last) event a b first other =
    let x = reopened_is last event a first in
    let y = reopened_is last event b other in
    let same : x.epoch ≡ y.epoch = cc (x.opened, y.opened) in
    x.is ∙ ap Jobless same ∙ sym y.is
next_once (Running graph) event a b first other =
    let x = advanced_is graph event a first in
    let y = advanced_is graph event b other in
    x.is ∙ ap Running (graph_is x.graph y.graph (x.takes.next ∙ sym y.takes.next) (x.attempts ∙ sym y.attempts)) ∙ sym y.is

leads_once : (events : List Event) (a b c : LogState) → LeadsTo a events b → LeadsTo a events c → b ≡ c
leads_once [] a b c first other = first ∙ sym other
leads_once (event ∷ events) a b c (x, is, later) (y, is', later') =
    leads_once events y b c (subst (λ (s : LogState). LeadsTo s events b) (next_once a event x y is is') later) later'

-- where events lead, and where the rest of them does
record Parts (a : LogState) (first rest : List Event) (c : LogState) : Type 0 where
  middle : LogState
  front : LeadsTo a first middle
  back : LeadsTo middle rest c

leads_parts : (first rest : List Event) (a c : LogState) → LeadsTo a (first ++ rest) c → Parts a first rest c
leads_parts [] rest a c leads = record { middle = a; front = refl; back = leads }
leads_parts (event ∷ first) rest a c (next, is, later) =
    let parts = leads_parts first rest next c later in
    record { middle = parts.middle; front = (next, is, parts.front); back = parts.back }

-- ---- a block that stops is no list of legal events

-- behind the stop no legal event comes
stops_there : (state new : LogState) (block : List ℕ) (event : ℕ) (stop : StopsAt state block event) (more : List Event) (rest : List ℕ) → EventsFit more → stop.rest ≡ events_bytes more ++ rest → LeadsTo state (stop.events ++ more) new → more ≡ []
stops_there state new block event stop [] rest fit front leads = refl
stops_there state new block event stop (next ∷ more) rest fit front leads =
    let parts = leads_parts stop.events (next ∷ more) state new leads in
    let same = leads_once stop.events state parts.middle stop.state parts.front stop.leads in
    let back = parts.back in
    let is = subst (λ (s : LogState). IsNext s next back.0) same back.1 in
    absurd (stop.none next (events_bytes more ++ rest) (record { fits = fit.0; front = front ∙ append_assoc (event_bytes next) (events_bytes more) rest }) back.0 is)

not_whole : (state new : LogState) (block : List ℕ) (event : ℕ) (here : List Event) → StopsAt state block event → Spells block here → LeadsTo state here new → ⊥
not_whole state new block event here stop spells leads =
    let more = stop.more in
    elim (lists_front event_bytes EventFits (record { front = event_free.front }) stop.events here stop.rest [] stop.front.fits spells.fit (sym stop.front.front ∙ spells.is ∙ sym (append-nil (events_bytes here)))) [
      | inl longer ↦
          let none = stops_there state new block event stop longer.more [] longer.fit longer.rest (subst (λ (es : List Event). LeadsTo state es new) longer.list leads) in
          let nothing : length stop.rest ≡ 0 = ap length (longer.rest ∙ ap (λ (es : List Event). events_bytes es ++ []) none) in
          omega arith
      | inr longer ↦
          let nothing : 0 ≡ length (events_bytes longer.more) + length stop.rest = ap length longer.rest ∙ length-append (events_bytes longer.more) stop.rest in
          omega arith
    ]

-- ---- blocks

spelled_once : (blocks : List (List ℕ)) (a b : List Event) → AreSpelled blocks a → AreSpelled blocks b → a ≡ b
spelled_once [] a b first other = first ∙ sym other
spelled_once (block ∷ blocks) a b (x, more, is, rest, whole) (y, more', is', rest', whole') =
    let one = events_same x y is.fit is'.fit (sym is.is ∙ is'.is) in
    let others = spelled_once blocks more more' rest rest' in
    whole ∙ ap (λ (es : List Event). es ++ more) one ∙ ap (λ (es : List Event). y ++ es) others ∙ sym whole'

-- the events of the blocks before one, of this one and of those behind it
record Block (blocks : List (List ℕ)) (n : ℕ) (events : List Event) : Type 0 where
  first : List Event
  here : List Event
  rest : List Event
  before : AreSpelled (take n blocks) first
  spells : Spells (get_or blocks n []) here
  parts : events ≡ first ++ (here ++ rest)

spelled_block : (blocks : List (List ℕ)) (n : ℕ) (events : List Event) → n < length blocks → AreSpelled blocks events → Block blocks n events
spelled_block [] n events lt spelled = absurd (omega arith)
spelled_block (block ∷ blocks) zero events lt (x, more, is, spelled, whole) =
    record { first = []; here = x; rest = more; before = refl; spells = is; parts = whole }
spelled_block (block ∷ blocks) (suc n) events lt (x, more, is, spelled, whole) =
    let found = spelled_block blocks n more (omega arith) spelled in
    record {
      first = x ++ found.first;
      here = found.here;
      rest = found.rest;
      before = (x, found.first, is, found.before, refl);
      spells = found.spells;
      parts = whole ∙ ap (λ (es : List Event). x ++ es) found.parts ∙ sym (append_assoc x found.first (found.here ++ found.rest));
    }

-- blocks that are without fault have none
pub no_fault : (blocks : List (List ℕ)) (block event : ℕ) (events : List Event) (state : LogState) → FaultAt blocks block event → IsReplay blocks events state → ⊥
no_fault blocks block event events state fault whole =
    let found = spelled_block blocks block events fault.within whole.spelled in
    let parts = leads_parts found.first (found.here ++ found.rest) Empty state (subst (λ (es : List Event). LeadsTo Empty es state) found.parts whole.leads) in
    let same = spelled_once (take block blocks) found.first fault.before found.before fault.whole.spelled in
    let reached = leads_once fault.before Empty parts.middle fault.state (subst (λ (es : List Event). LeadsTo Empty es parts.middle) same parts.front) fault.whole.leads in
    let on = leads_parts found.here found.rest parts.middle state parts.back in
    not_whole fault.state on.middle (get_or blocks block []) event found.here fault.stops found.spells (subst (λ (s : LogState). LeadsTo s found.here on.middle) reached on.front)

state_once : (blocks : List (List ℕ)) (events others : List Event) (state other : LogState) → IsReplay blocks events state → IsReplay blocks others other → state ≡ other
state_once blocks events others state other whole again =
    let same = spelled_once blocks events others whole.spelled again.spelled in
    leads_once others Empty state other (subst (λ (es : List Event). LeadsTo Empty es state) same whole.leads) again.leads

-- a block stops at one place
stop_once : (state : LogState) (block : List ℕ) (a b : ℕ) → StopsAt state block a → StopsAt state block b → a ≡ b
stop_once state block a b stop other =
    elim (lists_front event_bytes EventFits (record { front = event_free.front }) stop.events other.events stop.rest other.rest stop.front.fits other.front.fits (sym stop.front.front ∙ other.front.front)) [
      | inl longer ↦
          let none = stops_there state other.state block a stop longer.more other.rest longer.fit longer.rest (subst (λ (es : List Event). LeadsTo state es other.state) longer.list other.leads) in
          stop.number ∙ ap length (sym (append-nil stop.events) ∙ ap (λ (es : List Event). stop.events ++ es) (sym none) ∙ sym longer.list) ∙ sym other.number
      | inr longer ↦
          let none = stops_there state stop.state block b other longer.more stop.rest longer.fit longer.rest (subst (λ (es : List Event). LeadsTo state es stop.state) longer.list stop.leads) in
          stop.number ∙ ap length (longer.list ∙ ap (λ (es : List Event). other.events ++ es) none ∙ append-nil other.events) ∙ sym other.number
    ]

-- no fault stands before another
none_before : (blocks : List (List ℕ)) (block event later at : ℕ) → FaultAt blocks block event → FaultAt blocks later at → block < later → ⊥
none_before blocks block event later at fault other lt =
    let fronts : take block (take later blocks) ≡ take block blocks = take-take block later blocks (omega arith) in
    let bodies : get_or (take later blocks) block [] ≡ get_or blocks block [] = get_or-take later blocks block [] lt in
    let within = other.within in
    let here : FaultAt (take later blocks) block event = record {
      within = omega (arith, length-take-le later blocks (omega arith));
      before = fault.before;
      state = fault.state;
      whole = subst (λ (bs : List (List ℕ)). IsReplay bs fault.before fault.state) (sym fronts) fault.whole;
      stops = subst (λ (b : List ℕ). StopsAt fault.state b event) (sym bodies) fault.stops;
    } in
    no_fault (take later blocks) block event other.before other.state here other.whole

same_block : (blocks : List (List ℕ)) (a b event at : ℕ) → a ≡ b → FaultAt blocks a event → FaultAt blocks b at → event ≡ at
same_block blocks a b event at same fault other =
    let moved = subst (λ n. FaultAt blocks n event) same fault in
    let states = state_once (take b blocks) moved.before other.before moved.state other.state moved.whole other.whole in
    stop_once other.state (get_or blocks b []) event at (subst (λ (s : LogState). StopsAt s (get_or blocks b []) event) states moved.stops) other.stops

fault_once : (blocks : List (List ℕ)) (a b event at : ℕ) → FaultAt blocks a event → FaultAt blocks b at → (a ≡ b) × (event ≡ at)
fault_once blocks a b event at fault other =
    elim (cases_lt a b) [
      | inl lt ↦ absurd (none_before blocks a event b at fault other lt)
      | inr le ↦ elim (cases_lt b a) [
        | inl lt ↦ absurd (none_before blocks b at a event other fault lt)
        | inr ge ↦ let same : a ≡ b = omega arith in (same, same_block blocks a b event at same fault other)
      ]
    ]

pub replays_once : (blocks : List (List ℕ)) (answer : Result ReplayedLog ReplayError) → IfOk answer (λ replay. IsReplay blocks replay.events replay.state) → IfErr answer (IsFault blocks)
    → (events : List Event) (state : LogState) → IsReplay blocks events state → GivesReplay answer events state
replays_once blocks (Ok replay) ok err events state whole =
    let same = spelled_once blocks replay.events events ok.spelled whole.spelled in
    (same, leads_once events Empty replay.state state (subst (λ (es : List Event). LeadsTo Empty es replay.state) same ok.leads) whole.leads)
replays_once blocks (Err NoMemory) ok err events state whole = tt
replays_once blocks (Err (BadLog block event)) ok err events state whole = no_fault blocks block event events state err whole

pub fault_answers : (blocks : List (List ℕ)) (answer : Result ReplayedLog ReplayError) → IfOk answer (λ replay. IsReplay blocks replay.events replay.state) → IfErr answer (IsFault blocks)
    → (block event : ℕ) → FaultAt blocks block event → GivesFault answer block event
fault_answers blocks (Ok replay) ok err block event fault = no_fault blocks block event replay.events replay.state fault ok
fault_answers blocks (Err NoMemory) ok err block event fault = tt
fault_answers blocks (Err (BadLog at place)) ok err block event fault = fault_once blocks at block place event err fault
