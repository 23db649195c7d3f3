-- Events one after another, block by block, and the first place at fault.
use Rattle.std.proofs.Common.{◌≡◌, ℕ, ◌+◌, ◌<◌, List, [], ◌∷◌, ◌++◌, length, get_or, take, refl, sym, ap, subst, ◌∙◌, append_assoc, inl, inr}
use Rattle.std.proofs.lemmas.List.{append-nil, take_more}
use Rattle.event_codec.proofs.Laws.{event_free}
use Rattle.event_codec.specs.Spelling.{event_bytes, EventFits}
use Rattle.graph_model.specs.declared.event.Event.{Event}
use Rattle.row_core.specs.Decoding.{Begins, NoneBegins}
use Rattle.job_events.specs.Logs.{HasNone, IsNext, LeadsTo}
use Rattle.job_events.specs.Replays.{AreSpelled, FaultAt, IsBroken, IsFault, IsFaultIn, IsReplay, Spells, StopsAt}
use Rattle.job_events.specs.declared.log_state.LogState.{LogState}
use Rattle.job_events.specs.declared.log_state.LogState.TheVariants.{Empty}
use Rattle.job_events.specs.declared.replay_error.ReplayError.{ReplayError}
use Rattle.job_events.specs.declared.replay_error.ReplayError.TheVariants.{BadLog, NoMemory}

-- ---- events

pub leads_on : (a b c : LogState) (events more : List Event) → LeadsTo a events b → LeadsTo b more c → LeadsTo a (events ++ more) c
leads_on a b c [] more first rest = subst (λ (s : LogState). LeadsTo s more c) first rest
leads_on a b c (event ∷ events) more (next, is, after) rest = (next, is, leads_on next b c events more after rest)

pub leads_more : (a b c : LogState) (events : List Event) (event : Event) → LeadsTo a events b → IsNext b event c → LeadsTo a (events ++ event ∷ []) c
leads_more a b c events event first is = leads_on a b c events (event ∷ []) first (c, is, refl)

-- ---- what comes next in bytes

-- nothing legal comes where no event is spelled
pub none_spelled : (state : LogState) (rest : List ℕ) → NoneBegins event_bytes EventFits rest → (next : Event) (after : List ℕ) → Begins event_bytes EventFits rest next after → HasNone (IsNext state next)
none_spelled state rest none next after begins = λ new is. none next after begins

-- nor where the event that is spelled is not legal
pub none_legal : (state : LogState) (rest : List ℕ) (event : Event) (behind : List ℕ) → Begins event_bytes EventFits rest event behind → HasNone (IsNext state event)
    → (next : Event) (after : List ℕ) → Begins event_bytes EventFits rest next after → HasNone (IsNext state next)
none_legal state rest event behind here none next after begins =
    let same = event_free.front event next behind after here.fits begins.fits (sym here.front ∙ begins.front) in
    subst (λ (e : Event). HasNone (IsNext state e)) same.0 none

-- ---- blocks

pub spelled_more : (blocks : List (List ℕ)) (block : List ℕ) (events more : List Event) → AreSpelled blocks events → Spells block more → AreSpelled (blocks ++ block ∷ []) (events ++ more)
spelled_more [] block events more nothing spells =
    (more, [], spells, refl, ap (λ (front : List Event). front ++ more) nothing ∙ sym (append-nil more))
spelled_more (other ∷ blocks) block events more (first, rest, is, spelled, whole) spells =
    (first, rest ++ more, is, spelled_more blocks block rest more spelled spells, ap (λ (front : List Event). front ++ more) whole ∙ append_assoc first rest more)

-- with one block more
pub replay_more : (blocks : List (List ℕ)) (number : ℕ) (block : List ℕ) (events more : List Event) (state new : LogState) → number < length blocks → block ≡ get_or blocks number []
    → IsReplay (take number blocks) events state → Spells block more → LeadsTo state more new → IsReplay (take (number + 1) blocks) (events ++ more) new
replay_more blocks number block events more state new lt is before spells leads =
    let behind : take (number + 1) blocks ≡ take number blocks ++ block ∷ [] = take_more blocks number [] lt ∙ ap (λ (b : List ℕ). take number blocks ++ b ∷ []) (sym is) in
    record {
      spelled = subst (λ (bs : List (List ℕ)). AreSpelled bs (events ++ more)) (sym behind) (spelled_more (take number blocks) block events more before.spelled spells);
      leads = leads_on Empty state new events more before.leads leads;
    }

pub fault_here : (blocks : List (List ℕ)) (number : ℕ) (block : List ℕ) (events : List Event) (state : LogState) (error : ReplayError) → number < length blocks → block ≡ get_or blocks number []
    → IsReplay (take number blocks) events state → IsFaultIn number state block error → IsFault blocks error
fault_here blocks number block events state (BadLog at event) lt is before (same, stops) =
    subst (λ n. FaultAt blocks n event) (sym same) (record {
      within = lt;
      before = events;
      state = state;
      whole = before;
      stops = subst (λ (b : List ℕ). StopsAt state b event) is stops;
    })
fault_here blocks number block events state NoMemory lt is before fault = tt

-- a fault within whole blocks comes before a broken one
pub broken_after : (blocks : List (List ℕ)) (error : ReplayError) → IsFault blocks error → IsBroken blocks error
broken_after blocks (BadLog block event) fault = inl fault
broken_after blocks NoMemory fault = tt

pub broken_there : (blocks : List (List ℕ)) (events : List Event) (state : LogState) → IsReplay blocks events state → IsBroken blocks (BadLog (length blocks) 0)
broken_there blocks events state whole = inr (record {
  events = events;
  state = state;
  whole = whole;
  behind = refl;
  first = refl;
})
