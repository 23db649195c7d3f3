-- What the blocks of a log say, up to their first fault.
use Rattle.std.specs.Prelude.{◌≡◌, ◌⊎◌, ⊤, ℕ, ◌<◌, List, [], ◌∷◌, ◌++◌, length, get_or, take, Result, Ok, Err}
use Rattle.event_codec.specs.Spelling.{event_bytes, events_bytes, EventFits, EventsFit}
use Rattle.graph_model.specs.declared.event.Event.{Event}
use Rattle.row_core.specs.Decoding.{Begins}
use Rattle.job_events.specs.Logs.{HasNone, IsNext, LeadsTo}
use Rattle.job_events.specs.declared.log_state.LogState.{LogState}
use Rattle.job_events.specs.declared.log_state.LogState.TheVariants.{Empty}
use Rattle.job_events.specs.declared.replayed_log.ReplayedLog.{ReplayedLog}
use Rattle.job_events.specs.declared.replay_error.ReplayError.{ReplayError}
use Rattle.job_events.specs.declared.replay_error.ReplayError.TheVariants.{BadLog, NoMemory}

-- a block spells these events, all of its bytes
pub record Spells (block : List ℕ) (events : List Event) : Type 0 where
  pub fit : EventsFit events
  pub is : block ≡ events_bytes events

-- so do blocks, one after another
abbrev pub AreSpelled : List (List ℕ) → List Event → Type 0
AreSpelled [] events = events ≡ []
AreSpelled (block ∷ blocks) events =
    (first rest : List Event) × Spells block first × AreSpelled blocks rest
    × (events ≡ first ++ rest)

-- the blocks spell these events, which lead a new log to this state
pub record IsReplay (blocks : List (List ℕ)) (events : List Event)
    (state : LogState) : Type 0 where
  pub spelled : AreSpelled blocks events
  pub leads : LeadsTo Empty events state

-- these events and this state, unless memory runs out
abbrev pub GivesReplay : Result ReplayedLog ReplayError → List Event → LogState → Type 0
GivesReplay (Ok replay) events state = (replay.events ≡ events) × (replay.state ≡ state)
GivesReplay (Err NoMemory) events state = ⊤
GivesReplay (Err (BadLog block event)) events state = ⊥

-- ---- faults

-- after so many legal events the block goes on with none
pub record StopsAt (old : LogState) (block : List ℕ) (event : ℕ) : Type 0 where
  pub events : List Event
  pub number : event ≡ length events
  pub rest : List ℕ
  pub front : Begins events_bytes EventsFit block events rest
  pub more : 0 < length rest
  pub state : LogState
  pub leads : LeadsTo old events state
  pub none : (next : Event) (after : List ℕ) → Begins event_bytes EventFits rest next after
      → HasNone (IsNext state next)

-- the blocks before this one spell legal events, and this one stops at this event
pub record FaultAt (blocks : List (List ℕ)) (block event : ℕ) : Type 0 where
  pub within : block < length blocks
  pub before : List Event
  pub state : LogState
  pub whole : IsReplay (take block blocks) before state
  pub stops : StopsAt state (get_or blocks block []) event

-- why blocks are not replayed
abbrev pub IsFault : List (List ℕ) → ReplayError → Type 0
IsFault blocks (BadLog block event) = FaultAt blocks block event
IsFault blocks NoMemory = ⊤

-- why the block of this number is not replayed
abbrev pub IsFaultIn : ℕ → LogState → List ℕ → ReplayError → Type 0
IsFaultIn number old block (BadLog at event) = (at ≡ number) × StopsAt old block event
IsFaultIn number old block NoMemory = ⊤

-- the block behind these blocks, which are without fault
pub record EndsWhole (blocks : List (List ℕ)) (block event : ℕ) : Type 0 where
  pub events : List Event
  pub state : LogState
  pub whole : IsReplay blocks events state
  pub behind : block ≡ length blocks
  pub first : event ≡ 0

-- why a log is not replayed whose block behind these is broken
abbrev pub IsBroken : List (List ℕ) → ReplayError → Type 0
IsBroken blocks (BadLog block event) = FaultAt blocks block event ⊎ EndsWhole blocks block event
IsBroken blocks NoMemory = ⊤

-- this place, unless memory runs out
abbrev pub GivesFault : Result ReplayedLog ReplayError → ℕ → ℕ → Type 0
GivesFault (Ok replay) block event = ⊥
GivesFault (Err NoMemory) block event = ⊤
GivesFault (Err (BadLog at place)) block event = (at ≡ block) × (place ≡ event)
