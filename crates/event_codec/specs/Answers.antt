-- What decoding a block answers.
use Rattle.std.specs.Prelude.{◌≡◌, ⊤, ℕ, ◌<◌, List, ◌++◌, length, Result, Ok, Err}
use Rattle.row_core.specs.Decoding.{NoneBegins}
use Rattle.graph_model.specs.declared.event.Event.{Event}
use Rattle.event_codec.specs.declared.event_error.EventError.{EventError}
use Rattle.event_codec.specs.declared.event_error.EventError.TheVariants.{Bad, NoMemory}
use Rattle.event_codec.specs.Spelling.{event_bytes, events_bytes, EventFits, EventsFit}

-- the bytes spell these events, more bytes follow, and they begin with no event's spelling
pub record StopsAfter (bytes : List ℕ) (events : List Event) : Type 0 where
  pub fit : EventsFit events
  pub rest : List ℕ
  pub front : bytes ≡ events_bytes events ++ rest
  pub more : 0 < length rest
  pub none : NoneBegins event_bytes EventFits rest

-- why no events are decoded
abbrev pub IsCause : List ℕ → EventError → Type 0
IsCause bytes (Bad at before) = StopsAfter bytes before × (at ≡ length before)
IsCause bytes NoMemory = ⊤

-- these events, unless memory runs out
abbrev pub GivesEvents : Result (List Event) EventError → List Event → Type 0
GivesEvents (Ok found) events = found ≡ events
GivesEvents (Err NoMemory) events = ⊤
GivesEvents (Err (Bad at before)) events = ⊥

-- a refusal behind these events, unless memory runs out
abbrev pub GivesBad : Result (List Event) EventError → List Event → Type 0
GivesBad (Ok found) events = ⊥
GivesBad (Err NoMemory) events = ⊤
GivesBad (Err (Bad at before)) events = (before ≡ events) × (at ≡ length events)
