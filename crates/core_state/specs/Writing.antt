-- How a block of events is written.
use Rattle.std.specs.Prelude.{◌≡◌, ◌⊎◌, ⊤, ℕ, ◌+◌, ◌<◌, ◌≤◌, List, length}
use Rattle.estate.specs.Changes.{Leads, LogRose}
use Rattle.estate.specs.World.{World}
use Rattle.event_codec.specs.Spelling.{EventsFit, events_bytes}
use Rattle.event_log.specs.Blocks.{AddsBlock, KeepsBlocks, LandsBehind}
use Rattle.event_log.specs.Started.{IsStarted}
use Rattle.event_log.specs.declared.log.TheConstants.{LOG_LIMIT}
use Rattle.event_log.specs.declared.log_error.LogError.{LogError}
use Rattle.event_log.specs.declared.log_error.LogError.TheVariants.{Fault, TooLarge, BadBlock, NoMemory}
use Rattle.graph_model.specs.declared.event.Event.{Event}

-- nothing is added, or the block of these events
abbrev pub AddsEvents : List Event → World → World → Type 0
AddsEvents events a b =
    Leads KeepsBlocks a b ⊎ (EventsFit events × Leads (AddsBlock (events_bytes events)) a b)

-- how long a log is with the block of these events, whose closed gate stood here before
abbrev pub length_with : List Event → ℕ → ℕ
length_with events end = end + 10 + length (events_bytes events)

-- the block of these events is added, and each crash from now on leaves it
pub record Wrote (events : List Event) (before behind : ℕ) (a b : World) : Type 0 where
  pub fits : EventsFit events
  pub adds : Leads (AddsBlock (events_bytes events)) a b
  pub lands : LandsBehind (events_bytes events) a b
  pub started : IsStarted behind b
  pub within : length_with events before ≤ LOG_LIMIT

-- why no block was added, of the causes that a flush can meet
abbrev pub WhyUnflushed : List Event → ℕ → World → World → LogError → Type 0
WhyUnflushed events end a b Fault = LogRose a b
WhyUnflushed events end a b (TooLarge asked) =
    (asked ≡ length_with events end) × (LOG_LIMIT < asked)
WhyUnflushed events end a b (BadBlock block before) = ⊥
WhyUnflushed events end a b NoMemory = ⊤
