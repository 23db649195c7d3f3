-- What is shown of a log, and why nothing is.
use Rattle.std.specs.Prelude.{◌≡◌, ◌⊎◌, ⊤, ℕ, ◌<◌, ◌≤◌, IsTrue, List, length}
use Rattle.estate.specs.World.{World}
use Rattle.event_log.specs.Blocks.{Breaks, Reads}
use Rattle.event_log.specs.declared.log.TheConstants.{LOG_LIMIT}
use Rattle.event_log.specs.declared.log_error.LogError.{LogError}
use Rattle.event_log.specs.declared.log_error.LogError.TheVariants as unread
use Rattle.event_text.specs.Lines.{event_lines}
use Rattle.graph_model.specs.declared.event.Event.{Event}
use Rattle.job_events.specs.Replays.{FaultAt, IsBroken, IsReplay}
use Rattle.job_events.specs.declared.log_state.LogState.{LogState}
use Rattle.job_events.specs.declared.replay_error.ReplayError.{ReplayError}
use Rattle.job_events.specs.declared.replay_error.ReplayError.TheVariants as replay
use Rattle.batch_commands.specs.Refusals.{replay_refusal}
use Rattle.batch_commands.specs.declared.log_refusal.LogRefusal.{LogRefusal}
use Rattle.batch_commands.specs.declared.log_refusal.LogRefusal.TheVariants.{Fault, TooLarge, BadLog, NoMemory}
use Rattle.batch_commands.specs.declared.quantity.Quantity.{Quantity}
use Rattle.batch_commands.specs.declared.quantity.Quantity.TheVariants.{LogBytes}

-- the first place at which something is wrong with a log that is no longer than it may be: in its
-- whole blocks, or at a broken one behind them
pub record IsBadLog (log : List ℕ) (block event : ℕ) : Type 0 where
  pub blocks : List (List ℕ)
  pub short : length log ≤ LOG_LIMIT
  pub wrong : (Reads log blocks × FaultAt blocks block event)
      ⊎ (Breaks log blocks × IsBroken blocks (replay.BadLog block event))

-- nothing is wrong with a log
abbrev pub IsGoodLog : List ℕ → Type 0
IsGoodLog log = (block event : ℕ) → ¬ (IsBadLog log block event)

-- a log is longer than it may be, by this length
abbrev pub IsTooLong : List ℕ → Quantity → ℕ → Type 0
IsTooLong log what number =
    (what ≡ LogBytes) × (number ≡ length log) × (LOG_LIMIT < length log)

-- blocks have no fault, and this is a line for each of their events
pub record ShowsBlocks (blocks : List (List ℕ)) (text : List ℕ) : Type 0 where
  pub events : List Event
  pub state : LogState
  pub replays : IsReplay blocks events state
  pub faultless : (block event : ℕ) → ¬ (FaultAt blocks block event)
  pub lines : text ≡ event_lines events

-- so it is of the blocks of a log that is no longer than it may be
pub record ShowsEvents (log text : List ℕ) : Type 0 where
  pub blocks : List (List ℕ)
  pub short : length log ≤ LOG_LIMIT
  pub reads : Reads log blocks
  pub shows : ShowsBlocks blocks text

-- and of the estate's log
abbrev pub ShowsLog : World → List ℕ → Type 0
ShowsLog estate text = IsTrue estate.told → ShowsEvents estate.holding.log text

-- why whole blocks are not shown
abbrev pub IsBlockFault : List (List ℕ) → LogRefusal → Type 0
IsBlockFault blocks (BadLog block event) = FaultAt blocks block event
IsBlockFault blocks NoMemory = ⊤
IsBlockFault blocks refused = ⊥

-- the refusal of a log whose blocks are not read: of a broken one, for the first fault
abbrev pub IsUnread : LogError → LogRefusal → Type 0
IsUnread unread.Fault refused = refused ≡ Fault
IsUnread (unread.TooLarge asked) refused = refused ≡ TooLarge asked
IsUnread (unread.BadBlock block before) refused =
    (error : ReplayError) × IsBroken before error × (refused ≡ replay_refusal error)
IsUnread unread.NoMemory refused = refused ≡ NoMemory
