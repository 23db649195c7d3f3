-- Why a job is not recovered.
use Rattle.std.specs.Prelude.{◌≡◌, ◌≢◌, ◌⊎◌, ⊤, ℕ, ◌+◌, ◌<◌, IsTrue, List, [], length, get_or, slice_get, Option, Some}
use Rattle.estate.specs.Changes.{LogRose, ShelfRose, SinkRose}
use Rattle.estate.specs.Holding.{job_under}
use Rattle.estate.specs.World.{World}
use Rattle.estate.specs.declared.part_name.PartName.{PartName}
use Rattle.event_codec.specs.Spelling.{event_bytes, events_bytes}
use Rattle.event_log.specs.Blocks.{Breaks, Reads}
use Rattle.event_log.specs.declared.log.TheConstants.{LOG_LIMIT}
use Rattle.event_log.specs.declared.log_error.LogError.{LogError}
use Rattle.event_log.specs.declared.log_error.LogError.TheVariants as log
use Rattle.exec_graph.specs.Graphs.{GraphState}
use Rattle.graph_model.specs.Closures.{IsClosure}
use Rattle.graph_model.specs.declared.event.Event.{Event}
use Rattle.graph_model.specs.declared.event.Event.TheVariants.{Reset}
use Rattle.graph_model.specs.declared.sub.Sub.{Sub}
use Rattle.job_events.specs.Replays.{FaultAt, IsBroken}
use Rattle.job_events.specs.declared.replay_error.ReplayError.{ReplayError}
use Rattle.job_events.specs.declared.replay_error.ReplayError.TheVariants as replay
use Rattle.job_soundness.specs.Jobs.{Job}
use Rattle.core_model.specs.Moves.{AreGone}
use Rattle.recover_core.specs.Differing.{ChangesAt, DiffersAt}
use Rattle.recover_core.specs.Opening.{WouldOpen}
use Rattle.recover_core.specs.Starting.{Starts}
use Rattle.recover_core.specs.declared.recover_error.RecoverError.{RecoverError}
use Rattle.recover_core.specs.declared.recover_error.RecoverError.TheVariants.{LogFault, LogTooLarge, BadLog, OtherJob, InputChanged, SinkFault, IdTaken, ShelfFault, NoMemory}

-- ---- the log

-- the first place of a log that is at fault: in its whole blocks, or its first broken one
abbrev pub IsBadAt : List ℕ → ℕ → ℕ → Type 0
IsBadAt bytes block event =
    ((blocks : List (List ℕ)) × Reads bytes blocks × FaultAt blocks block event)
    ⊎ ((before : List (List ℕ)) × Breaks bytes before × IsBroken before (replay.BadLog block event))

abbrev pub IsNotReplayed : ReplayError → RecoverError → Type 0
IsNotReplayed (replay.BadLog block event) error = error ≡ BadLog block event
IsNotReplayed replay.NoMemory error = error ≡ NoMemory

abbrev pub IsUnstarted : LogError → RecoverError → Type 0
IsUnstarted log.Fault error = error ≡ LogFault
IsUnstarted (log.TooLarge asked) error = error ≡ LogTooLarge asked
IsUnstarted (log.BadBlock block before) error =
    (fault : ReplayError) × IsBroken before fault × IsNotReplayed fault error
IsUnstarted log.NoMemory error = error ≡ NoMemory

-- why a log is not read
abbrev pub IsUnread : World → World → RecoverError → Type 0
IsUnread a b LogFault = LogRose a b
IsUnread a b (LogTooLarge asked) =
    IsTrue a.told → (asked ≡ length a.holding.log) × (LOG_LIMIT < asked)
IsUnread a b (BadLog block event) = IsTrue a.told → IsBadAt a.holding.log block event
IsUnread a b NoMemory = ⊤
IsUnread a b _ = ⊥

-- ---- whose it is

-- no job is started, or one whose text differs first at this place
abbrev pub IsOtherAt : Job → List Event → ℕ → Type 0
IsOtherAt job events at =
    (((text : List ℕ) (files : List (List ℕ)) → Starts events text files → ⊥) × (at ≡ 0))
    ⊎ ((text : List ℕ) × (files : List (List ℕ)) × Starts events text files
    × DiffersAt text job.text at)

-- the first size that is another than it was
pub record IsFirstChange (old new : List (List ℕ)) (table file : ℕ) (was now : Option ℕ)
    : Type 0 where
  pub changes : ChangesAt old new table file
  pub was_is : was ≡ slice_get (get_or old table []) file
  pub now_is : now ≡ slice_get (get_or new table []) file

abbrev pub IsChange : List (List ℕ) → List (List ℕ) → RecoverError → Type 0
IsChange old new (InputChanged table file was now) = IsFirstChange old new table file was now
IsChange old new _ = ⊥

abbrev pub IsOtherStart : Job → List Event → RecoverError → Type 0
IsOtherStart job events (OtherJob at) = IsOtherAt job events at
IsOtherStart job events (InputChanged table file was now) =
    (files : List (List ℕ)) × Starts events job.text files
    × IsFirstChange files job.given.files table file was now
IsOtherStart job events _ = ⊥

-- ---- the sink

-- why it is not known whether the job's commit stands
abbrev pub IsUnasked : Job → World → World → RecoverError → Type 0
IsUnasked job a b SinkFault = SinkRose a b
IsUnasked job a b (IdTaken other) = (other ≢ job.text)
    × (IsTrue a.told → job_under job.id a.holding.commits ≡ Some other)
IsUnasked job a b NoMemory = ⊤
IsUnasked job a b _ = ⊥

-- ---- the block

-- the log would be this long with the block of an epoch and a reset, of what is not held
pub record IsUnreset (graph : GraphState) (names : List PartName) (end asked : ℕ) : Type 0 where
  pub gone : List PartName
  pub subs : List Sub
  pub are : AreGone graph.job.state.vertices names gone
  pub closure : IsClosure graph.job.state.vertices gone subs
  pub some : subs ≢ []
  pub is : asked ≡ end + 15 + length (event_bytes (Reset gone subs))
  pub above : LOG_LIMIT < asked

abbrev pub IsTooLong : GraphState → List PartName → ℕ → RecoverError → Type 0
IsTooLong graph names end (LogTooLarge asked) = IsUnreset graph names end asked
IsTooLong graph names end NoMemory = ⊤
IsTooLong graph names end _ = ⊥

-- the log would be this long with a block of these events
pub record IsTooLarge (end : ℕ) (more : List Event) (asked : ℕ) : Type 0 where
  pub is : asked ≡ end + 10 + length (events_bytes more)
  pub above : LOG_LIMIT < asked

-- why a further epoch is not opened
abbrev pub IsUnopened : GraphState → ℕ → ℕ → World → World → RecoverError → Type 0
IsUnopened graph epoch end a b ShelfFault = ShelfRose a b
IsUnopened graph epoch end a b (LogTooLarge asked) =
    (more : List Event) × WouldOpen graph epoch b more × IsTooLarge end more asked
IsUnopened graph epoch end a b NoMemory = ⊤
IsUnopened graph epoch end a b _ = ⊥

-- why a block is not added
abbrev pub IsUnflushed : ℕ → List Event → World → World → RecoverError → Type 0
IsUnflushed end more a b LogFault = LogRose a b
IsUnflushed end more a b (LogTooLarge asked) = IsTooLarge end more asked
IsUnflushed end more a b NoMemory = ⊤
IsUnflushed end more a b _ = ⊥
