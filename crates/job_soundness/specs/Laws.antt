-- The laws of logs, of parts and of what sound winners have.
use Rattle.std.specs.Prelude.{◌≡◌, ℕ, ◌<◌, List, [], ◌∷◌, ◌++◌, length}
use Rattle.row_core.specs.Encoding.{rows_bytes, RowsFit}
use Rattle.row_core.specs.declared.value.Value.{Value}
use Rattle.event_log.specs.Blocks.{GainsBlock}
use Rattle.estate.specs.Holding.{IsFresh, StoredPart}
use Rattle.estate.specs.declared.commit.Commit.{Commit}
use Rattle.plan_model.specs.Plans.{committed_text, sink_sections}
use Rattle.graph_model.specs.declared.event.Event.{Event}
use Rattle.graph_model.specs.Legal.{IsDone, IsLegal, after}
use Rattle.graph_model.specs.States.{State}
use Rattle.event_codec.specs.Spelling.{events_bytes, EventsFit}
use Rattle.plan_composition.specs.Results.{sink_bags}
use Rattle.job_soundness.specs.Decoded.{rows_in}
use Rattle.job_soundness.specs.Jobs.{Files, HasNone, IsOver, Job, the_commit}
use Rattle.job_soundness.specs.Logs.{SaysEvents}
use Rattle.job_soundness.specs.Sound.{AreRight, IsFit, IsOpened, MayHaveCommit}
use Rattle.job_soundness.specs.Starts.{StartsJob, state_of}
use Rattle.job_soundness.specs.Truth.{AreTrue, IsTrueEvent, part_rows}

-- a log says one list of events at most
abbrev pub OneListLaw : Type 0
OneListLaw = (log : List ℕ) (a b : List Event) → SaysEvents log a → SaysEvents log b → a ≡ b

-- a log with one block more says the old events and those of the block
abbrev pub BlockLaw : Type 0
BlockLaw = (body old new : List ℕ) (events more : List Event) → GainsBlock body old new
    → EventsFit more → body ≡ events_bytes more → SaysEvents old events
    → SaysEvents new (events ++ more)

-- what rows are spelled by is read as those rows
abbrev pub RowsLaw : Type 0
RowsLaw = (rows : List (List Value)) → RowsFit rows → rows_in (rows_bytes rows) ≡ rows

-- where a part with a new name is put, what was true stays true
abbrev pub PutLaw : Type 0
PutLaw = (job : Job) (files : Files) (ever : List StoredPart) (part : StoredPart) (state : State)
    (events : List Event) → IsFresh part.name ever → 0 < part.name.epoch
    → AreTrue job files ever state events → AreTrue job files (ever ++ part ∷ []) state events

-- one legal event more that is true and fits
abbrev pub EventLaw : Type 0
EventLaw = (job : Job) (files : Files) (events : List Event) (event : Event)
    (ever : List StoredPart) (commits : List Commit) → StartsJob job events
    → AreRight job files events ever commits
    → let state = state_of job events in
    IsLegal job.given state event → IsTrueEvent job files ever state event
    → IsFit job files commits state (after job.given state event)
    → AreRight job files (events ++ event ∷ []) ever commits

-- one part more, of a new name and of an epoch that was opened
abbrev pub PartLaw : Type 0
PartLaw = (job : Job) (files : Files) (events : List Event) (ever : List StoredPart)
    (commits : List Commit) (part : StoredPart) → AreRight job files events ever commits
    → IsFresh part.name ever → IsOpened (state_of job events) part.name
    → AreRight job files events (ever ++ part ∷ []) commits

-- the job's commit, where none stands and the job is complete
abbrev pub CommitLaw : Type 0
CommitLaw = (job : Job) (files : Files) (events : List Event) (ever : List StoredPart)
    (commits : List Commit) → AreRight job files events ever commits → HasNone job commits
    → MayHaveCommit job (state_of job events)
    → AreRight job files events ever (commits ++ the_commit job files ∷ [])

-- where each node is in a complete vertex, the text of the sinks' winners is the one that the plan
-- commits
abbrev pub SinksLaw : Type 0
SinksLaw = (job : Job) (files : Files) (events : List Event) (ever : List StoredPart)
    (commits : List Commit) → IsOver job files → AreRight job files events ever commits
    → let state = state_of job events in
    IsDone job.given state
    → sink_sections job.given.nodes
    (sink_bags (part_rows ever) state.vertices (length job.given.nodes))
    ≡ committed_text files job.given.nodes
