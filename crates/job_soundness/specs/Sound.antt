-- Which holdings are sound for a job.
use Rattle.std.specs.Prelude.{◌≡◌, ◌≢◌, ◌⊎◌, ℕ, ◌<◌, ◌≤◌, false, List, length, take, Some, AllPairs, Contains}
use Rattle.estate.specs.Holding.{Holding, StoredPart}
use Rattle.estate.specs.World.{World}
use Rattle.estate.specs.declared.commit.Commit.{Commit}
use Rattle.estate.specs.declared.part_name.PartName.{PartName}
use Rattle.graph_model.specs.declared.event.Event.{Event}
use Rattle.graph_model.specs.Legal.{IsDone}
use Rattle.graph_model.specs.States.{State, started}
use Rattle.job_soundness.specs.Jobs.{Files, HasCommit, HasNone, Job}
use Rattle.job_soundness.specs.Logs.{SaysEvents}
use Rattle.job_soundness.specs.Starts.{AreLegal, graph_events, state_of}
use Rattle.job_soundness.specs.Truth.{AreTrue, WasPut}

-- ---- events beside parts and commits

-- an epoch from 1 to the last that was opened
pub record IsOpened (state : State) (name : PartName) : Type 0 where
  pub first : 0 < name.epoch
  pub last : name.epoch ≤ state.epoch

-- the job's commit may stand: each node is in a complete vertex, within the limit of troubles
pub record MayHaveCommit (job : Job) (state : State) : Type 0 where
  pub done : IsDone job.given state
  pub troubles : state.troubles ≤ job.given.settings.restart_limit

-- no commit stands under the job's id, or the job's, where it may
abbrev pub CommitsOnce : Job → Files → State → List Commit → Type 0
CommitsOnce job files state commits =
    HasNone job commits ⊎ (HasCommit job files commits × MayHaveCommit job state)

-- these events may stand in the log of the job's estate, beside these parts and commits
pub record AreRight (job : Job) (files : Files) (events : List Event) (ever : List StoredPart)
    (commits : List Commit) : Type 0 where
  pub legal : AreLegal job events
  pub are_true : AreTrue job files ever started (graph_events events)
  pub distinct : AllPairs (λ p q. p.name ≢ q.name) ever
  pub epochs : (part : StoredPart) → Contains ever part → IsOpened (state_of job events) part.name
  pub once : CommitsOnce job files (state_of job events) commits
  pub ended : (state_of job events).ended ≡ Some false → HasCommit job files commits

-- from one state to the next what a commit of the job needs is kept, and the job ends finished
-- only behind one
pub record IsFit (job : Job) (files : Files) (commits : List Commit) (old new : State)
    : Type 0 where
  pub keeps : HasCommit job files commits → MayHaveCommit job old → MayHaveCommit job new
  pub ended : new.ended ≡ Some false → HasCommit job files commits

-- ---- holdings

-- the holding's log says these events, they are right beside what it holds, and what is held was
-- put
pub record Says (job : Job) (files : Files) (events : List Event) (holding : Holding)
    : Type 0 where
  pub log : SaysEvents holding.log events
  pub right : AreRight job files events holding.ever holding.commits
  pub held : (name : PartName) → Contains holding.held name → WasPut holding.ever name

abbrev pub IsSound : Job → Files → Holding → Type 0
IsSound job files holding = (events : List Event) × Says job files events holding

-- it is sound, and its events are so many of these or more, from the first on
pub record IsWithin (job : Job) (files : Files) (least : ℕ) (events : List Event)
    (holding : Holding) : Type 0 where
  pub count : ℕ
  pub no_fewer : least ≤ count
  pub no_more : count ≤ length events
  pub says : Says job files (take count events) holding

-- what a crash now leaves is sound, with events that one list begins with
pub record IsSoundWorld (job : Job) (files : Files) (world : World) : Type 0 where
  pub events : List Event
  pub images : (image : Holding) → world.images world.now image
      → IsWithin job files 0 events image
