-- How the master's turns go: what is deployed next, and when a turn is over.
use Rattle.std.specs.Prelude.{◌≡◌, ◌≢◌, ◌⊎◌, ⊤, ℕ, ◌<◌, ◌≤◌, IsTrue, IsFalse, List, [], ◌∷◌, length, get_or, slice_get, filter_map, Option, Some, None, All, AllPairs}
use Rattle.std.specs.List.{list_any}
use Rattle.attempt_names.specs.Attempts.{is_of}
use Rattle.estate.specs.Readings.{Readings}
use Rattle.estate.specs.declared.part_name.PartName.{PartName}
use Rattle.graph_model.specs.Closures.{IsBefore}
use Rattle.graph_model.specs.Legal.{IsDone, IsUnfinished}
use Rattle.graph_model.specs.Reads.{reads_from}
use Rattle.graph_model.specs.States.{is_finished, sub_of}
use Rattle.graph_model.specs.declared.sub.Sub.{Sub}
use Rattle.job_soundness.specs.Jobs.{Job}
use Rattle.slot_pool.specs.Pool.{lowest_free, worker_of}
use Rattle.slot_pool.specs.declared.slot_id.SlotId.{SlotId}
use Rattle.core_model.specs.declared.step.Step.{Step}
use Rattle.core_model.specs.declared.step.Step.TheVariants.{Tick, Deploy, Reset, End}
use Rattle.core_model.specs.Cores.{CoreState, core_state}
use Rattle.core_model.specs.Moves.{Taken}
use Rattle.core_model.specs.Rules.{IsSettled}

-- ---- deploying

-- the subtask is decided and unfinished, all that it reads has winners, and no attempt of it runs
pub record IsReady (job : Job) (core : CoreState) (sub : Sub) : Type 0 where
  pub unfinished : IsUnfinished (core_state job core).vertices sub
  pub fed : let vertices = (core_state job core).vertices in
      All (λ producer. IsTrue (is_finished vertices producer)) (reads_from vertices sub)
  pub idle : IsFalse (list_any (is_of sub.vertex sub.subtask) core.attempts.running)

-- the first ready one, by vertex and then by number
pub record IsFirstReady (job : Job) (core : CoreState) (sub : Sub) : Type 0 where
  pub ready : IsReady job core sub
  pub first : (other : Sub) → IsBefore other sub → IsReady job core other → ⊥

-- the first that is wanted once more, or, where none is, the first ready one
abbrev pub IsNextToDeploy : Job → CoreState → Sub → Type 0
IsNextToDeploy job core sub =
    (slice_get core.wanted 0 ≡ Some sub)
    ⊎ ((core.wanted ≡ []) × IsFirstReady job core sub)

-- the worker has a free slot, and its block is over
pub record CanTake (core : CoreState) (worker : ℕ) : Type 0 where
  pub slot : SlotId
  pub free : lowest_free core.slots worker ≡ Some slot
  pub over : (worker_of core.slots worker).block_end ≤ core.now

-- the lowest worker that can take an attempt
pub record IsLowestFree (core : CoreState) (worker : ℕ) : Type 0 where
  pub takes : CanTake core worker
  pub lowest : (other : ℕ) → other < worker → CanTake core other → ⊥

-- no worker can take an attempt, or none is wanted or ready
abbrev pub LeavesNothing : Job → CoreState → Type 0
LeavesNothing job core =
    ((worker : ℕ) → CanTake core worker → ⊥)
    ⊎ ((core.wanted ≡ []) × ((sub : Sub) → IsReady job core sub → ⊥))

-- a deployment is of the next subtask, on the lowest free worker
abbrev pub DeploysNext : Job → CoreState → Step → Type 0
DeploysNext job core (Deploy name worker) =
    IsNextToDeploy job core (sub_of name) × IsLowestFree core worker
DeploysNext job core _ = ⊤

-- ---- turns

-- a trace begins with a reading of the clock, or is the job's end alone
abbrev pub BeginsTurn : List Step → Type 0
BeginsTurn [] = ⊤
BeginsTurn (Tick now ∷ steps) = ⊤
BeginsTurn (End failed ∷ []) = ⊤
BeginsTurn _ = ⊥

-- where a turn follows, nothing is left to be widened, made, decided or deployed, unless a reset of
-- this turn came upon a complete job
abbrev pub MayFollow : Job → Type 0 → CoreState → Step → Type 0
MayFollow job Excused core (Tick now) =
    IsSettled job.given (core_state job core) × (Excused ⊎ LeavesNothing job core)
MayFollow job Excused core _ = ⊤

-- whether such a reset stands in the turn
abbrev pub ExcusedBy : Job → Type 0 → CoreState → Step → Type 0
ExcusedBy job Excused core (Tick now) = ⊥
ExcusedBy job Excused core (Reset gone subs) =
    Excused ⊎ IsDone job.given (core_state job core)
ExcusedBy job Excused core _ = Excused

abbrev pub TurnsFollow : Job → Type 0 → List Taken → Type 0
TurnsFollow job Excused [] = ⊤
TurnsFollow job Excused (taken ∷ trace) =
    MayFollow job Excused taken.before.core taken.step
    × TurnsFollow job (ExcusedBy job Excused taken.before.core taken.step) trace

-- after the first reading of the clock
abbrev pub AreTurns : Job → List Taken → Type 0
AreTurns job [] = ⊤
AreTurns job (taken ∷ trace) = TurnsFollow job ⊥ trace

-- ---- readings and names

abbrev pub tick_of : Step → Option ℕ
tick_of (Tick now) = Some now
tick_of _ = None

abbrev pub deployed_by : Step → Option PartName
deployed_by (Deploy name worker) = Some name
deployed_by _ = None

-- the readings of the clock in a trace, and the attempts that it deployed
abbrev pub ticks_in : List Step → List ℕ
ticks_in steps = filter_map tick_of steps

abbrev pub deployed_in : List Step → List PartName
deployed_in steps = filter_map deployed_by steps

-- reading k of the trace is the clock's, where it tells its coming readings
abbrev pub FollowsClock : Readings → List Step → Type 0
FollowsClock readings steps = IsTrue readings.told
    → (k : ℕ) → k < length (ticks_in steps) → get_or (ticks_in steps) k 0 ≡ readings.at k

abbrev pub AreDistinct : List PartName → Type 0
AreDistinct names = AllPairs (λ a b. a ≢ b) names
