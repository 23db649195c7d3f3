-- What the arrival of an attempt changes.
use Rattle.std.specs.Prelude.{◌≡◌, ◌⊎◌, ℕ, ◌-◌, ◌<◌, true, IsFalse, List, [], ◌∷◌, ◌++◌, length, get_or, Some, None, Contains}
use Rattle.estate.specs.declared.part_name.PartName.{PartName}
use Rattle.graph_model.specs.Legal.{IsLegal}
use Rattle.graph_model.specs.States.{sub_of, winner_name}
use Rattle.graph_model.specs.declared.cause.Cause.TheVariants.{Gate}
use Rattle.graph_model.specs.declared.event.Event.TheVariants as event
use Rattle.graph_model.specs.declared.made_vertex.MadeVertex.{MadeVertex}
use Rattle.job_soundness.specs.Jobs.{Job}
use Rattle.core_model.specs.declared.arrival.Arrival.{Arrival}
use Rattle.core_model.specs.declared.arrival.Arrival.TheVariants.{Win, Stale, Double, Fault, Lost, NoMemory}
use Rattle.core_model.specs.Cores.{CoreState, Deployment, IsRunning, core_state, with_arrived, with_events, with_stopped}
use Rattle.core_model.specs.Slowness.{is_present}

-- the part is done: the other attempts of its subtask stop, and its time is known
abbrev pub with_win : CoreState → Deployment → List (List ℕ) → CoreState
with_win core attempt sizes =
    let stopped = with_stopped (with_arrived core attempt) (sub_of attempt.name) in
    record (with_events stopped (event.Done attempt.name attempt.inputs sizes ∷ [])) {
      times = core.times
          ++ record { name = attempt.name; time = core.now - attempt.since } ∷ [];
    }

-- done is legal: the subtask is unfinished, and the attempt read the present winners
pub record Wins (job : Job) (attempt : Deployment) (old new : CoreState) : Type 0 where
  pub sizes : List (List ℕ)
  pub legal : IsLegal job.given (core_state job old)
      (event.Done attempt.name attempt.inputs sizes)
  pub is : new ≡ with_win old attempt sizes

-- the first of the inputs that is no present winner
pub record IsFirstStale (vertices : List MadeVertex) (inputs : List PartName) (input : PartName)
    : Type 0 where
  pub place : ℕ
  pub within : place < length inputs
  pub is : get_or inputs place input ≡ input
  pub stale : IsFalse (is_present vertices input)
  pub before : (k : ℕ) → k < place → is_present vertices (get_or inputs k input) ≡ true

-- the subtask has no winner, and this is the first input that is none
pub record IsStale (job : Job) (attempt : Deployment) (input : PartName) (core : CoreState)
    : Type 0 where
  pub running : IsRunning job core
  pub unwon : winner_name (core_state job core).vertices (sub_of attempt.name) ≡ None
  pub first : IsFirstStale (core_state job core).vertices attempt.inputs input

-- the subtask has this winner
pub record IsDouble (job : Job) (attempt : Deployment) (winner : PartName) (core : CoreState)
    : Type 0 where
  pub running : IsRunning job core
  pub won : winner_name (core_state job core).vertices (sub_of attempt.name) ≡ Some winner

-- the attempt runs, and the trouble is legal
pub record Fails (job : Job) (attempt : Deployment) (code : ℕ) (old new : CoreState) : Type 0 where
  pub runs : Contains old.attempts.running attempt.name
  pub legal : IsLegal job.given (core_state job old)
      (event.Trouble (Gate attempt.name code))
  pub is : new ≡ with_events (with_arrived old attempt)
      (event.Trouble (Gate attempt.name code) ∷ [])

-- the attempt runs no more, or nothing counts any more
abbrev pub IsLate : Job → Deployment → CoreState → Type 0
IsLate job attempt core =
    (Contains core.attempts.running attempt.name → ⊥) ⊎ (IsRunning job core → ⊥)

-- another attempt of the subtask runs
pub record HasRival (attempt : Deployment) (core : CoreState) : Type 0 where
  pub rival : PartName
  pub runs : Contains core.attempts.running rival
  pub own : sub_of rival ≡ sub_of attempt.name
  pub other : rival ≡ attempt.name → ⊥

-- what each kind of arrival asks and changes, beside the slot
abbrev pub ArrivesBy : Job → Deployment → Arrival → CoreState → CoreState → Type 0
ArrivesBy job attempt Win old new = Wins job attempt old new
ArrivesBy job attempt (Stale input) old new =
    IsStale job attempt input old × (new ≡ with_arrived old attempt)
ArrivesBy job attempt (Double winner) old new =
    IsDouble job attempt winner old × (new ≡ with_arrived old attempt)
ArrivesBy job attempt (Fault code) old new =
    Fails job attempt code old new
    ⊎ (IsLate job attempt old × (new ≡ with_arrived old attempt))
ArrivesBy job attempt (Lost winner) old new =
    (IsLate job attempt old ⊎ HasRival attempt old) × (new ≡ with_arrived old attempt)
ArrivesBy job attempt NoMemory old new = new ≡ with_arrived old attempt

-- an attempt of this name was deployed and had not arrived
pub record Arrives (job : Job) (name : PartName) (kind : Arrival) (old new : CoreState)
    : Type 0 where
  pub attempt : Deployment
  pub named : attempt.name ≡ name
  pub deployed : Contains old.deployed attempt
  pub by : ArrivesBy job attempt kind old new
