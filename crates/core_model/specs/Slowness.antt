-- Which running subtasks are slow, and which workers are blocked for them.
use Rattle.std.specs.Prelude.{◌≡◌, ◌↔◌, ℕ, ◌≤◌, ◌&&◌, ◌==◌, max, Bool, false, IsTrue, List, length, map, filter, count_by, AllPairs, Contains}
use Rattle.std.specs.Option.{option_map_or}
use Rattle.attempt_names.specs.Attempts.{is_of}
use Rattle.estate.specs.Parts.{is_same_name}
use Rattle.estate.specs.declared.part_name.PartName.{PartName}
use Rattle.graph_model.specs.Closures.{IsBefore}
use Rattle.graph_model.specs.States.{sub_of, subtasks_at, winner_name}
use Rattle.graph_model.specs.declared.made_vertex.MadeVertex.{MadeVertex}
use Rattle.graph_model.specs.declared.sub.Sub.{Sub}
use Rattle.job_soundness.specs.Jobs.{Job}
use Rattle.medians.specs.Medians.{IsMedian}
use Rattle.slot_pool.specs.Pool.{WorkerSlots, worker_of}
use Rattle.slow_detector.specs.Slow.{EnoughFinished, baseline, is_slow}
use Rattle.core_model.specs.Cores.{CoreState, Deployment, core_state}

-- the part is the present winner of its subtask
abbrev pub is_present : List MadeVertex → PartName → Bool
is_present vertices name =
    option_map_or (λ winner. is_same_name winner name) (winner_name vertices (sub_of name)) false

-- how long the present winners of a vertex had run, where they ran under this core
abbrev pub times_of : Job → CoreState → ℕ → List ℕ
times_of job core v =
    let vertices = (core_state job core).vertices in
    map (λ run. run.time)
    (filter (λ run. run.name.vertex == v && is_present vertices run.name) core.times)

-- the attempt is one of the subtask, and runs
pub record Runs (core : CoreState) (sub : Sub) (attempt : Deployment) : Type 0 where
  pub deployed : Contains core.deployed attempt
  pub own : sub_of attempt.name ≡ sub
  pub running : Contains core.attempts.running attempt.name

-- the running attempt of the subtask that was deployed first
pub record RunsFirst (core : CoreState) (sub : Sub) (attempt : Deployment) : Type 0 where
  pub runs : Runs core sub attempt
  pub first : (other : Deployment) → Runs core sub other → attempt.since ≤ other.since

abbrev pub running_attempts : CoreState → Sub → ℕ
running_attempts core sub =
    count_by (is_of sub.vertex sub.subtask) core.attempts.running

-- a running subtask is slow at a moment, by the median of its vertex
pub record IsSlowSubtask (job : Job) (core : CoreState) (now : ℕ) (sub : Sub) : Type 0 where
  pub enough : EnoughFinished job.given.settings
      (length (subtasks_at (core_state job core).vertices sub.vertex))
      (times_of job core sub.vertex)
  pub median : ℕ
  pub is_median : IsMedian (times_of job core sub.vertex) median
  pub attempt : Deployment
  pub oldest : RunsFirst core sub attempt
  pub slow : IsTrue (is_slow now (baseline job.given.settings median)
      job.given.settings.attempts
      (record {
        subtask = sub.subtask;
        running = running_attempts core sub;
        since = attempt.since;
      }))

-- all slow subtasks, by vertex and then by number
pub record AreSlowSubtasks (job : Job) (core : CoreState) (now : ℕ) (subs : List Sub)
    : Type 0 where
  pub ascending : AllPairs IsBefore subs
  pub are : (sub : Sub) → Contains subs sub ↔ IsSlowSubtask job core now sub

-- the worker runs an attempt of one of these subtasks
pub record RunsOneOf (core : CoreState) (subs : List Sub) (worker : ℕ) : Type 0 where
  pub sub : Sub
  pub one : Contains subs sub
  pub attempt : Deployment
  pub runs : Runs core sub attempt
  pub own : attempt.slot.worker ≡ worker

-- the workers that run one of these subtasks are blocked until then, and nothing else changes
pub record Blocks (core : CoreState) (subs : List Sub) (until : ℕ) (slots : List WorkerSlots)
    : Type 0 where
  pub len : length slots ≡ length core.slots
  pub taken : (w : ℕ) → (worker_of slots w).taken ≡ (worker_of core.slots w).taken
  pub blocked : (w : ℕ) → RunsOneOf core subs w
      → (worker_of slots w).block_end ≡ max (worker_of core.slots w).block_end until
  pub others : (w : ℕ) → (RunsOneOf core subs w → ⊥)
      → (worker_of slots w).block_end ≡ (worker_of core.slots w).block_end
