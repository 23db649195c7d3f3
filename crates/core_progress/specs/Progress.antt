-- What is left to be done of a job, and what each step takes away of it.
use Rattle.std.specs.Prelude.{◌≡◌, ◌⊎◌, ℕ, ◌+◌, ◌*◌, ◌<◌, ◌≤◌, ◌^◌, ◌==◌, Bool, not, List, [], length, count_by, sum_by, if◌then◌else◌}
use Rattle.std.specs.List.{list_any, range_with_len}
use Rattle.std.specs.Option.{is_none}
use Rattle.plan_model.specs.Checks.{plan_faults}
use Rattle.vertex_builder.specs.Chains.{is_among}
use Rattle.vertex_builder.specs.declared.widening.Widening.{Widening}
use Rattle.graph_model.specs.States.{Given, State, is_decided, made_nodes}
use Rattle.graph_model.specs.declared.event.Event.{Event}
use Rattle.graph_model.specs.declared.made_vertex.MadeVertex.{MadeVertex}
use Rattle.job_soundness.specs.Jobs.{Job}
use Rattle.job_soundness.specs.Starts.{AreLegal, StartsJob, state_of}
use Rattle.core_model.specs.declared.arrival.Arrival.{Arrival}
use Rattle.core_model.specs.declared.arrival.Arrival.TheVariants.{Win, Stale, Double, Fault, Lost, NoMemory}
use Rattle.core_model.specs.declared.step.Step.{Step}
use Rattle.core_model.specs.declared.step.Step.TheVariants.{Tick, Arrive, Make, Widen, Decide, Deploy, Reset, Spent, Flush, Commit, End}
use Rattle.core_model.specs.Cores.{Moment, core_state}
use Rattle.core_model.specs.Moves.{Moves}

-- ---- work

-- of a decided vertex the subtasks without a winner; one that is not decided has yet to be given
-- its subtasks
abbrev pub vertex_work : MadeVertex → ℕ
vertex_work made =
    if is_decided made then count_by (λ subtask. is_none subtask.winner) made.subtasks else 2 ^ 32

abbrev pub is_unmade : List MadeVertex → ℕ → Bool
is_unmade vertices node = not (is_among (made_nodes vertices) node)

abbrev pub is_unwidened : List Widening → ℕ → Bool
is_unwidened widened node = not (list_any (λ widening. widening.node == node) widened)

-- how many nodes of the plan pass a test
abbrev pub nodes_where : Given → (ℕ → Bool) → ℕ
nodes_where given test = count_by test (range_with_len 0 (length given.nodes))

-- the work of the vertices, of the nodes that are not made, and of those that are not widened
abbrev pub work_left : Given → State → ℕ
work_left given state = sum_by vertex_work state.vertices
    + nodes_where given (is_unmade state.vertices) * (2 ^ 32 + 1)
    + nodes_where given (is_unwidened state.widened)

-- ---- steps

-- as many troubles, and less work
pub record DoesWork (given : Given) (old new : State) : Type 0 where
  pub troubles : new.troubles ≡ old.troubles
  pub work : work_left given new < work_left given old

-- as many troubles, and as much work
pub record StaysLevel (given : Given) (old new : State) : Type 0 where
  pub troubles : new.troubles ≡ old.troubles
  pub work : work_left given new ≡ work_left given old

-- one trouble more
abbrev pub MeetsTrouble : State → State → Type 0
MeetsTrouble old new = new.troubles ≡ old.troubles + 1

-- what each kind of arrival does
abbrev pub AdvancesBy : Given → Arrival → State → State → Type 0
AdvancesBy given Win old new = DoesWork given old new
AdvancesBy given (Fault code) old new = MeetsTrouble old new ⊎ StaysLevel given old new
AdvancesBy given (Stale input) old new = StaysLevel given old new
AdvancesBy given (Double winner) old new = StaysLevel given old new
AdvancesBy given (Lost winner) old new = StaysLevel given old new
AdvancesBy given NoMemory old new = StaysLevel given old new

-- what each kind of step does
abbrev pub Advances : Given → Step → State → State → Type 0
Advances given (Arrive name kind) old new = AdvancesBy given kind old new
Advances given (Make vertex) old new = DoesWork given old new
Advances given (Widen node side) old new = DoesWork given old new
Advances given (Decide vertex) old new = DoesWork given old new
Advances given (Reset gone subs) old new = MeetsTrouble old new
Advances given (Spent name) old new = MeetsTrouble old new
Advances given (Tick now) old new = StaysLevel given old new
Advances given (Deploy name worker) old new = StaysLevel given old new
Advances given (Flush count) old new = StaysLevel given old new
Advances given (Commit fresh) old new = StaysLevel given old new
Advances given (End failed) old new = StaysLevel given old new

-- ---- laws

abbrev pub AdvanceLaw : Type 0
AdvanceLaw = (job : Job) (step : Step) (old new : Moment) → plan_faults job.given.nodes ≡ []
    → StartsJob job old.core.events → AreLegal job old.core.events → Moves job step old new
    → Advances job.given step (core_state job old.core) (core_state job new.core)

abbrev pub BoundLaw : Type 0
BoundLaw = (job : Job) (events : List Event) → AreLegal job events
    → (state_of job events).troubles ≤ job.given.settings.restart_limit + 1
