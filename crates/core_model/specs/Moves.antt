-- The steps of the master: where each is allowed, and what it changes.
use Rattle.std.specs.Prelude.{◌≡◌, ◌⊎◌, ◌↔◌, ℕ, ◌+◌, ◌-◌, ◌^◌, ◌<◌, ◌||◌, min, not, Bool, false, true, IsTrue, List, [], ◌∷◌, ◌++◌, length, filter, Some, All, Contains}
use Rattle.std.specs.List.{AllZip, list_all}
use Rattle.attempt_names.specs.Attempts.{is_of}
use Rattle.estate.specs.Parts.{IsAscending, is_same_name}
use Rattle.estate.specs.declared.part_name.PartName.{PartName}
use Rattle.graph_model.specs.Legal.{IsDone, IsLegal, IsNamed, IsUnfinished, after}
use Rattle.graph_model.specs.Reads.{read_edges}
use Rattle.graph_model.specs.States.{State, sub_of}
use Rattle.graph_model.specs.declared.cause.Cause.TheVariants as cause
use Rattle.graph_model.specs.declared.event.Event.{Event}
use Rattle.graph_model.specs.declared.event.Event.TheVariants as event
use Rattle.graph_model.specs.declared.made_vertex.MadeVertex.{MadeVertex}
use Rattle.graph_model.specs.declared.sub.Sub.{Sub}
use Rattle.job_soundness.specs.Jobs.{Job}
use Rattle.rect_cover.specs.Cells.{Reads}
use Rattle.slot_pool.specs.Pool.{WorkerSlots, lowest_free, with_slot}
use Rattle.slot_pool.specs.declared.slot_id.SlotId.{SlotId}
use Rattle.core_model.specs.declared.arrival.Arrival.TheVariants.{Win}
use Rattle.core_model.specs.declared.step.Step.{Step}
use Rattle.core_model.specs.declared.step.Step.TheVariants.{Tick, Arrive, Make, Widen, Decide, Deploy, Reset, Spent, Flush, Commit, End}
use Rattle.core_model.specs.Arrivals.{Arrives}
use Rattle.core_model.specs.Cores.{CoreState, Deployment, IsRunning, MayGiveName, Moment, core_state, with_events, with_running}
use Rattle.core_model.specs.Slowness.{AreSlowSubtasks, Blocks, is_present}

-- the moment is the last one, the slow subtasks are wanted once more, and their workers are blocked
pub record Ticks (job : Job) (now : ℕ) (old new : CoreState) : Type 0 where
  pub slow : List Sub
  pub are : AreSlowSubtasks job old now slow
  pub slots : List WorkerSlots
  pub blocks : Blocks old slow (min (now + job.given.settings.block_ms) (2 ^ 64 - 1)) slots
  pub is : new ≡ record old { now = now; wanted = slow; slots = slots }

-- a legal event joins
abbrev pub Adds : Job → Event → CoreState → CoreState → Type 0
Adds job event old new =
    IsLegal job.given (core_state job old) event × (new ≡ with_events old (event ∷ []))

-- ---- attempts and their parts

-- the attempt runs, in this slot, and its subtask is wanted no more
abbrev pub with_deployed : CoreState → PartName → List PartName → SlotId → CoreState
with_deployed core name inputs slot = record core {
  attempts = record {
    given = core.attempts.given ++ name ∷ [];
    running = core.attempts.running ++ name ∷ [];
  };
  deployed = core.deployed
      ++ record { name = name; inputs = inputs; slot = slot; since = core.now } ∷ [];
  wanted = filter (λ sub. not (is_of sub.vertex sub.subtask name)) core.wanted;
  slots = with_slot core.slots slot true;
}

-- a new name of the last epoch, of a subtask that is unfinished; it reads the present winners'
-- parts, which are held, and takes a free slot of its worker
pub record Deploys (job : Job) (name : PartName) (worker : ℕ) (old new : Moment) : Type 0 where
  pub running : IsRunning job old.core
  pub unfinished : IsUnfinished (core_state job old.core).vertices (sub_of name)
  pub epoch : name.epoch ≡ (core_state job old.core).epoch
  pub fresh : Contains old.core.attempts.given name → ⊥
  pub inputs : List PartName
  pub named : let vertices = (core_state job old.core).vertices in
      AllZip (IsNamed vertices) (read_edges vertices (sub_of name)) inputs
  pub held : IsTrue old.told → All (Contains old.held) inputs
  pub slot : SlotId
  pub free : lowest_free old.core.slots worker ≡ Some slot
  pub is : new.core ≡ with_deployed old.core name inputs slot

-- these are the present winners whose parts are not held
pub record AreGone (vertices : List MadeVertex) (held gone : List PartName) : Type 0 where
  pub ascending : IsAscending gone
  pub are : (name : PartName) → Contains gone name
      ↔ (IsTrue (is_present vertices name) × (Contains held name → ⊥))

-- of the attempts that run, those stay whose inputs are all present winners
abbrev pub reads_present : List MadeVertex → List Deployment → PartName → Bool
reads_present vertices deployed name = list_all
    (λ attempt. not (is_same_name attempt.name name)
    || list_all (is_present vertices) attempt.inputs) deployed

-- a read missed this part, and the trouble is legal
pub record Misses (job : Job) (name : PartName) (old new : Moment) : Type 0 where
  pub gone : IsTrue new.told → Contains new.held name → ⊥
  pub legal : IsLegal job.given (core_state job old.core) (event.Trouble (cause.Lost name))

abbrev pub after_trouble : Job → PartName → CoreState → State
after_trouble job name core =
    after job.given (core_state job core) (event.Trouble (cause.Lost name))

-- the trouble joins, and behind it the reset of the winners that are not held; attempts with a
-- replaced input stop
pub record Resets (job : Job) (gone : List PartName) (subs : List Sub) (old new : Moment)
    : Type 0 where
  pub name : PartName
  pub misses : Misses job name old new
  pub fresh : old.core.committed ≡ false
  pub are : IsTrue new.told → AreGone (core_state job old.core).vertices new.held gone
  pub legal : IsLegal job.given (after_trouble job name old.core) (event.Reset gone subs)
  pub named : CoreState
  pub gave : MayGiveName old.core named
  pub is : let events = event.Trouble (cause.Lost name) ∷ event.Reset gone subs ∷ [] in
      let vertices = (after job.given (after_trouble job name old.core)
      (event.Reset gone subs)).vertices in
      new.core ≡ with_running (with_events named events)
      (filter (reads_present vertices old.core.deployed) old.core.attempts.running)

-- the trouble joins alone: it is the last that is borne, or the shelf isn't told
pub record Spends (job : Job) (name : PartName) (old new : Moment) : Type 0 where
  pub misses : Misses job name old new
  pub alone : ((core_state job old.core).troubles ≡ job.given.settings.restart_limit)
      ⊎ (new.told ≡ false)
  pub named : CoreState
  pub gave : MayGiveName old.core named
  pub is : new.core ≡ with_events named (event.Trouble (cause.Lost name) ∷ [])

-- ---- log and sink

-- all events are flushed, of which so many were not
pub record Flushes (count : ℕ) (old new : CoreState) : Type 0 where
  pub some : 0 < count
  pub count_is : old.flushed + count ≡ length old.events
  pub log_end : ℕ
  pub is : new ≡ record old { flushed = length old.events; log_end = log_end }

-- each node is in a complete vertex and all events are flushed; the commit is known to stand then
pub record Commits (job : Job) (old new : CoreState) : Type 0 where
  pub running : IsRunning job old
  pub done : IsDone job.given (core_state job old)
  pub flushed : old.flushed ≡ length old.events
  pub fresh : old.committed ≡ false
  pub is : new ≡ record old { committed = true }

-- the end joins and is flushed: finished, where the commit is known to stand, or failed
pub record Ends (job : Job) (failed : Bool) (old new : CoreState) : Type 0 where
  pub legal : IsLegal job.given (core_state job old) (event.Ended failed)
  pub committed : failed ≡ false → old.committed ≡ true
  pub log_end : ℕ
  pub is : new ≡ record (with_events old (event.Ended failed ∷ [])) {
    flushed = length old.events + 1;
    log_end = log_end;
  }

-- ---- steps

-- each kind of step
abbrev pub Moves : Job → Step → Moment → Moment → Type 0
Moves job (Tick now) old new = Ticks job now old.core new.core
Moves job (Arrive name kind) old new = Arrives job name kind old.core new.core
Moves job (Make vertex) old new =
    (nodes : List ℕ) × Adds job (event.Made vertex nodes) old.core new.core
Moves job (Widen node side) old new = Adds job (event.Widened node side) old.core new.core
Moves job (Decide vertex) old new = (decision : List Reads)
    × Adds job (event.Decided vertex decision) old.core new.core
Moves job (Deploy name worker) old new = Deploys job name worker old new
Moves job (Reset gone subs) old new = Resets job gone subs old new
Moves job (Spent name) old new = Spends job name old new
Moves job (Flush count) old new = Flushes count old.core new.core
Moves job (Commit fresh) old new = Commits job old.core new.core
Moves job (End failed) old new = Ends job failed old.core new.core

-- what is held was held before, or this is the part of the attempt that won
abbrev pub HoldsFewer : Step → Moment → Moment → Type 0
HoldsFewer step old new = (name : PartName) → Contains new.held name
    → Contains old.held name ⊎ (step ≡ Arrive name Win)

-- a step, in which names may be lost
pub record Takes (job : Job) (step : Step) (old new : Moment) : Type 0 where
  pub moves : Moves job step old new
  pub told : new.told ≡ old.told
  pub held : HoldsFewer step old new

-- steps one after another, between which names may be lost too
pub record Rests (old new : Moment) : Type 0 where
  pub core : new.core ≡ old.core
  pub told : new.told ≡ old.told
  pub held : (name : PartName) → Contains new.held name → Contains old.held name

-- a step that was taken, and the moments before and after it
pub record Taken : Type 0 where
  pub step : Step
  pub before : Moment
  pub after : Moment

-- from one moment to another by these steps, in their order
abbrev pub Run : Job → Moment → List Taken → Moment → Type 0
Run job start [] end = Rests start end
Run job start (taken ∷ trace) end =
    Rests start taken.before × Takes job taken.step taken.before taken.after
    × Run job taken.after trace end
