-- Which runs of the master the rules license, by five points.
use Rattle.std.specs.Prelude.{⊤, ℕ, ◌-◌, ◌≤◌, Bool, true, false, IsTrue, List, [], ◌∷◌, length, map, filter_map, Option, Some, None, All, Contains}
use Rattle.estate.specs.Readings.{Readings}
use Rattle.estate.specs.declared.part_name.PartName.{PartName}
use Rattle.graph_model.specs.declared.cause.Cause.{Cause}
use Rattle.graph_model.specs.declared.cause.Cause.TheVariants.{Gate, Lost}
use Rattle.graph_model.specs.declared.event.Event.{Event}
use Rattle.graph_model.specs.declared.event.Event.TheVariants as event
use Rattle.job_soundness.specs.Jobs.{Job}
use Rattle.rect_cover.specs.Cells.{Reads}
use Rattle.core_model.specs.declared.step.Step.{Step}
use Rattle.core_model.specs.declared.step.Step.TheVariants.{Make, Widen, Decide, Deploy, Reset, Flush}
use Rattle.core_model.specs.Cores.{CoreState, core_state}
use Rattle.core_model.specs.Moves.{Adds, AreGone, Taken}
use Rattle.core_model.specs.Rules.{DecidesNext, IsSettled, MakesNext, WidensNext}
use Rattle.core_model.specs.Turns.{AreDistinct, AreTurns, BeginsTurn, DeploysNext, FollowsClock, deployed_in}

-- ---- joins, vertices and decisions

-- what is widened, made or decided is what the rules give, in their order; nothing is left of these
-- at a deployment
abbrev pub GoesByRules : Job → Step → CoreState → CoreState → Type 0
GoesByRules job (Widen node side) old new = WidensNext job.given (core_state job old) node side
GoesByRules job (Make vertex) old new = (nodes : List ℕ)
    × Adds job (event.Made vertex nodes) old new
    × MakesNext job.given (core_state job old) nodes
GoesByRules job (Decide vertex) old new = (decision : List Reads)
    × Adds job (event.Decided vertex decision) old new
    × DecidesNext job.given (core_state job old) vertex decision
GoesByRules job (Deploy name worker) old new = IsSettled job.given (core_state job old)
GoesByRules job _ old new = ⊤

abbrev pub IsRuled : Job → List Taken → Type 0
IsRuled job trace =
    All (λ taken. GoesByRules job taken.step taken.before.core taken.after.core) trace

-- ---- turns

abbrev pub steps_of : List Taken → List Step
steps_of trace = map (λ taken. taken.step) trace

-- each turn reads the clock and deploys by the rules as long as it can, no attempt twice
pub record IsInTurns (job : Job) (readings : Readings) (trace : List Taken) : Type 0 where
  pub begins : BeginsTurn (steps_of trace)
  pub clock : FollowsClock readings (steps_of trace)
  pub deploys : All (λ taken. DeploysNext job taken.before.core taken.step) trace
  pub turns : AreTurns job trace
  pub once : AreDistinct (deployed_in (steps_of trace))

-- ---- resets

-- what is gone is what was not held
abbrev pub ResetsGone : Job → Step → Taken → Type 0
ResetsGone job (Reset gone subs) taken = IsTrue taken.after.told
    → AreGone (core_state job taken.before.core).vertices taken.after.held gone
ResetsGone job _ taken = ⊤

abbrev pub ResetsTheGone : Job → List Taken → Type 0
ResetsTheGone job trace = All (λ taken. ResetsGone job taken.step taken) trace

-- ---- troubles

abbrev pub cause_of : Event → Option Cause
cause_of (event.Trouble cause) = Some cause
cause_of _ = None

abbrev pub name_of : Cause → PartName
name_of (Gate name code) = name
name_of (Lost name) = name

abbrev pub gate_of : Cause → Option PartName
gate_of (Gate name code) = Some name
gate_of (Lost name) = None

abbrev pub causes_in : List Event → List Cause
causes_in events = filter_map cause_of events

-- behind a lost part comes the reset that has it, or the end; or nothing, where the run was cut off
abbrev pub ComesBehind : Bool → PartName → List Event → Type 0
ComesBehind cut name [] = IsTrue cut
ComesBehind cut name (event.Reset gone subs ∷ events) = Contains gone name
ComesBehind cut name (event.Ended true ∷ events) = ⊤
ComesBehind cut name _ = ⊥

abbrev pub LossesFollow : Bool → List Event → Type 0
LossesFollow cut [] = ⊤
LossesFollow cut (event.Trouble (Lost name) ∷ events) =
    ComesBehind cut name events × LossesFollow cut events
LossesFollow cut (other ∷ events) = LossesFollow cut events

-- where the shelf is told, each lost part is followed by its reset or the end, and no two troubles
-- have one name; wherever, no two troubles of the gate do, and theirs were deployed in this run
pub record HasTroubles (told cut : Bool) (steps : List Step) (events : List Event)
    : Type 0 where
  pub follow : IsTrue told → LossesFollow cut events
  pub distinct : IsTrue told → AreDistinct (map name_of (causes_in events))
  pub gates : AreDistinct (filter_map gate_of (causes_in events))
  pub deployed : All (Contains (deployed_in steps)) (filter_map gate_of (causes_in events))

-- ---- flushes

abbrev pub is_flush : Step → Bool
is_flush (Flush events) = true
is_flush _ = false

-- the next step is a flush, or there is none, where the run was cut off
abbrev pub FlushFollows : Bool → List Taken → Type 0
FlushFollows cut [] = IsTrue cut
FlushFollows cut (taken ∷ trace) = IsTrue (is_flush taken.step)

-- a flush comes behind each step that leaves so many events unflushed
abbrev pub FlushesInTime : Job → Bool → List Taken → Type 0
FlushesInTime job cut [] = ⊤
FlushesInTime job cut (taken ∷ trace) =
    (job.given.settings.flush_every
    ≤ length taken.after.core.events - taken.after.core.flushed → FlushFollows cut trace)
    × FlushesInTime job cut trace

-- ---- the five points

-- this run is licensed; it may have been cut off, or came to the job's end
pub record IsLicensed (job : Job) (readings : Readings) (told cut : Bool) (trace : List Taken)
    (events : List Event) : Type 0 where
  pub ruled : IsRuled job trace
  pub in_turns : IsInTurns job readings trace
  pub resets : ResetsTheGone job trace
  pub troubles : HasTroubles told cut (steps_of trace) events
  pub flushes : FlushesInTime job cut trace
