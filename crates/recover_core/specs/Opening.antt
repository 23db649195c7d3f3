-- The events that open an epoch, and the block of them.
use Rattle.std.specs.Prelude.{◌≡◌, ◌≢◌, ◌⊎◌, ℕ, Bool, IsTrue, List, [], ◌∷◌, Option, Some, None, Result, Ok, Err}
use Rattle.estate.specs.Changes.{Leads}
use Rattle.estate.specs.Parts.{AnswersNames}
use Rattle.estate.specs.World.{World}
use Rattle.estate.specs.declared.part_name.PartName.{PartName}
use Rattle.event_codec.specs.Spelling.{AreShort, EventsFit, IsShort, events_bytes}
use Rattle.event_graph.specs.Graphs.{Takes}
use Rattle.event_log.specs.Blocks.{AddsBlock, KeepsBlocks, LandsBehind}
use Rattle.event_log.specs.Started.{IsStarted}
use Rattle.exec_graph.specs.Graphs.{GraphState}
use Rattle.graph_model.specs.Closures.{IsClosure}
use Rattle.graph_model.specs.Folds.{fold_from}
use Rattle.graph_model.specs.declared.event.Event.{Event}
use Rattle.graph_model.specs.declared.event.Event.TheVariants.{Opened, Reset, Started}
use Rattle.graph_model.specs.declared.sub.Sub.{Sub}
use Rattle.job_soundness.specs.Jobs.{Job}
use Rattle.core_model.specs.Moves.{AreGone}
use Rattle.core_model.specs.Reopening.{ResetsLost}
use Rattle.recover_core.specs.Starting.{StandsFor}
use Rattle.recover_core.specs.declared.recover_error.RecoverError.{RecoverError}

-- a job's first epoch
pub record OpensFirst (job : Job) (events : List Event) (graph : GraphState) : Type 0 where
  pub is : events ≡ Opened 1 ∷ Started job.text job.given.files ∷ []
  pub stands : StandsFor job events graph
  pub short : AreShort events

-- the winners that are not among the names are reset, or nothing is to be
pub record ResetsSome (old new : GraphState) (names : List PartName) (event : Event)
    : Type 0 where
  pub gone : List PartName
  pub subs : List Sub
  pub are : AreGone old.job.state.vertices names gone
  pub closure : IsClosure old.job.state.vertices gone subs
  pub some : subs ≢ []
  pub is : event ≡ Reset gone subs
  pub takes : Takes old.job event new.job
  pub attempts : new.attempts ≡ old.attempts
  pub short : IsShort event

pub record ResetsNone (old new : GraphState) (names : List PartName) : Type 0 where
  pub gone : List PartName
  pub are : AreGone old.job.state.vertices names gone
  pub closure : IsClosure old.job.state.vertices gone []
  pub same : new ≡ old

abbrev pub MayReset : GraphState → GraphState → List PartName → Option Event → Type 0
MayReset old new names None = ResetsNone old new names
MayReset old new names (Some event) = ResetsSome old new names event

-- the events that open a further epoch, behind which what the shelf does not hold is reset
pub record WouldOpen (old : GraphState) (epoch : ℕ) (world : World) (events : List Event)
    : Type 0 where
  pub held : List PartName
  pub answers : IsTrue world.told → AnswersNames world.holding.held held
  pub reset : List Event
  pub lost : (told : Bool) → ResetsLost old.job.state told held reset
  pub is : events ≡ Opened epoch ∷ reset

-- and the graph after them
pub record OpensNext (old : GraphState) (epoch : ℕ) (world : World) (events : List Event)
    (new : GraphState) : Type 0 where
  pub would : WouldOpen old epoch world events
  pub given : new.job.given ≡ old.job.given
  pub state : new.job.state ≡ fold_from old.job.given old.job.state events
  pub attempts : new.attempts ≡ old.attempts
  pub short : AreShort events

-- the block of these events is on the log, which goes on at this place; or it may be there; or it
-- isn't
abbrev pub IsFlushed : List Event → ℕ → World → World
    → Result (List Event) RecoverError → Type 0
IsFlushed more end a b (Ok events) = EventsFit more × Leads (AddsBlock (events_bytes more)) a b
    × LandsBehind (events_bytes more) a b × IsStarted end b
IsFlushed more end a b (Err error) =
    Leads KeepsBlocks a b ⊎ (EventsFit more × Leads (AddsBlock (events_bytes more)) a b)
