-- What each kind of step does beside its own change of the core.
use Rattle.std.specs.Prelude.{◌≡◌, cond, List, [], ◌∷◌, ◌++◌, drop, length}
use Rattle.estate.specs.World.{World}
use Rattle.job_soundness.specs.Jobs.{Files}
use Rattle.graph_model.specs.declared.event.Event.{Event}
use Rattle.core_model.specs.Cores.{CoreState, Moment}
use Rattle.core_model.specs.Moves.{Takes}
use Rattle.core_model.specs.declared.step.Step.{Step}
use Rattle.core_crashes.specs.Goes.{Goes, GoesSoundly}
use Rattle.core_crashes.specs.Standing.{IsFor, IsRight}
use Rattle.core_state.specs.Masters.{Master}

-- the core, and what the shelf holds where the estate tells it
abbrev pub moment_of : CoreState → World → Moment
moment_of core world = record {
  core = core;
  told = world.told;
  held = cond world.told world.holding.held [];
}

-- over a sound estate each crash since leaves a sound one
abbrev pub GoesSound : Master → Master → World → World → Type 0
GoesSound old new a b = (files : Files) → IsRight old.job files old.core a
    → GoesSoundly old.job files old.core new.core a b

-- and the core stands right to what a crash now leaves
abbrev pub StaysRight : Master → Master → World → World → Type 0
StaysRight old new a b = (files : Files) → IsRight old.job files old.core a
    → IsRight old.job files new.core b

-- the step is one that the master may take, and stands in the trace
pub record TakesStep (step : Step) (old new : Master) (a b : World) : Type 0 where
  pub job : new.job ≡ old.job
  pub takes : Takes old.job step (moment_of old.core a) (moment_of new.core b)
  pub trace : new.trace ≡ old.trace ++ step ∷ []

-- the events that are not flushed
abbrev pub unflushed : CoreState → List Event
unflushed core = drop core.flushed core.events
