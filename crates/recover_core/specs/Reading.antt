-- A log that was started and replayed.
use Rattle.std.specs.Prelude.{ℕ, IsTrue, List}
use Rattle.estate.specs.Holding.{Holding}
use Rattle.estate.specs.World.{World}
use Rattle.event_log.specs.Started.{IsStarted}
use Rattle.graph_model.specs.declared.event.Event.{Event}
use Rattle.job_events.specs.Logs.{LeadsTo}
use Rattle.job_events.specs.declared.log_state.LogState.{LogState}
use Rattle.job_events.specs.declared.log_state.LogState.TheVariants.{Empty}
use Rattle.job_soundness.specs.Logs.{SaysEvents}

-- each crash now leaves a log of these events, which was the log before and goes on at this place,
-- and they lead to this state
pub record IsLogRead (a b : World) (end : ℕ) (events : List Event) (state : LogState)
    : Type 0 where
  pub started : IsStarted end b
  pub says : (image : Holding) → b.images b.now image → SaysEvents image.log events
  pub before : IsTrue a.told → SaysEvents a.holding.log events
  pub leads : LeadsTo Empty events state
