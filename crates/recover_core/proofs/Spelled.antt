-- Blocks that are replayed spell their events.
use Rattle.std.proofs.Common.{ℕ, List, [], ◌∷◌}
use Rattle.event_log.specs.Blocks.{Reads}
use Rattle.graph_model.specs.declared.event.Event.{Event}
use Rattle.job_events.specs.Replays.{AreSpelled as AreReplayed}
use Rattle.job_soundness.specs.Logs.{AreSpelled, SaysEvents}

spelled : (blocks : List (List ℕ)) (events : List Event) → AreReplayed blocks events → AreSpelled blocks events
spelled [] events are = are
spelled (block ∷ blocks) events (first, rest, spells, are, is) = (first, rest, spells.fit, spells.is, is, spelled blocks rest are)

pub says_replayed : (log : List ℕ) (blocks : List (List ℕ)) (events : List Event) → Reads log blocks → AreReplayed blocks events → SaysEvents log events
says_replayed log blocks events reads are = (blocks, reads, spelled blocks events are)
