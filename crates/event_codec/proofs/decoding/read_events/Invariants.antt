use Rattle.std.proofs.Common.{length}
use Rattle.row_core.specs.Decoding.{Begins}
use Rattle.event_codec.specs.Spelling.{events_bytes, EventsFit}
use Rattle.event_codec.proofs.decoding.read_events.Given as goal

abbrev pub invariant-loop-rest : goal.invariant-loop-rest
invariant-loop-rest l = Begins events_bytes EventsFit l.bytes l.events.items l.rest

abbrev pub decreases-loop-rest : goal.decreases-loop-rest
decreases-loop-rest l = length l.rest
