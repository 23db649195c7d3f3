use Rattle.std.proofs.Common.{length}
use Rattle.event_codec.specs.Spelling.{events_bytes, EventsFit}
use Rattle.row_core.specs.Decoding.{Begins}
use Rattle.job_events.specs.Logs.{LeadsTo}
use Rattle.job_events.proofs.replaying.replay_block.Given as goal

abbrev pub invariant-loop-rest : goal.invariant-loop-rest
invariant-loop-rest l = record {
  front : Begins events_bytes EventsFit l.fn.block l.events.items l.rest;
  leads : LeadsTo l.fn.before l.events.items l.state;
}

abbrev pub decreases-loop-rest : goal.decreases-loop-rest
decreases-loop-rest l = length l.rest
