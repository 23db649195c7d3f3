use Rattle.recover_core.proofs.Spelled.{says_replayed}
use Rattle.recover_core.proofs.reading.read_log.Goals as goal

pub returns-in-Ok-replay-clause-read : goal.returns-in-Ok-replay-clause-read
returns-in-Ok-replay-clause-read g c = record {
  started = c.in-Ok.ensures.started;
  says = λ image here. says_replayed image.log c.in-Ok.started.1 c.in-Ok-replay.replayed.events (c.in-Ok.ensures.lands image here) c.in-Ok-replay.ensures.ok.spelled;
  before = λ told. says_replayed (g.E.Estate.world c.args.estate.now).holding.log c.in-Ok.started.1 c.in-Ok-replay.replayed.events (c.in-Ok.ensures.answer told).0 c.in-Ok-replay.ensures.ok.spelled;
  leads = c.in-Ok-replay.ensures.ok.leads;
}
