use Rattle.event_codec.proofs.Tags.{started_lacks}
use Rattle.event_codec.proofs.event_reading.read_started.Goals as goal

pub returns-in-None : goal.returns-in-None
returns-in-None c = started_lacks c.args.bytes.now (rw c.in-None.is at c.in_ok-job.ensures)
