use Rattle.event_codec.proofs.Tags.{done_lacks}
use Rattle.event_codec.proofs.event_reading.read_done.Goals as goal

pub returns-in-None : goal.returns-in-None
returns-in-None c = done_lacks c.args.bytes.now (rw c.in-None.is at c.in_ok-name.ensures)
