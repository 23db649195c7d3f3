use Rattle.event_codec.proofs.Tags.{made_lacks}
use Rattle.event_codec.proofs.event_reading.read_made.Goals as goal

pub returns-in-None : goal.returns-in-None
returns-in-None c = made_lacks c.args.bytes.now (rw c.in-None.is at c.in_ok-vertex.ensures)
