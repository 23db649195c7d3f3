use Rattle.event_codec.proofs.Tags.{widened_lacks}
use Rattle.event_codec.proofs.event_reading.read_widened.Goals as goal

pub returns-in-None : goal.returns-in-None
returns-in-None c = widened_lacks c.args.bytes.now (rw c.in-None.is at c.in_ok-node.ensures)
