use Rattle.event_codec.proofs.Tags.{reset_lacks}
use Rattle.event_codec.proofs.event_reading.read_reset.Goals as goal

pub returns-in-None : goal.returns-in-None
returns-in-None c = reset_lacks c.args.bytes.now (rw c.in-None.is at c.in_ok-gone.ensures)
