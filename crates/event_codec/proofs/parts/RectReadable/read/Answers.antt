use Rattle.event_codec.proofs.Pairing.{rect_lacks}
use Rattle.event_codec.proofs.parts.RectReadable.read.Goals as goal

pub returns-in-None : goal.returns-in-None
returns-in-None c = rect_lacks c.args.bytes.now (rw c.in-None.is at c.in_ok-p0.ensures)
