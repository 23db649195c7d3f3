use Rattle.event_codec.proofs.Pairing.{sub_lacks}
use Rattle.event_codec.proofs.parts.SubReadable.read.Goals as goal

pub returns-in-None : goal.returns-in-None
returns-in-None c = sub_lacks c.args.bytes.now (rw c.in-None.is at c.in_ok-vertex.ensures)
