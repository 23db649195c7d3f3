use Rattle.event_codec.proofs.Pairing.{name_lacks}
use Rattle.event_codec.proofs.parts.PartNameReadable.read.Goals as goal

pub returns-in-None : goal.returns-in-None
returns-in-None c = name_lacks c.args.bytes.now (rw c.in-None.is at c.in_ok-vertex.ensures)
