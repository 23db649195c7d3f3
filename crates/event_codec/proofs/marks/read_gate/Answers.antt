use Rattle.event_codec.proofs.Tags.{gate_lacks}
use Rattle.event_codec.proofs.marks.read_gate.Goals as goal

pub returns-in-None : goal.returns-in-None
returns-in-None c = gate_lacks c.args.bytes.now (rw c.in-None.is at c.in_ok-name.ensures)
