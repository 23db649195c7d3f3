use Rattle.row_core.proofs.Reading.{values_lack}
use Rattle.row_core.proofs.decoding.read_values.Goals as goal

pub returns-in_default : goal.returns-in_default
returns-in_default c = values_lack c.loop.counter c.args.count c.args.bytes.now c.loop.row c.loop.rest.now c.loop.invariant c.loop-test.true (rw c.in_default.is at c.in_ok-value.ensures)
