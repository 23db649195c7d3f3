use Rattle.row_core.proofs.Laws.{values_lack}
use Rattle.row_view.specs.Views.{row_seen}
use Rattle.row_view.proofs.reading.read_values.Goals as goal

pub returns-in_default : goal.returns-in_default
returns-in_default c = values_lack c.loop.counter c.args.count c.args.bytes.now (row_seen c.loop.row.items) c.loop.rest.now c.loop.invariant c.loop-test.true (rw c.in_default.is at c.read_value.ensures)
