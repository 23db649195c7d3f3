use Rattle.std.proofs.Common.{◌∷◌, ◌++◌, []}
use Rattle.row_core.proofs.Laws.{values_lack}
use Rattle.row_view.specs.Views.{seen}
use Rattle.row_view.proofs.Fronts.{one_more_value}
use Rattle.row_view.proofs.reading.skip_values.Goals as goal

pub returns-in_default : goal.returns-in_default
returns-in_default c = values_lack c.loop.counter c.args.count c.args.bytes.now (c.loop.invariant).0 c.loop.rest.now (c.loop.invariant).1 c.loop-test.true (rw c.in_default.is at c.read_value.ensures)

pub loop-preserved : goal.loop-preserved
loop-preserved c = (
  (c.loop.invariant).0 ++ seen c.in-Some.field-0-0 ∷ [],
  one_more_value c.loop.counter (c.loop.invariant).0 (seen c.in-Some.field-0-0) c.args.bytes.now c.loop.rest.now c.in-Some.after.now (c.loop.invariant).1 c.in-Some.ensures,
)
