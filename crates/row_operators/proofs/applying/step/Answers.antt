use Rattle.std.proofs.Common.{[]}
use Rattle.operator_laws.specs.Applied.{applied}
use Rattle.row_operators.proofs.applying.step.Goals as goal

pub into_rows-requires : goal.into_rows-requires
into_rows-requires c = (applied c.args.op.now c.args.rows.now, c.in_ok-push_rows.ensures.takes [] c.new-buffer.ensures.none)

pub returns : goal.returns
returns c = c.into_rows.ensures.rows (applied c.args.op.now c.args.rows.now) (c.in_ok-push_rows.ensures.takes [] c.new-buffer.ensures.none)
