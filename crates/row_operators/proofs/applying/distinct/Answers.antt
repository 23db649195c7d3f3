use Rattle.std.proofs.Common.{[]}
use Rattle.row_operators.proofs.applying.distinct.Goals as goal

pub into_rows-requires : goal.into_rows-requires
into_rows-requires c = (c.args.rows.now, c.in_ok-push_rows.ensures.takes [] c.new-set.ensures.none)

pub returns : goal.returns
returns c = c.into_rows.ensures c.args.rows.now (c.in_ok-push_rows.ensures.takes [] c.new-set.ensures.none)
