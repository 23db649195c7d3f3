use Rattle.std.proofs.Common.{[]}
use Rattle.row_operators.proofs.join_operator.build.Goals as goal

pub finish-requires : goal.finish-requires
finish-requires c = (c.args.rows.now, c.in_ok-push_rows.ensures.takes [] c.new-built.ensures.none)

pub returns-clause-holds : goal.returns-clause-holds
returns-clause-holds c = c.finish.ensures.holds c.args.rows.now (c.in_ok-push_rows.ensures.takes [] c.new-built.ensures.none)
