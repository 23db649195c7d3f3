use Rattle.std.proofs.Common.{[], ◌++◌}
use Rattle.row_operators.proofs.join_operator.concatenated.Goals as goal

pub into_rows-requires : goal.into_rows-requires
into_rows-requires c =
    let rows = c.args.rows.now in
    (rows ++ c.args.more.now, c.in_ok-push_rows-2.ensures.takes rows (c.in_ok-push_rows.ensures.takes [] c.new-buffer.ensures.none))

pub returns : goal.returns
returns c =
    let rows = c.args.rows.now in
    c.into_rows.ensures.rows (rows ++ c.args.more.now) (c.in_ok-push_rows-2.ensures.takes rows (c.in_ok-push_rows.ensures.takes [] c.new-buffer.ensures.none))
