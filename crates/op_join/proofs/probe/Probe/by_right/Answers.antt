use Rattle.std.proofs.Common.{◌∙◌}
use Rattle.plan_model.specs.Joins.{matches}
use Rattle.operator_laws.specs.Applied.{left_columns, right_columns}
use Rattle.op_join.proofs.Alike.{right_matches}
use Rattle.op_join.proofs.Kept.{probed}
use Rattle.op_join.proofs.probe.Probe.by_right.Goals as goal

pub returns : goal.returns
returns c =
    let keys = c.args.keys.now in
    let side = c.in_ok-new.field-0 in
    probed c.args.rule c.in_ok-null_row.field-0 c.args.width c.in_ok-null_row.ensures
    c.in_ok-columns.columns.items side.columns (right_columns keys) (left_columns keys)
    c.in_ok-columns.ensures (c.in_ok-new.ensures.columns ∙ c.in_ok-others.ensures)
    (λ row other. matches keys other row) (right_matches keys) side.rows c.args.left.now c.in_ok-new.ensures.rows
