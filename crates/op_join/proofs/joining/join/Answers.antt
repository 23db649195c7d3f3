use Rattle.std.proofs.Common.{◌++◌}
use Rattle.plan_model.specs.Joins.{matches, nulls}
use Rattle.plan_model.specs.declared.join_kind.JoinKind.TheVariants as kind
use Rattle.op_join.specs.Probes.{probe_outputs}
use Rattle.op_join.specs.Sides.{outputs}
use Rattle.op_join.specs.declared.rule.Rule.TheVariants.{PairsOrPadded, PaddedIfUnmatched}
use Rattle.op_join.proofs.Arms.{arm, both}
use Rattle.op_join.proofs.joining.join.Goals as goal

pub returns-in_ok-by_right-in-Right : goal.returns-in_ok-by_right-in-Right
returns-in_ok-by_right-in-Right c =
    let keys = c.as_slice-keys.result.now in
    let left = c.as_slice-left.result.now in
    let right = c.as_slice-right.result.now in
    arm c.rows-in-Right.result (probe_outputs c.in_ok-by_right-in-Right.field-0 right) c.args.kind kind.Right c.args.widths.left c.args.widths.right c.args.keys.now keys c.args.left.now left c.args.right.now right
    c.in-Right.is c.as_slice-keys.ensures c.as_slice-left.ensures c.as_slice-right.ensures (c.in_ok-by_right-in-Right.ensures right) c.rows-in-Right.ensures

pub returns-in_ok-rows-in-Full : goal.returns-in_ok-rows-in-Full
returns-in_ok-rows-in-Full c =
    let keys = c.as_slice-keys.result.now in
    let left = c.as_slice-left.result.now in
    let right = c.as_slice-right.result.now in
    let rows = c.in_ok-rows-in-Full.rows in
    let more = c.in_ok-unmatched-in-Full.unmatched in
    arm c.append.result (rows ++ more) c.args.kind kind.Full c.args.widths.left c.args.widths.right c.args.keys.now keys c.args.left.now left c.args.right.now right
    c.in-Full.is c.as_slice-keys.ensures c.as_slice-left.ensures c.as_slice-right.ensures
    (both rows (probe_outputs c.in_ok-by_left-in-Full.field-0 left) more (outputs PairsOrPadded (nulls c.args.widths.right) (matches keys) left right)
    (outputs PaddedIfUnmatched (nulls c.args.widths.left) (λ row other. matches keys other row) right left)
    c.in_ok-rows-in-Full.ensures (c.in_ok-by_left-in-Full.ensures left) c.in_ok-unmatched-in-Full.ensures)
    c.append.ensures
