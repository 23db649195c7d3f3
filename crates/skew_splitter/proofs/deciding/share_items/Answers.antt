use Rattle.std.proofs.Common.{arith, sym, ◌∙◌, ◌++◌}
use Rattle.skew_splitter.specs.declared.sizes.Sizes.{Sizes}
use Rattle.skew_splitter.specs.Columns.{column_items}
use Rattle.skew_splitter.proofs.Steps.{flat_more, long_sizes, size_read}
use Rattle.skew_splitter.proofs.deciding.share_items.Goals as goal

pub index-requires : goal.index-requires
index-requires c = omega (arith, c.in_ok-lefts.lefts.ok.0, long_sizes c.args.left.now.cells c.args.left.now c.in_ok-lefts.lefts.items c.in_ok-lefts.ensures)

pub index-requires-in-loop-column : goal.index-requires-in-loop-column
index-requires-in-loop-column c = omega (arith, c.in_ok-rights.rights.ok.0, long_sizes c.args.left.now.cells c.args.right.now c.in_ok-rights.rights.items c.in_ok-rights.ensures)

pub push_column-requires-clause-sizes : goal.push_column-requires-clause-sizes
push_column-requires-clause-sizes c = λ i. record {
  left = size_read c.args.left.now.cells c.args.left.now c.in_ok-lefts.lefts.items c.loop-column.column c.index.result.now
      c.in_ok-lefts.ensures c.loop-column-test.true c.index.ensures i;
  right = size_read c.args.left.now.cells c.args.right.now c.in_ok-rights.rights.items c.loop-column.column c.index-in-loop-column.result.now
      c.in_ok-rights.ensures c.loop-column-test.true c.index-in-loop-column.ensures i;
}

pub loop-column-preserved : goal.loop-column-preserved
loop-column-preserved c =
    let medians : Sizes = record { left = c.in_ok-median.field-0; right = c.in_ok-median-2.field-0 } in
    c.in_ok-push_column.ensures
    ∙ (λ i. c.loop-column.invariant i ++ column_items c.args.kind c.args.settings.now medians c.args.left.now c.args.right.now c.loop-column.column)
    ∙ sym (flat_more (column_items c.args.kind c.args.settings.now medians c.args.left.now c.args.right.now) c.loop-column.column)
