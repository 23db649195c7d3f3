use Rattle.std.proofs.Common.{length}
use Rattle.grid_groups.proofs.Groups.{small_start, small_end}
use Rattle.grid_groups.proofs.sharing.share_columns.Goals as goal

pub read_columns-requires-clause-start : goal.read_columns-requires-clause-start
read_columns-requires-clause-start c =
    small_start (length c.in_ok-column_sizes.field-0) c.loop-group.group-index (record { start = 0; end = 0 })
    c.as_slice-group-items.result.now c.in_ok-groups.groups c.as_slice-group-items.ensures
    c.in_ok-groups.ensures.parts c.in_ok-column_sizes.ensures.few c.loop-group-test.true

pub read_columns-requires-clause-end : goal.read_columns-requires-clause-end
read_columns-requires-clause-end c =
    small_end (length c.in_ok-column_sizes.field-0) c.loop-group.group-index (record { start = 0; end = 0 })
    c.as_slice-group-items.result.now c.in_ok-groups.groups c.as_slice-group-items.ensures
    c.in_ok-groups.ensures.parts c.in_ok-column_sizes.ensures.few c.loop-group-test.true
