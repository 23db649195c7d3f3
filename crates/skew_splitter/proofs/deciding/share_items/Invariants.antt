use Rattle.std.proofs.Common.{◌≡◌}
use Rattle.std.specs.List.{flat_map, range_with_len}
use Rattle.skew_splitter.specs.Columns.{column_items}
use Rattle.skew_splitter.proofs.deciding.share_items.Given as goal

abbrev pub invariant-loop-column : goal.invariant-loop-column
invariant-loop-column l = l.items.items ≡ flat_map (column_items l.kind l.settings l.medians l.left l.right) (range_with_len 0 l.column)
