use Rattle.std.proofs.Common.{◌≡◌, ◌++◌, map, take}
use Rattle.skew_splitter.specs.Columns.{item_of}
use Rattle.skew_splitter.proofs.columns.push_pieces.Given as goal

abbrev pub invariant-loop-group : goal.invariant-loop-group
invariant-loop-group l = l.items.items ≡ l.initial.items.items ++ map (item_of l.side l.own l.other l.column) (take l.group-index l.group-items)
