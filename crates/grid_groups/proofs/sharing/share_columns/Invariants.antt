use Rattle.std.proofs.Common.{◌≡◌, map, take}
use Rattle.grid_groups.specs.Reads.{by_columns}
use Rattle.grid_groups.proofs.sharing.share_columns.Given as goal

abbrev pub invariant-loop-group : goal.invariant-loop-group
invariant-loop-group l = l.subtasks.items ≡ map (by_columns l.heads l.wide) (take l.group-index l.group-items)
