use Rattle.std.proofs.Common.{◌≡◌, map, take}
use Rattle.grid_groups.specs.Reads.{by_producers}
use Rattle.grid_groups.proofs.sharing.share_producers.Given as goal

abbrev pub invariant-loop-group : goal.invariant-loop-group
invariant-loop-group l = l.subtasks.items ≡ map (by_producers l.before l.grid l.after) (take l.group-index l.group-items)
