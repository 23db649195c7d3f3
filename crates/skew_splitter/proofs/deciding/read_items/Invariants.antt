use Rattle.std.proofs.Common.{◌≡◌, map, take}
use Rattle.skew_splitter.specs.Decisions.{by_items}
use Rattle.skew_splitter.proofs.deciding.read_items.Given as goal

abbrev pub invariant-loop-group : goal.invariant-loop-group
invariant-loop-group l = l.subtasks.items ≡ map (by_items l.items l.wide) (take l.group-index l.group-items)
