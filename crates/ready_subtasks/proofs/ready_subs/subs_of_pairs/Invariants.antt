use Rattle.std.proofs.Common.{◌≡◌, map, take}
use Rattle.ready_subtasks.specs.Marks.{sub_of_pair}
use Rattle.ready_subtasks.proofs.ready_subs.subs_of_pairs.Given as goal

abbrev pub invariant-loop-place : goal.invariant-loop-place
invariant-loop-place l = l.subs.items ≡ map sub_of_pair (take l.place l.pairs)
