use Rattle.std.proofs.Common.{[], take}
use Rattle.std.specs.Prelude.{Contains}
use Rattle.rerun_set.specs.Found.{Finds}
use Rattle.rerun_set.proofs.task_set.TaskSet.of.Given as goal

abbrev pub invariant-loop-number : goal.invariant-loop-number
invariant-loop-number l = Finds [] (Contains (take l.number-index l.numbers)) l.set
