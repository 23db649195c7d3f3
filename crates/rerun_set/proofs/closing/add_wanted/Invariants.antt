use Rattle.std.proofs.Common.{ℕ, take}
use Rattle.rerun_set.specs.Found.{Finds}
use Rattle.rerun_set.specs.Reruns.{HasOpenReader}
use Rattle.rerun_set.proofs.Leading.{Led}
use Rattle.rerun_set.proofs.closing.add_wanted.Given as goal

abbrev pub invariant-loop-task : goal.invariant-loop-task
invariant-loop-task l = Finds l.initial.again (Led (λ (n : ℕ). n) (HasOpenReader l.tasks) (take l.task-index l.task-items)) l.again
