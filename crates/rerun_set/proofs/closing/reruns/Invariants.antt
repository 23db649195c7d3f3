use Rattle.std.proofs.Common.{length, ◌-◌}
use Rattle.rerun_set.proofs.Underway.{IsUnderway}
use Rattle.rerun_set.proofs.closing.reruns.Given as goal

abbrev pub invariant-loop-next : goal.invariant-loop-next
invariant-loop-next l = IsUnderway l.tasks l.gone l.awaited l.again l.next

abbrev pub decreases-loop-next : goal.decreases-loop-next
decreases-loop-next l = length l.tasks.done - l.next
