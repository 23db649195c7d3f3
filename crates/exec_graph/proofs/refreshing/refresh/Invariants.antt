use Rattle.std.proofs.Common.{take}
use Rattle.ready_subtasks.specs.Touches.{IsRefreshed}
use Rattle.exec_graph.proofs.refreshing.refresh.Given as goal

abbrev pub invariant-loop-place : goal.invariant-loop-place
invariant-loop-place l = IsRefreshed l.job.state.vertices l.attempts (take l.place l.subs) l.initial.ready l.ready
