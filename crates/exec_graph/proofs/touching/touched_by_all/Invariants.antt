use Rattle.std.proofs.Common.{take}
use Rattle.ready_subtasks.specs.Touches.{AreTouched}
use Rattle.exec_graph.proofs.touching.touched_by_all.Given as goal

abbrev pub invariant-loop-place : goal.invariant-loop-place
invariant-loop-place l = AreTouched l.job.state.vertices (take l.place l.subs) l.touched.items
