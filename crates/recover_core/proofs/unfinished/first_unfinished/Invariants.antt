use Rattle.std.proofs.Common.{◌<◌}
use Rattle.graph_model.specs.Legal.{IsUnfinished}
use Rattle.graph_model.specs.declared.sub.Sub.{Sub}
use Rattle.recover_core.proofs.unfinished.first_unfinished.Given as goal

abbrev pub invariant-loop-vertex : goal.invariant-loop-vertex
invariant-loop-vertex l = (sub : Sub) → sub.vertex < l.vertex → IsUnfinished l.vertices sub → ⊥
