use Rattle.std.proofs.Common.{◌≡◌, map, take}
use Rattle.graph_model.specs.Indexes.{sub_at}
use Rattle.exec_graph.proofs.touching.subs_at.Given as goal

abbrev pub invariant-loop-place : goal.invariant-loop-place
invariant-loop-place l = l.found.items ≡ map (sub_at l.subs) (take l.place l.numbers)
