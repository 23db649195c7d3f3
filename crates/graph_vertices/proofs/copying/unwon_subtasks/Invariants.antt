use Rattle.std.proofs.Common.{◌≡◌, map, take}
use Rattle.graph_model.specs.States.{unwon}
use Rattle.graph_vertices.proofs.copying.unwon_subtasks.Given as goal

abbrev pub invariant-loop-reads : goal.invariant-loop-reads
invariant-loop-reads l = l.subtasks.items ≡ map unwon (take l.reads-index l.reads-items)
