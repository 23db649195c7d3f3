use Rattle.std.proofs.Common.{◌≡◌, map, take}
use Rattle.event_graph.specs.Numbers.{inputs_numbers}
use Rattle.event_graph.proofs.producing.producers_of.Given as goal

abbrev pub invariant-loop-reads : goal.invariant-loop-reads
invariant-loop-reads l = l.lists.items ≡ map (λ reads. inputs_numbers l.numbers l.vertices l.inputs 0 reads) (take l.reads-index l.reads-items)
