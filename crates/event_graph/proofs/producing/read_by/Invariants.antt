use Rattle.std.proofs.Common.{◌≡◌, take}
use Rattle.event_graph.specs.Numbers.{inputs_numbers}
use Rattle.event_graph.proofs.producing.read_by.Given as goal

abbrev pub invariant-loop-place : goal.invariant-loop-place
invariant-loop-place l = l.list.items ≡ inputs_numbers l.numbers l.vertices (take l.place l.inputs) 0 l.reads
