use Rattle.std.proofs.Common.{◌≡◌, ◌≤◌, ◌+◌, ◌++◌, map}
use Rattle.graph_model.specs.Reads.{touched}
use Rattle.event_graph.proofs.producing.push_touched.Given as goal

abbrev pub invariant-loop-producer : goal.invariant-loop-producer
invariant-loop-producer l = record {
  list : l.list.items ≡ l.initial.list.items ++ map (λ p. l.first + p) (touched l.rects l.producer);
  within : l.producer ≤ l.count;
}
