use Rattle.std.proofs.Common.{map, take}
use Rattle.std.specs.List.{AllZip}
use Rattle.graph_model.specs.Indexes.{sub_at}
use Rattle.graph_vertices.specs.Winning.{IsWonBy}
use Rattle.event_graph.proofs.winning.winners_of.Given as goal

abbrev pub invariant-loop-place : goal.invariant-loop-place
invariant-loop-place l = AllZip (IsWonBy l.vertices) (map (λ read. sub_at l.subs read.producer) (take l.place l.reads)) l.names.items
