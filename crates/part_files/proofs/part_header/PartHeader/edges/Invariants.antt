use Rattle.std.proofs.Common.{◌≡◌, length, map}
use Rattle.std.specs.List.{flat_map}
use Rattle.part_files.specs.Parts.{edge_file}
use Rattle.part_files.specs.Sources.{Told, Stands, cells_at}
use Rattle.part_files.proofs.part_header.PartHeader.edges.Given as goal

abbrev pub invariant-loop : goal.invariant-loop
invariant-loop g l = record {
  end : l.self.end ≡ l.fn.self.end;
  count : length l.edges.items ≡ l.counter;
  stands : Told (g.S.Source.told l.source) (λ bytes. Stands bytes l.fn.self.at (flat_map edge_file (map (λ edge. cells_at bytes edge.items) l.edges.items)) l.self.at);
}
