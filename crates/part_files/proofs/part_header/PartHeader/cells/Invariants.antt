use Rattle.std.proofs.Common.{◌≡◌, length}
use Rattle.std.specs.List.{flat_map}
use Rattle.part_files.specs.Parts.{cell_file}
use Rattle.part_files.specs.Sources.{Told, Stands, cells_at}
use Rattle.part_files.proofs.part_header.PartHeader.cells.Given as goal

abbrev pub invariant-loop : goal.invariant-loop
invariant-loop g l = record {
  end : l.self.end ≡ l.fn.self.end;
  count : length l.cells.items ≡ l.counter;
  stands : Told (g.S.Source.told l.source) (λ bytes. Stands bytes l.fn.self.at (flat_map cell_file (cells_at bytes l.cells.items)) l.self.at);
}
