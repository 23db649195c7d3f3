use Rattle.std.proofs.Common.{◌≡◌, ◌++◌, length, take}
use Rattle.std.specs.List.{flat_map}
use Rattle.std.specs.Int.{w32, to_be_bytes}
use Rattle.part_files.specs.Parts.{edge_file}
use Rattle.part_files.proofs.encoding.part_bytes.Given as goal

abbrev pub invariant-loop-edge : goal.invariant-loop-edge
invariant-loop-edge l =
    l.bytes ≡ to_be_bytes w32 (length l.edges) ++ flat_map edge_file (take l.edge-index l.edges)
