use Rattle.std.proofs.Common.{◌≡◌, ◌++◌, length, take}
use Rattle.std.specs.List.{flat_map}
use Rattle.std.specs.Int.{w32, to_be_bytes}
use Rattle.part_files.specs.Parts.{cell_file}
use Rattle.part_files.proofs.encoding.add_edge.Given as goal

abbrev pub invariant-loop-cell : goal.invariant-loop-cell
invariant-loop-cell l =
    l.bytes ≡ l.fn.bytes ++ (to_be_bytes w32 (length l.cells) ++ flat_map cell_file (take l.cell-index l.cells))
