use Rattle.std.proofs.Common.{◌≡◌, take}
use Rattle.part_store.specs.Cells.{sizes_of}
use Rattle.part_store.proofs.sizing.sizes.Given as goal

abbrev pub invariant-loop-edge : goal.invariant-loop-edge
invariant-loop-edge l = l.sizes.items ≡ sizes_of (take l.edge-index l.edges)
