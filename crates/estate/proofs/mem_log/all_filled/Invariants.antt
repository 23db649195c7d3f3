use Rattle.std.proofs.Common.{◌≡◌, take, map}
use Rattle.estate.specs.Disk.{filled}
use Rattle.estate.proofs.mem_log.all_filled.Given as goal

abbrev pub invariant-loop-write : goal.invariant-loop-write
invariant-loop-write l = l.made.items ≡ map filled (take l.write-index l.writes)
