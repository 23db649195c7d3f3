use Rattle.std.proofs.Common.{◌≡◌, drop}
use Rattle.estate.specs.Disk.{applied}
use Rattle.estate.proofs.mem_log.apply_all.Given as goal

abbrev pub invariant-loop-write : goal.invariant-loop-write
invariant-loop-write l = applied (drop l.write-index l.writes) l.log.items ≡ applied l.writes l.initial.log.items
