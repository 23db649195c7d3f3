use Rattle.std.proofs.Common.{◌≡◌, take}
use Rattle.estate.specs.Disk.{mem_disk, disk_at}
use Rattle.estate.proofs.mem_log.replayed.Given as goal

abbrev pub invariant-loop-change : goal.invariant-loop-change
invariant-loop-change l = mem_disk l.disk ≡ disk_at l.moment (take l.change-index l.changes)
