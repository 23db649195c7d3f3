-- A log on a disk: what is written, what a crash may leave of it, and what the choices of a crash
-- leave.
use Rattle.std.specs.Prelude.{◌≡◌, ℕ, zero, suc, ◌+◌, ◌/◌, nat_le, List, [], ◌∷◌, ◌++◌, length, take, drop, map}
use Rattle.std.specs.List.{filter}
use Rattle.estate.specs.declared.write.Write.{Write}
use Rattle.estate.specs.declared.log_event.LogEvent.{LogEvent}
use Rattle.estate.specs.declared.log_event.LogEvent.TheVariants.{Wrote, Synced}
use Rattle.estate.specs.declared.log_change.LogChange.{LogChange}
use Rattle.estate.specs.declared.mem_disk.MemDisk.{MemDisk}
use Rattle.estate.specs.Changes.{Torn}

abbrev pub wrote : ℕ → ℕ → List ℕ → LogChange
wrote since at bytes = record { since = since; event = Wrote (record { at = at; bytes = bytes }) }

abbrev pub synced : ℕ → LogChange
synced since = record { since = since; event = Synced }

-- a log with these bytes written at a place
abbrev pub overwritten : List ℕ → ℕ → List ℕ → List ℕ
overwritten log at bytes = take at log ++ bytes ++ drop (at + length bytes) log

-- the log after the writes, in order
abbrev pub applied : List Write → List ℕ → List ℕ
applied [] log = log
applied (write ∷ writes) log = applied writes (overwritten log write.at write.bytes)

-- the log after the writes, each of which may be torn
abbrev pub IsTornBy : List Write → List ℕ → List ℕ → Type 0
IsTornBy [] durable log = log ≡ durable
IsTornBy (write ∷ writes) durable log =
    (between : List ℕ) × Torn write.at (length write.bytes) durable between
    × IsTornBy writes between log

-- what is on the disk, and the writes since the last sync
pub record Disk : Type 0 where
  pub durable : List ℕ
  pub writes : List Write

abbrev pub mem_disk : MemDisk → Disk
mem_disk disk = record { durable = disk.durable.items; writes = disk.writes.items }

-- what a read gives
abbrev pub whole_log : Disk → List ℕ
whole_log disk = applied disk.writes disk.durable

abbrev pub after_event : Disk → LogEvent → Disk
after_event disk (Wrote write) =
    record { durable = disk.durable; writes = disk.writes ++ write ∷ [] }
after_event disk Synced = record { durable = whole_log disk; writes = [] }

abbrev pub after_changes : Disk → List LogChange → Disk
after_changes disk [] = disk
after_changes disk (change ∷ changes) = after_changes (after_event disk change.event) changes

-- the disk after all of it
abbrev pub disk_of : List LogChange → Disk
disk_of changes = after_changes (record { durable = []; writes = [] }) changes

-- what a read gives after all of it
abbrev pub log_of : List LogChange → List ℕ
log_of changes = whole_log (disk_of changes)

-- the disk at a moment
abbrev pub disk_at : ℕ → List LogChange → Disk
disk_at u changes = disk_of (filter (λ change. nat_le change.since u) changes)

abbrev pub filled : Write → Write
filled write = record { at = write.at; bytes = map (λ _. 255) write.bytes }

abbrev pub halved : Write → Write
halved write = record { at = write.at; bytes = take (length write.bytes / 2) write.bytes }

-- the writes, of the last its first half
abbrev pub last_halved : List Write → List Write
last_halved [] = []
last_halved (write ∷ []) = halved write ∷ []
last_halved (write ∷ second ∷ writes) = write ∷ last_halved (second ∷ writes)

-- What a crash keeps of the writes since the last sync, by its choice: none, all, as many bytes
-- 255, or all but the second half of the last.
abbrev pub kept : ℕ → List Write → List Write
kept zero writes = []
kept (suc zero) writes = writes
kept (suc (suc zero)) writes = map filled writes
kept (suc (suc (suc choice))) writes = last_halved writes

abbrev pub chosen_log : ℕ → Disk → List ℕ
chosen_log choice disk = applied (kept choice disk.writes) disk.durable
