-- A worker before its work, and after it.
use Rattle.std.specs.Prelude.{◌≡◌, true, false, None}
use Rattle.race_words.specs.declared.races.Races.{Races}
use Rattle.race_words.specs.Seats.{view_of, IsSeatOf}
use Rattle.worker_pool.specs.declared.worker.Worker.{Worker}

module _ {L M : Type 0} where
  -- it may work: it owes no report, was not told that the board is stopped, and has a worker's seat
  abbrev pub IsReady : Races → Worker L M → Type 0
  IsReady races w =
      (w.pass.halted ≡ false) × (w.pass.owed ≡ None)
      × IsSeatOf races w.seat × ((view_of w.seat).is_master ≡ false)

  -- its work has ended: it owes no report, and was told that the board is stopped
  abbrev pub IsDone : Races → Worker L M → Type 0
  IsDone races w =
      (w.pass.halted ≡ true) × (w.pass.owed ≡ None)
      × IsSeatOf races w.seat × ((view_of w.seat).is_master ≡ false)
