use Rattle.std.proofs.Common.{◌≡◌, false, None}
use Rattle.race_words.specs.Seats.{view_of, IsSeatOf}
use Rattle.worker_pool.proofs.working.work.Given as goal

abbrev pub invariant-loop : goal.invariant-loop
invariant-loop g l =
    (goal.iterator-loop g).can_next l.iterator' × (goal.iterator-loop g).is_finite l.iterator'
    × (l.pass.halted ≡ false) × (l.pass.owed ≡ None) × (l.pass.worker ≡ l.fn.pass.worker)
    × IsSeatOf l.races l.seat × ((view_of l.seat).is_master ≡ (view_of l.fn.seat).is_master)
