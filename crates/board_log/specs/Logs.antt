-- What stands after the calls that a log has.
use Rattle.std.specs.Prelude.{◌≡◌, ℕ, ◌<◌, true, ◌∷◌, [], ◌++◌, length, get_or}
use Rattle.std.specs.List.{remove}
use Rattle.board_log.specs.declared.found.Found.{Found}
use Rattle.board_log.specs.declared.found.Found.TheVariants.{At, Stop}
use Rattle.board_log.specs.declared.entry.Entry.{Entry}
use Rattle.board_log.specs.declared.entry.Entry.TheVariants.{Claim, Halted}
use Rattle.board_log.specs.declared.log.Log.{Log}
use Rattle.board_log.specs.Runs.{State, after}

-- what stands after the log's calls
abbrev pub state_of : Log → State
state_of log =
    record {
      pending = log.pending.items;
      owed = log.owed.items;
      told = log.told;
      cancels = log.cancels;
      stopped = log.stopped;
      halted = log.halted.items;
    }

-- one entry was added, and nothing else was changed
pub record Enters (old new : Log) (e : Entry) : Type 0 where
  pub history : new.history.items ≡ old.history.items ++ e ∷ []
  pub state : state_of new ≡ after (state_of old) e

-- nothing was changed
pub record Stays (old new : Log) : Type 0 where
  pub history : new.history.items ≡ old.history.items
  pub state : state_of new ≡ state_of old

-- the oldest offer to the worker stood at the place, and is claimed; or the worker is halted
abbrev pub Claims : Log → Log → ℕ → Found → Type 0
Claims old new worker (At k o) =
    Enters old new (Claim worker o.name)
    × (o.worker ≡ worker)
    × (k < length old.pending.items)
    × (new.pending.items ≡ remove old.pending.items k)
    × (get_or old.pending.items k o ≡ o)
Claims old new worker Stop = Enters old new (Halted worker) × (old.stopped ≡ true)
