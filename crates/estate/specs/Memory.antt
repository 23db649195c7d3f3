-- The objects in memory, as contracts see them.
use Rattle.std.specs.Prelude.{◌≡◌, ℕ, ◌+◌, ◌*◌, ◌<◌, true, nat_le, List, length, count_by}
use Rattle.estate.specs.declared.calls.TheConstants.{MOST_CALLS}
use Rattle.estate.specs.declared.loss.Loss.{Loss}
use Rattle.estate.specs.Calls.{FailsAsListed, LosesDue}
use Rattle.estate.specs.declared.mem_estate.MemEstate.{MemEstate}
use Rattle.estate.specs.declared.mem_inputs.MemInputs.{MemInputs}
use Rattle.estate.specs.declared.mem_printer.MemPrinter.{MemPrinter}
use Rattle.estate.specs.declared.fixed_clock.FixedClock.{FixedClock}
use Rattle.estate.specs.Contents.{Contents, files_in}
use Rattle.estate.specs.Printed.{Printed}
use Rattle.estate.specs.Readings.{Readings, reading}
use Rattle.estate.specs.Holding.{Counts}
use Rattle.estate.specs.World.{World}
use Rattle.estate.specs.Pasts.{Past, past_world, History, past_at, Enters}

abbrev pub mem_contents : MemInputs → Contents
mem_contents inputs =
    record { told = true; job = inputs.job; files = files_in inputs.tables; faults = inputs.faults }

abbrev pub mem_printed : MemPrinter → Printed
mem_printed printer = record { told = true; bytes = printer.bytes; faults = printer.faults }

abbrev pub clock_readings : FixedClock → Readings
clock_readings clock = record { told = true; at = λ k. reading clock.moments (clock.place + k) }

abbrev pub history_of : MemEstate → History
history_of estate = record {
  log = estate.log.changes.items;
  shelf = estate.shelf.parts.items;
  sink = estate.sink.items;
}

abbrev pub counts_of : MemEstate → Counts
counts_of estate = record {
  log_faults = estate.log_faults;
  shelf_faults = estate.shelf_faults;
  sink_faults = estate.sink_faults;
  losses = estate.losses;
}

-- Time goes on by two at each call, and by one where `lose` drops a part.
abbrev pub clock_of : MemEstate → ℕ
clock_of estate = 2 * estate.calls.count + length estate.drops.items

abbrev pub mem_world : MemEstate → World
mem_world estate = past_world (past_at (history_of estate)) (clock_of estate) (counts_of estate)

-- the beginning, then for each call one within it and one at its exit
abbrev pub moments_of : MemEstate → ℕ
moments_of estate = 2 * estate.calls.count + 1

-- the time of a moment: so many parts were dropped up to it
abbrev pub time_of : MemEstate → ℕ → ℕ
time_of estate moment = moment + count_by (λ drop. nat_le drop moment) estate.drops.items

-- what stood at a moment
abbrev pub past_of : MemEstate → ℕ → Past
past_of estate moment = past_at (history_of estate) (time_of estate moment)

-- what stands at the present
abbrev pub present_of : MemEstate → Past
present_of estate = past_at (history_of estate) (clock_of estate)

-- a call has begun
pub record HasEntered (old new : MemEstate) : Type 0 where
  pub drops : new.drops.items ≡ old.drops.items
  pub enters : Enters (history_of old) (history_of new) (clock_of old) (counts_of old)
      (counts_of new)
  pub clock : clock_of new ≡ clock_of old + 2

-- the numbers of the calls of an estate that fail
abbrev pub failing_of : MemEstate → List ℕ
failing_of estate = estate.calls.failing.items

-- the losses to come of an estate
abbrev pub losing_of : MemEstate → List Loss
losing_of estate = estate.losing.items

-- how many calls an estate has counted, which is the number of its next
abbrev pub calls_of : MemEstate → ℕ
calls_of estate = estate.calls.count

-- a call of an estate: it fails as listed, and while calls are counted it loses what is due
abbrev pub IsCall : Type 0 → MemEstate → MemEstate → Type 0
IsCall failed old new =
    FailsAsListed failed old.calls new.calls
    × (losing_of new ≡ losing_of old)
    × (calls_of old < MOST_CALLS →
    LosesDue (losing_of old) (calls_of old) (mem_world old).holding.held
    (mem_world new).holding.held)
