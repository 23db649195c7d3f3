-- What a worker's seat was told last of a race, by what the worker reports.
use Rattle.std.specs.Prelude.{◌≡◌, ◌≢◌, ◌⊎◌, ℕ, Option, Some, None}
use Rattle.race_board.specs.declared.race.Race.{Race}
use Rattle.race_board.specs.declared.report.Report.{Report}
use Rattle.race_board.specs.declared.report.Report.TheVariants.{Ran, Fault, Lost, NoMemory}
use Rattle.race_words.specs.declared.view.Observation.{Observation}
use Rattle.race_words.specs.declared.view.View.{View}
use Rattle.race_words.specs.Views.{shown, observing}

-- the last that it was told is that the round is decided for this runner
abbrev pub WasLost : Race → ℕ → View → Type 0
WasLost race winner view =
    (before : View) × (view ≡ observing before (shown race.lane race.round (Some winner)))

-- the last that it was told of the lane is that the round is decided for the race's own runner, or
-- that the lane is in another round
abbrev pub MayHaveRun : Race → View → Type 0
MayHaveRun race view =
    (before : View) × (o : Observation) × (view ≡ observing before o) × (o.lane ≡ race.lane)
    × ((o.winner ≡ Some race.runner) ⊎ (o.round ≢ race.round))

-- whether the runner has lost to another, as far as it was told
abbrev pub Outcome : Race → Option ℕ → View → Type 0
Outcome race None view = MayHaveRun race view
Outcome race (Some winner) view = WasLost race winner view

-- a task that races is reported as the race came out
abbrev pub Reports : {F : Type 0} → Race → Report F → View → Type 0
Reports race (Ran ran) view = MayHaveRun race view
Reports race (Fault fault) view = Unit {0}
Reports race (Lost name winner) view = WasLost race winner view
Reports race (NoMemory name) view = Unit {0}

-- a report that says nothing of a race, whatever the seat was told
abbrev pub TellsNoRace : {F : Type 0} → Report F → Type 0
TellsNoRace report = (race : Race) → (view : View) → Reports race report view
