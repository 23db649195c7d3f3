-- What a seat knows of the races, and how it grows.
use Rattle.std.specs.Prelude.{ℕ, true, false, Option, Some, [], ◌∷◌, ◌++◌, replicate, slice_set}
use Rattle.race_words.specs.declared.view.Observation.{Observation}
use Rattle.race_words.specs.declared.view.View.{View}

-- the master's seat at first: each lane is in round 0
abbrev pub opening_view : ℕ → View
opening_view lanes = record { is_master = true; rounds = replicate lanes 0; observations = [] }

-- a worker's seat that has observed nothing
abbrev pub newcomer : View
newcomer = record { is_master = false; rounds = []; observations = [] }

-- the lane showed this round with this winner, or undecided
abbrev pub shown : ℕ → ℕ → Option ℕ → Observation
shown lane round winner =
    record { lane = lane; round = round; winner = winner; won = false }

-- the seat's own exchange decided the round for this runner
abbrev pub win : ℕ → ℕ → ℕ → Observation
win lane round runner =
    record { lane = lane; round = round; winner = Some runner; won = true }

-- the view with one observation more
abbrev pub observing : View → Observation → View
observing v o =
    record v { observations = v.observations ++ o ∷ [] }

-- the view after the master began this round of the lane
abbrev pub began : ℕ → ℕ → View → View
began lane round v =
    record v { rounds = slice_set v.rounds lane round }

-- the first view with what the second has observed
abbrev pub joined : View → View → View
joined v w =
    record v { observations = v.observations ++ w.observations }
