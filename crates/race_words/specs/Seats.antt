-- The seats of races, and what each answer says.
use Rattle.std.specs.Prelude.{◌≡◌, ◌≢◌, ℕ, Option, Some, None}
use Rattle.race_words.specs.declared.races.Races.{Races}
use Rattle.race_words.specs.declared.seat.Seat.{Seat}
use Rattle.race_words.specs.declared.view.View.{View}
use Rattle.race_words.specs.declared.poll.Poll.{Poll}
use Rattle.race_words.specs.declared.poll.Poll.TheVariants as poll
use Rattle.race_words.specs.declared.finish.Finish.{Finish}
use Rattle.race_words.specs.declared.finish.Finish.TheVariants as finish
use Rattle.race_words.specs.Views.{shown, win, observing}

-- how many lanes there are
abbrev pub lanes_of : Races → ℕ
lanes_of races = races.lanes

-- what a seat knows
abbrev pub view_of : Seat → View
view_of s = s.seat.me.0

-- this is a seat of these races
abbrev pub IsSeatOf : Races → Seat → Type 0
IsSeatOf races s = s.seat.table_id ≡ races.table.shared.table_id

-- what the lane showed, by the answer to a poll of the round
abbrev pub Polled : ℕ → ℕ → View → Poll → View → Type 0
Polled lane round old poll.Undecided new = new ≡ observing old (shown lane round None)
Polled lane round old (poll.Decided k) new = new ≡ observing old (shown lane round (Some k))
Polled lane round old (poll.Past r) new =
    (r ≢ round) × (winner : Option ℕ) × (new ≡ observing old (shown lane r winner))

-- what the lane showed, by the answer to a runner that is done, or that this runner won
abbrev pub Finished : ℕ → ℕ → ℕ → View → Finish → View → Type 0
Finished lane round runner old finish.Won new = new ≡ observing old (win lane round runner)
Finished lane round runner old (finish.Lost k) new = new ≡ observing old (shown lane round (Some k))
Finished lane round runner old (finish.Past r) new =
    (r ≢ round) × (winner : Option ℕ) × (new ≡ observing old (shown lane r winner))
