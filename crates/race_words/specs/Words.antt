-- A lane's word: its round times 256, plus 0 while it is undecided, or the winner's number plus 1.
use Rattle.std.specs.Prelude.{◌≡◌, ◌≢◌, ◌+◌, ◌-◌, ◌*◌, ◌/◌, ◌%◌, ◌==◌, ℕ, Option, Some, None, if◌then◌else◌}
use Rattle.race_words.specs.declared.poll.Poll.{Poll}
use Rattle.race_words.specs.declared.poll.Poll.TheVariants as poll
use Rattle.race_words.specs.declared.finish.Finish.{Finish}
use Rattle.race_words.specs.declared.finish.Finish.TheVariants as finish

-- the round that a word shows
abbrev pub round_of : ℕ → ℕ
round_of word = word / 256

-- the runner for which the word shows its round decided
abbrev pub winner_of : ℕ → Option ℕ
winner_of word = if word % 256 == 0 then None else Some (word % 256 - 1)

-- the word of an undecided round
abbrev pub undecided : ℕ → ℕ
undecided round = round * 256

-- the word of a round that is decided for this runner
abbrev pub decided : ℕ → ℕ → ℕ
decided round runner = round * 256 + (runner + 1)

-- what the answer to a poll of the round says of the word
abbrev pub PollShows : ℕ → ℕ → Poll → Type 0
PollShows round word poll.Undecided = (round_of word ≡ round) × (winner_of word ≡ None)
PollShows round word (poll.Decided k) = (round_of word ≡ round) × (winner_of word ≡ Some k)
PollShows round word (poll.Past shown) = (round_of word ≡ shown) × (shown ≢ round)

-- what the answer to a runner that is done says of the word that it found
abbrev pub FinishShows : ℕ → ℕ → Finish → Type 0
FinishShows round word finish.Won = (round_of word ≡ round) × (winner_of word ≡ None)
FinishShows round word (finish.Lost k) = (round_of word ≡ round) × (winner_of word ≡ Some k)
FinishShows round word (finish.Past shown) = (round_of word ≡ shown) × (shown ≢ round)
