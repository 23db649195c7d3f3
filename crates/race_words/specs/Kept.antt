-- What always holds of the words and of what the seats know, and what each kind of step tells.
use Rattle.std.specs.Prelude.{◌≡◌, ◌≤◌, ◌==◌, ℕ, Bool, true, ◌&&◌, Some, List, if◌then◌else◌, slice_index, sum_by, count_by, length, All, IfSome}
use mathlib.Core.Option.{some}
use lib.ListN.{get_elem?}
use Rattle.atomic_table.specs.Table.{State, Me, Step}
use Rattle.race_words.specs.declared.view.Observation.{Observation}
use Rattle.race_words.specs.declared.view.View.{View}
use Rattle.race_words.specs.Words.{round_of, winner_of}
use Rattle.race_words.specs.Views.{shown, observing, began}

-- the runner that this names is the one for its lane and round
abbrev pub Names : (ℕ → ℕ → ℕ) → Observation → Type 0
Names winner o = IfSome o.winner (λ runner. runner ≡ winner o.lane o.round)

-- whether this is a win of the lane's round
abbrev pub is_win : ℕ → ℕ → Observation → Bool
is_win lane round o = o.won && ((o.lane == lane) && (o.round == round))

-- how many of these are wins of the lane's round
abbrev pub wins : ℕ → ℕ → List Observation → ℕ
wins lane round observations = count_by (is_win lane round) observations

-- all that is observed of one lane and round names one runner, and one of it at most is a win
pub record Agree (observations : List Observation) : Type 0 where
  pub winner : ℕ → ℕ → ℕ
  pub names : All (Names winner) observations
  pub once : (lane round : ℕ) → wins lane round observations ≤ 1

-- the lane has come to this round; a winner stays, as long as the round does; a win has a winner
pub record Stands (winner : ℕ → ℕ → ℕ) (words : List ℕ) (o : Observation) : Type 0 where
  pub reached : o.round ≤ round_of (slice_index words o.lane)
  pub names : (runner : ℕ) → o.winner ≡ Some runner → runner ≡ winner o.lane o.round
  pub stays : (runner : ℕ) → o.winner ≡ Some runner → o.round ≡ round_of (slice_index words o.lane)
      → winner_of (slice_index words o.lane) ≡ Some runner
  pub won : o.won ≡ true → (runner : ℕ) × (o.winner ≡ Some runner)

-- what holds of one seat: it has observed what stands, and the master knows each lane's round
pub record Fits (lanes master : ℕ) (winner : ℕ → ℕ → ℕ) (words : List ℕ) (seat : ℕ) (v : View)
    : Type 0 where
  pub stands : All (Stands winner words) v.observations
  pub one : v.is_master ≡ true → seat ≡ master
  pub long : v.is_master ≡ true → length v.rounds ≡ lanes
  pub rounds : v.is_master ≡ true
      → (lane : ℕ) → slice_index v.rounds lane ≡ round_of (slice_index words lane)

-- each decided round has this winner, and was won once
pub record IsKept (lanes master : ℕ) (winner : ℕ → ℕ → ℕ) (words : List ℕ) (views : List View)
    : Type 0 where
  pub count : length words ≡ lanes
  pub winners : (lane runner : ℕ) → winner_of (slice_index words lane) ≡ Some runner
      → runner ≡ winner lane (round_of (slice_index words lane))
  pub seats : (seat : ℕ) (v : View) → get_elem? views seat ≡ some v
      → Fits lanes master winner words seat v
  pub once : (lane round : ℕ) → sum_by (λ (v : View). wins lane round v.observations) views ≤ 1

-- the rule of the table: there is one master, and one winner for each decided round
abbrev pub Kept : {S : Type 0} → ℕ → State S View → Type 0
Kept lanes s =
    (master : ℕ) × (winner : ℕ → ℕ → ℕ) × IsKept lanes master winner s.words s.views

-- the view of who found this word in the lane
abbrev pub observed : ℕ → ℕ → View → View
observed lane word v = observing v (shown lane (round_of word) (winner_of word))

-- the view of who found this word in an exchange of an old word for a new one
abbrev pub exchanged : ℕ → ℕ → ℕ → ℕ → View → View
exchanged lane old new word v =
    if word == old
    then observing v (record (shown lane (round_of new) (winner_of new)) { won = true })
    else observed lane word v

-- a swap to the new word begins its round
abbrev pub Begins : {S : Type 0} → Step S → Me S View → ℕ → Me S View → Type 0
Begins s v found w = (w.0 ≡ began s.word (round_of s.first) v.0) × (w.1 ≡ v.1)

-- the master finds the round that it knows
abbrev pub ReadsRound : {S : Type 0} → Step S → Me S View → ℕ → Me S View → Type 0
ReadsRound s v found w =
    (w.0 ≡ v.0) × (w.1 ≡ v.1)
    × (v.0.is_master ≡ true → slice_index v.0.rounds s.word ≡ round_of found)

-- a load observes what it finds
abbrev pub Observes : {S : Type 0} → Step S → Me S View → ℕ → Me S View → Type 0
Observes s v found w = (w.0 ≡ observed s.word found v.0) × (w.1 ≡ v.1)

-- an exchange wins, or observes what it finds
abbrev pub Decides : {S : Type 0} → Step S → Me S View → ℕ → Me S View → Type 0
Decides s v found w = (w.0 ≡ exchanged s.word s.first s.second found v.0) × (w.1 ≡ v.1)

-- what the seat has observed agrees
abbrev pub Compares : {S : Type 0} → Step S → Me S View → ℕ → Me S View → Type 0
Compares s v found w = (w.0 ≡ v.0) × (w.1 ≡ v.1) × Agree v.0.observations
