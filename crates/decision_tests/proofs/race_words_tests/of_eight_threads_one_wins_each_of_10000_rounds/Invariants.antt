use Rattle.race_words.specs.Seats.{IsSeatOf}
use Rattle.decision_tests.proofs.race_words_tests.of_eight_threads_one_wins_each_of_10000_rounds.Given as goal

abbrev pub invariant-loop-lane : goal.invariant-loop-lane
invariant-loop-lane g l = IsSeatOf l.races l.seat
