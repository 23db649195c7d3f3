use Rattle.std.specs.Prelude.{All}
use Rattle.race_words.specs.Seats.{IsSeatOf}
use Rattle.decision_tests.proofs.race_words_tests.eight_runners.Given as goal

abbrev pub invariant-loop-number : goal.invariant-loop-number
invariant-loop-number l = IsSeatOf l.races l.seat × All (λ runner. IsSeatOf l.races runner.seat) l.runners.items
