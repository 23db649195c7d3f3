use Rattle.std.proofs.Common.{◌≡◌}
use Rattle.race_board.specs.Tokens.{PassStays}
use Rattle.race_board.proofs.board.Board.enter_report.Given as goal

abbrev pub invariant-loop : goal.invariant-loop
invariant-loop g l =
    (goal.iterator-loop g).can_next l.iterator' × (goal.iterator-loop g).is_finite l.iterator'
    × PassStays l.fn.pass l.pass × (l.report ≡ l.fn.report)
