use Rattle.race_board.specs.Tokens.{DeskCounts}
use Rattle.race_board.proofs.board.Board.enter_stop.Given as goal

abbrev pub invariant-loop : goal.invariant-loop
invariant-loop g l =
    (goal.iterator-loop g).can_next l.iterator' × (goal.iterator-loop g).is_finite l.iterator'
    × DeskCounts l.fn.desk l.desk 0 0
