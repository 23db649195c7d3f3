use Rattle.std.proofs.Common.{◌≡◌, ◌+◌, vec_len, All}
use Rattle.race_board.specs.Tokens.{IsNewPass}
use Rattle.race_board.proofs.board.Board.new.Given as goal

abbrev pub invariant-loop-worker : goal.invariant-loop-worker
invariant-loop-worker g l =
    (vec_len l.passes ≡ l.worker)
    × (l.all.parts + l.worker ≡ l.workers + 1) × (l.all.amount ≡ 0)
    × (l.got.parts + l.worker ≡ l.workers + 1) × (l.got.amount ≡ 0)
    × (l.calls.total ≡ 0) × (l.takings.total ≡ 0)
    × All IsNewPass l.passes.items
