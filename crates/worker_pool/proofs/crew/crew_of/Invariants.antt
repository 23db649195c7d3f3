use Rattle.std.proofs.Common.{◌≡◌, ◌+◌, vec_len, length, All}
use Rattle.race_board.specs.Tokens.{IsNewPass}
use Rattle.race_words.specs.Seats.{view_of, IsSeatOf}
use Rattle.worker_pool.specs.Workers.{IsReady}
use Rattle.worker_pool.proofs.crew.crew_of.Given as goal

abbrev pub invariant-loop-pass : goal.invariant-loop-pass
invariant-loop-pass g l =
    (vec_len l.crew + vec_len l.passes ≡ length l.fn.passes)
    × IsSeatOf l.races l.seat × (view_of l.seat ≡ view_of l.fn.seat)
    × All (IsReady l.races) l.crew.items
    × All IsNewPass l.passes.items

abbrev pub decreases-loop-pass : goal.decreases-loop-pass
decreases-loop-pass g l = vec_len l.passes
