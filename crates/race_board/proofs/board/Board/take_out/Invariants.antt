use Rattle.std.proofs.Common.{◌≡◌, ◌+◌, vec_len, length, sum_by}
use Rattle.race_board.proofs.board.Board.take_out.Given as goal

abbrev pub invariant-loop-pass : goal.invariant-loop-pass
invariant-loop-pass g l =
    (l.all.parts + vec_len l.passes ≡ 1 + length l.fn.passes)
    × (l.got.parts + vec_len l.passes ≡ 1 + length l.fn.passes)
    × (l.all.amount + sum_by (λ p. p.calls.amount) l.passes.items ≡ l.fn.desk.calls.amount + sum_by (λ p. p.calls.amount) l.fn.passes)
    × (l.got.amount + sum_by (λ p. p.takings.amount) l.passes.items ≡ l.fn.desk.takings.amount + sum_by (λ p. p.takings.amount) l.fn.passes)

abbrev pub decreases-loop-pass : goal.decreases-loop-pass
decreases-loop-pass g l = goal.left-loop-pass g l
