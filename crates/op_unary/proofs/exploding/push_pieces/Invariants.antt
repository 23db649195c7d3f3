use Rattle.std.proofs.Common.{◌≡◌, ◌++◌, map, set}
use Rattle.row_core.specs.declared.value.Value.TheVariants.{Text}
use Rattle.op_unary.proofs.exploding.push_pieces.Given as goal

abbrev pub invariant-loop-piece : goal.invariant-loop-piece
invariant-loop-piece l = l.out ≡ l.initial.out ++ map (λ piece. set l.row l.column (Text piece.now)) l.yielded
