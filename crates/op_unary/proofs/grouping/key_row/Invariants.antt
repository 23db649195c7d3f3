use Rattle.std.proofs.Common.{◌≡◌, take}
use Rattle.plan_model.specs.Operators.{key_of}
use Rattle.op_unary.proofs.grouping.key_row.Given as goal

abbrev pub invariant-loop-key : goal.invariant-loop-key
invariant-loop-key l = l.values ≡ key_of (take l.key-index l.keys) l.row
