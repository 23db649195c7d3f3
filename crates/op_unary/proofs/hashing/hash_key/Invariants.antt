use Rattle.std.proofs.Common.{◌≡◌, take}
use Rattle.plan_model.specs.Operators.{key_of}
use Rattle.op_unary.specs.Hashes.{hash_of}
use Rattle.op_unary.proofs.hashing.hash_key.Given as goal

abbrev pub invariant-loop-key : goal.invariant-loop-key
invariant-loop-key l = l.state ≡ hash_of (key_of (take l.key-index l.keys) l.row)
