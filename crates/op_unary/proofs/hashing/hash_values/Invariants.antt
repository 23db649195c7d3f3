use Rattle.std.proofs.Common.{◌≡◌, take}
use Rattle.op_unary.specs.Hashes.{hash_of}
use Rattle.op_unary.proofs.hashing.hash_values.Given as goal

abbrev pub invariant-loop-value : goal.invariant-loop-value
invariant-loop-value l = l.state ≡ hash_of (take l.value-index l.values)
