use Rattle.std.proofs.Common.{◌≡◌, take}
use Rattle.std.specs.Prelude.{fold}
use Rattle.op_unary.specs.Hashes.{mixed}
use Rattle.op_unary.proofs.hashing.hash_bytes.Given as goal

abbrev pub invariant-loop-byte : goal.invariant-loop-byte
invariant-loop-byte l = l.after ≡ fold mixed l.state (take l.byte-index l.bytes)
