use Rattle.std.proofs.Common.{◌≡◌, take}
use Rattle.row_core.specs.Hashing.{hash_from}
use Rattle.row_core.proofs.hashing.hash_more.Given as goal

abbrev pub invariant-loop-byte : goal.invariant-loop-byte
invariant-loop-byte l = l.after ≡ hash_from l.state (take l.byte-index l.bytes)
