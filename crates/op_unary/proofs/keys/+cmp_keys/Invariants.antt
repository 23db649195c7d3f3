use Rattle.std.proofs.Common.{length}
use Rattle.op_unary.proofs.keys.+cmp_keys.Given as goal

abbrev pub decreases-cmp_keys : goal.decreases-cmp_keys
decreases-cmp_keys l = length l.keys.now
