use Rattle.std.proofs.Common.{length}
use Rattle.op_join.proofs.keyed.+cmp_keys.Given as goal

abbrev pub decreases-cmp_keys : goal.decreases-cmp_keys
decreases-cmp_keys l = length l.columns.now
