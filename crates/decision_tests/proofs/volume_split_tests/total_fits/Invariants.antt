use Rattle.std.proofs.Common.{◌≡◌, ◌<◌, ◌^◌, sum, take}
use Rattle.decision_tests.proofs.volume_split_tests.total_fits.Given as goal

abbrev pub invariant-loop-size : goal.invariant-loop-size
invariant-loop-size l = record {
  so_far : l.total ≡ sum (take l.size-index l.sizes);
  fits : l.total < 2 ^ 128;
}
