use Rattle.std.proofs.Common.{◌≡◌, ◌*◌, ◌^◌, ◌≤◌, take}
use Rattle.std.specs.Prelude.{sum}
use Rattle.event_text.proofs.totals.sum_of.Given as goal

abbrev pub invariant-loop-size : goal.invariant-loop-size
invariant-loop-size l = record {
  sum : l.total ≡ sum (take l.size-index l.sizes);
  bound : l.total ≤ l.size-index * 2 ^ 64;
}
