use Rattle.std.proofs.Common.{◌≡◌, ◌*◌, ◌^◌, ◌≤◌, take}
use Rattle.event_text.specs.Lines.{sum_of_all}
use Rattle.event_text.proofs.totals.sum_of_all.Given as goal

abbrev pub invariant-loop-sizes : goal.invariant-loop-sizes
invariant-loop-sizes l = record {
  sum : l.total ≡ sum_of_all (take l.sizes-index l.lists);
  bound : l.total ≤ l.sizes-index * (2 ^ 32 * 2 ^ 64);
}
