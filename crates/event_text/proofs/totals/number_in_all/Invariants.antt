use Rattle.std.proofs.Common.{◌≡◌, ◌*◌, ◌^◌, ◌≤◌, take}
use Rattle.event_text.specs.Lines.{number_in_all}
use Rattle.event_text.proofs.totals.number_in_all.Given as goal

abbrev pub invariant-loop-sizes : goal.invariant-loop-sizes
invariant-loop-sizes l = record {
  number : l.number ≡ number_in_all (take l.sizes-index l.lists);
  bound : l.number ≤ l.sizes-index * 2 ^ 32;
}
