use Rattle.std.proofs.Common.{◌≡◌, ◌*◌, ◌-◌, ◌^◌, ◌≤◌, map, take}
use Rattle.std.specs.List.{sum}
use Rattle.skew_splitter.proofs.deciding.item_sizes.Given as goal

abbrev pub invariant-loop-item : goal.invariant-loop-item
invariant-loop-item l = record {
  same : l.sizes.items ≡ map (λ item. item.size) (take l.item-index l.items);
  bound : sum l.sizes.items ≤ l.item-index * (2 ^ 64 - 1);
}
