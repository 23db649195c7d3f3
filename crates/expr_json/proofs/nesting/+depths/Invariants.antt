use Rattle.std.proofs.Common.{◌≡◌, ◌<◌, ◌-◌, ◌^◌, min, max, drop}
use Rattle.serde_json.specs.View.{items_view}
use Rattle.expr_json.specs.Depths.{greatest_depth}
use Rattle.expr_json.proofs.nesting.+depths.Given as goal

abbrev pub invariant-depth_within-loop-item : goal.invariant-depth_within-loop-item
invariant-depth_within-loop-item l =
    (l.greatest < 2 ^ 64) × (min (max l.greatest (greatest_depth (items_view (drop l.item-index l.item-items)))) (2 ^ 64 - 1) ≡ min (greatest_depth (items_view l.items.items)) (2 ^ 64 - 1))
