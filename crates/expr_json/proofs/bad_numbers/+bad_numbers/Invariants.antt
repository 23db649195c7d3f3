use Rattle.std.proofs.Common.{◌≡◌, drop}
use Rattle.serde_json.specs.View.{items_view}
use Rattle.expr_json.specs.BadNumbers.{bad_number_among}
use Rattle.expr_json.proofs.bad_numbers.+bad_numbers.Given as goal

abbrev pub invariant-has_bad_item-loop-item : goal.invariant-has_bad_item-loop-item
invariant-has_bad_item-loop-item l = bad_number_among (items_view (drop l.item-index l.item-items)) ≡ bad_number_among (items_view l.items.items)
