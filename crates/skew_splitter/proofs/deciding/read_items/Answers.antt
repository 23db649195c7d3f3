use Rattle.std.proofs.Common.{length, ap, ◌∙◌}
use Rattle.std.proofs.lemmas.List.{length-map}
use Rattle.skew_splitter.specs.declared.item.Item.{Item}
use Rattle.skew_splitter.proofs.Steps.{group_ordered, group_within}
use Rattle.skew_splitter.proofs.deciding.read_items.Goals as goal

pub read_group-requires-clause-ordered : goal.read_group-requires-clause-ordered
read_group-requires-clause-ordered c =
    group_ordered c.in_ok-item_sizes.field-0 c.as_slice-group-items.result.now c.in_ok-groups.groups c.as_slice-group-items.ensures c.in_ok-groups.ensures.parts
    c.loop-group.group-index (record { start = 0; end = 0 }) c.loop-group-test.true (length c.args.items.now)
    (ap length c.in_ok-item_sizes.ensures.sizes ∙ length-map c.args.items.now (λ (item : Item). item.size))

pub read_group-requires-clause-within : goal.read_group-requires-clause-within
read_group-requires-clause-within c =
    group_within c.in_ok-item_sizes.field-0 c.as_slice-group-items.result.now c.in_ok-groups.groups c.as_slice-group-items.ensures c.in_ok-groups.ensures.parts
    c.loop-group.group-index (record { start = 0; end = 0 }) c.loop-group-test.true (length c.args.items.now)
    (ap length c.in_ok-item_sizes.ensures.sizes ∙ length-map c.args.items.now (λ (item : Item). item.size))
