use Rattle.std.proofs.Common.{rules}
use Rattle.std.proofs.lemmas.Fn.{always_returns_same}
use Rattle.std.proofs.lemmas.List.Sorted.{ranks_by}
use Rattle.op_unary.specs.declared.group.Group.{Group}
use Rattle.op_unary.proofs.ByHash.{hash_less, hash_total}
use Rattle.op_unary.proofs.Runs.{sorted_map}
use Rattle.op_unary.proofs.merging_groups.in_order.Goals as goal

pub returns-clause-order : goal.returns-clause-order
returns-clause-order c =
    let key = λ (group : Group). group.key in
    sorted_map hash_less key c.sort_unstable_by.new.self.items
    (c.sort_unstable_by.ensures.sorted _ (ranks_by hash_total key) (always_returns_same _ _ _ (λ a r f' called. search rules)))
