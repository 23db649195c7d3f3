use Rattle.std.proofs.Common.{◌≡◌, List, map, rules, subst}
use Rattle.std.proofs.lemmas.Fn.{always_returns_same}
use Rattle.std.proofs.lemmas.List.Sorted.{All-permutation, ranks_by, IsPermutation-map}
use Rattle.std.specs.Cmp.Lexicographic.{lists_total}
use Rattle.std.specs.List.Sorted.{IsPermutation}
use Rattle.bag_laws.specs.Rows.{OneRow as Row, row_less}
use Rattle.bag_laws.proofs.Laws.{value_total}
use Rattle.op_join.specs.Keys.{compared_key}
use Rattle.row_core.specs.Hashing.{key_of}
use Rattle.op_join.specs.declared.keyed.Keyed.{Keyed}
use Rattle.op_join.proofs.Ranges.{sorted_map}
use Rattle.op_join.proofs.sorted_side.in_key_order.Goals as goal

pub returns-clause-rows : goal.returns-clause-rows
returns-clause-rows c =
    subst (λ (rows : List Row). IsPermutation rows (map (λ (other : Keyed). other.row.now) c.sort_unstable_by.new.self.items)) c.in_ok-sorted.ensures.rows
    (IsPermutation-map (λ (other : Keyed). other.row.now) c.in_ok-sorted.sorted.items c.sort_unstable_by.new.self.items c.sort_unstable_by.ensures.permutation)

pub returns-clause-keyed : goal.returns-clause-keyed
returns-clause-keyed c =
    All-permutation (λ (other : Keyed). compared_key c.args.columns.now other ≡ key_of c.args.columns.now other.row.now) c.in_ok-sorted.sorted.items c.sort_unstable_by.new.self.items c.sort_unstable_by.ensures.permutation c.in_ok-sorted.ensures.keyed

pub returns-clause-order : goal.returns-clause-order
returns-clause-order c =
    let key = compared_key c.args.columns.now in
    sorted_map row_less key c.sort_unstable_by.new.self.items
    (c.sort_unstable_by.ensures.sorted (λ a b. row_less (key a) (key b)) (ranks_by (lists_total value_total) key) (always_returns_same _ _ _ (λ a r f' called. search rules)))
