use Rattle.std.proofs.Common.{◌≡◌, List, map, rules, subst}
use Rattle.std.proofs.lemmas.Fn.{always_returns_same}
use Rattle.std.proofs.lemmas.List.Sorted.{All-permutation, ranks_by, IsPermutation-map}
use Rattle.std.specs.List.Sorted.{IsPermutation}
use Rattle.plan_model.specs.Operators.{key_of}
use Rattle.bag_laws.specs.Rows.{OneRow as Row}
use Rattle.op_unary.specs.declared.keyed.Keyed.{Keyed}
use Rattle.op_unary.specs.Hashes.{hash_of}
use Rattle.op_unary.proofs.ByHash.{hash_less, beside_total, rows_in_order}
use Rattle.op_unary.proofs.Runs.{sorted_map}
use Rattle.op_unary.proofs.keys.by_key.Goals as goal

pub returns-clause-rows : goal.returns-clause-rows
returns-clause-rows c =
    subst (λ (rows : List Row). IsPermutation rows (map (λ keyed. keyed.row.now) c.sort_unstable_by.new.self.items)) c.in_ok-sorted.ensures.rows
    (IsPermutation-map (λ keyed. keyed.row.now) c.in_ok-sorted.sorted.items c.sort_unstable_by.new.self.items c.sort_unstable_by.ensures.permutation)

pub returns-clause-order : goal.returns-clause-order
returns-clause-order c =
    let key = λ (keyed : Keyed). key_of c.args.keys.now keyed.row.now in
    let hash = λ (keyed : Keyed). keyed.hash in
    let items = c.sort_unstable_by.new.self.items in
    let theirs = All-permutation (λ (keyed : Keyed). keyed.hash ≡ hash_of (key_of c.args.keys.now keyed.row.now)) c.in_ok-sorted.sorted.items items c.sort_unstable_by.ensures.permutation c.in_ok-sorted.ensures.hashes in
    sorted_map hash_less key items
    (rows_in_order hash key items theirs
    (c.sort_unstable_by.ensures.sorted _ (ranks_by (beside_total hash key) (λ (keyed : Keyed). keyed)) (always_returns_same _ _ _ (λ a r f' called. search rules))))
