use Rattle.std.proofs.Common.{◌≡◌, ◌<◌, ℕ, List, length, map, rules, sym, ap, subst, ◌∙◌}
use Rattle.std.proofs.lemmas.Fn.{always_returns_same, dedup_same}
use Rattle.std.proofs.lemmas.List.Filters.{All-dedup}
use Rattle.std.proofs.lemmas.List.Sorted.{All-permutation, ranks_by, IsPermutation-map}
use Rattle.std.specs.List.{dedup}
use Rattle.std.specs.Prelude.{All, Bool}
use Rattle.row_core.specs.Bags.{SameBag, one_of_each}
use Rattle.row_core.specs.Values.{same_row}
use Rattle.bag_laws.specs.Rows.{OneRow as Row}
use Rattle.op_unary.specs.declared.hashed_row.HashedRow.{HashedRow}
use Rattle.op_unary.specs.Distinct.{row_at}
use Rattle.op_unary.specs.Hashes.{hash_of}
use Rattle.op_unary.proofs.ByHash.{hash_less, hash_strict, beside_total, rows_in_order}
use Rattle.op_unary.proofs.Deduped.{ties, dedup_ties}
use Rattle.bag_laws.proofs.Laws.{dedup_is}
use Rattle.op_unary.proofs.Runs.{dedup_map, sorted_map}
use Rattle.op_unary.proofs.first_places.by_row.Goals as goal

abbrev hash_in : HashedRow → ℕ
hash_in hashed = hashed.hash

abbrev tie_at : List Row → HashedRow → HashedRow → Bool
tie_at rows = ties hash_in (row_at rows)

pub returns-clause-places : goal.returns-clause-places
returns-clause-places c =
    let rows = c.args.rows.now in
    let items = c.sort_unstable_by.new.self.items in
    let left : c.dedup_by.new.self.items ≡ dedup (tie_at rows) items =
    dedup_same _ (tie_at rows) _ (λ x y b f' x' y' k. search rules) items c.dedup_by.new.self.items c.dedup_by.ensures.filtered in
    let stay = λ (P : HashedRow → Type 0) (are : All P c.args.places.items).
    subst (λ (l : List HashedRow). All P l) (sym left) (All-dedup (tie_at rows) P items (All-permutation P c.args.places.items items c.sort_unstable_by.ensures.permutation are)) in
    record {
      within = stay (λ hashed. hashed.place < length rows) c.requires.within;
      hashes = stay (λ hashed. hashed.hash ≡ hash_of (row_at rows hashed)) c.requires.hashes;
    }

pub returns-clause-each : goal.returns-clause-each
returns-clause-each c =
    let rows = c.args.rows.now in
    let row = row_at rows in
    let places = c.args.places.items in
    let items = c.sort_unstable_by.new.self.items in
    let theirs = All-permutation (λ (hashed : HashedRow). hashed.hash ≡ hash_of (row hashed)) places items c.sort_unstable_by.ensures.permutation c.requires.hashes in
    let up = sorted_map hash_less row items
    (rows_in_order hash_in row items theirs
    (c.sort_unstable_by.ensures.sorted _ (ranks_by (beside_total hash_in row) (λ (hashed : HashedRow). hashed)) (always_returns_same _ _ _ (λ a r f' called. search rules)))) in
    let left : c.dedup_by.new.self.items ≡ dedup (tie_at rows) items =
    dedup_same _ (tie_at rows) _ (λ x y b f' x' y' k. search rules) items c.dedup_by.new.self.items c.dedup_by.ensures.filtered in
    let kept : map row c.dedup_by.new.self.items ≡ dedup same_row (map row items) = ap (map row) (left ∙ dedup_ties hash_in row items theirs) ∙ dedup_map row items in
    subst (λ (l : List Row). SameBag l (one_of_each (map row places))) (sym kept)
    (dedup_is hash_less hash_strict (map row places) (map row items) (IsPermutation-map row places items c.sort_unstable_by.ensures.permutation) up)
