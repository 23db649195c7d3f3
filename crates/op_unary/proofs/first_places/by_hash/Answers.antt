use Rattle.std.proofs.Common.{◌≡◌, ◌<◌, ℕ, List, length, map, rules, sym, ap, subst, ◌∙◌}
use Rattle.std.proofs.lemmas.Fn.{dedup_same}
use Rattle.std.proofs.lemmas.List.Filters.{All-dedup}
use Rattle.std.proofs.lemmas.List.Sorted.{All-permutation, IsPermutation-map}
use Rattle.std.specs.List.{dedup}
use Rattle.std.specs.Prelude.{All, Bool}
use Rattle.row_core.specs.Bags.{SameBag, one_of_each}
use Rattle.row_core.specs.Values.{same_row}
use Rattle.bag_laws.specs.Rows.{OneRow as Row}
use Rattle.bag_laws.proofs.Laws.{same_on, same_sym}
use Rattle.bag_laws.proofs.Laws.{SameBag-one_of_each}
use Rattle.bag_laws.proofs.Laws.{same_of_permutation}
use Rattle.op_unary.specs.declared.hashed_row.HashedRow.{HashedRow}
use Rattle.op_unary.specs.Distinct.{row_at}
use Rattle.op_unary.specs.Hashes.{hash_of}
use Rattle.op_unary.proofs.Deduped.{ties, dedup_ties}
use Rattle.op_unary.proofs.Rising.{still_each}
use Rattle.op_unary.proofs.Runs.{dedup_map}
use Rattle.op_unary.proofs.first_places.by_hash.Goals as goal

abbrev hash_in : HashedRow → ℕ
hash_in hashed = hashed.hash

abbrev tie_at : List Row → HashedRow → HashedRow → Bool
tie_at rows = ties hash_in (row_at rows)

pub returns-clause-places : goal.returns-clause-places
returns-clause-places c =
    let rows = c.args.rows.now in
    let items = c.sort_by.new.self.items in
    let left : c.dedup_by.new.self.items ≡ dedup (tie_at rows) items =
    dedup_same _ (tie_at rows) _ (λ x y b f' x' y' k. search rules) items c.dedup_by.new.self.items c.dedup_by.ensures.filtered in
    let stay = λ (P : HashedRow → Type 0) (are : All P c.args.places.items).
    subst (λ (l : List HashedRow). All P l) (sym left) (All-dedup (tie_at rows) P items (All-permutation P c.args.places.items items c.sort_by.ensures.permutation are)) in
    record {
      within = stay (λ hashed. hashed.place < length rows) c.requires.within;
      hashes = stay (λ hashed. hashed.hash ≡ hash_of (row_at rows hashed)) c.requires.hashes;
    }

pub returns-clause-same : goal.returns-clause-same
returns-clause-same c =
    let rows = c.args.rows.now in
    let row = row_at rows in
    let places = c.args.places.items in
    let items = c.sort_by.new.self.items in
    let theirs = All-permutation (λ (hashed : HashedRow). hashed.hash ≡ hash_of (row hashed)) places items c.sort_by.ensures.permutation c.requires.hashes in
    let left : c.dedup_by.new.self.items ≡ dedup (tie_at rows) items =
    dedup_same _ (tie_at rows) _ (λ x y b f' x' y' k. search rules) items c.dedup_by.new.self.items c.dedup_by.ensures.filtered in
    let kept : map row c.dedup_by.new.self.items ≡ dedup same_row (map row items) = ap (map row) (left ∙ dedup_ties hash_in row items theirs) ∙ dedup_map row items in
    let moved : SameBag (one_of_each (map row items)) (one_of_each (map row places)) =
    SameBag-one_of_each (map row items) (map row places) (same_sym (same_of_permutation (map row places) (map row items) (IsPermutation-map row places items c.sort_by.ensures.permutation))) in
    subst (λ (l : List Row). SameBag (one_of_each l) (one_of_each (map row places))) (sym kept) (same_on (still_each (map row items)) moved)
