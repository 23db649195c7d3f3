use Rattle.std.proofs.Common.{◌≡◌, ◌≤◌, ◌++◌, ◌+◌, ◌*◌, ℕ, List, length, map, sym, subst, arith}
use Rattle.std.proofs.lemmas.List.{map-append}
use Rattle.row_core.specs.Bags.{SameBag, one_of_each}
use Rattle.bag_laws.specs.Rows.{OneRow as Row}
use Rattle.bag_laws.proofs.Laws.{same_refl, same_sym}
use Rattle.bag_laws.proofs.Laws.{SameBag-append}
use Rattle.bag_laws.proofs.Laws.{same_of_permutation}
use Rattle.plan_model.specs.Operators.{key_of}
use Rattle.plan_model.specs.declared.agg.Agg.{Agg}
use Rattle.op_unary.specs.Groups.{AreGroupsOf, GroupTable, StandsFor, key_count}
use Rattle.op_unary.specs.declared.group.Group.{Group}
use Rattle.op_unary.specs.declared.keyed.Keyed.{Keyed}
use Rattle.op_unary.proofs.Parts.{no_fewer}
use Rattle.op_unary.proofs.GroupRows.{as_many, groups_bag}
use Rattle.op_unary.proofs.groups.Groups.with_rows.Goals.{In_ok-groups}
use Rattle.op_unary.proofs.groups.Groups.with_rows.Goals as goal

abbrev row : Keyed → Row
row keyed = keyed.row.now

-- groups of rows in another order, by keys and aggregates with another name
groups_more : (by keys : List ℕ) (over aggs : List Agg) → by ≡ keys → over ≡ aggs → (old new : List Group) (before rows sorted : List Row) → SameBag sorted rows
    → ((before : List Row) → AreGroupsOf by over old before → AreGroupsOf by over new (before ++ sorted)) → AreGroupsOf keys aggs old before → AreGroupsOf keys aggs new (before ++ rows)
groups_more by keys over aggs is also old new before rows sorted same more t =
    groups_bag keys aggs new (before ++ sorted) (before ++ rows)
    (subst (λ (k : List ℕ). AreGroupsOf k aggs new (before ++ sorted)) is
    (subst (λ (a : List Agg). AreGroupsOf by a new (before ++ sorted)) also
    (more before (subst (λ (k : List ℕ). AreGroupsOf k over old before) (sym is) (subst (λ (a : List Agg). AreGroupsOf keys a old before) (sym also) t)))))
    (SameBag-append before sorted before rows (same_refl before) same)

part_groups : (c : In_ok-groups) (keys : List ℕ) (aggs : List Agg) (before : List Row) → c.self.inside.keys.now ≡ keys → c.self.inside.aggs.now ≡ aggs
    → AreGroupsOf keys aggs c.self.inside.groups.items before → AreGroupsOf keys aggs c.in_ok-groups.groups.items (before ++ c.args.rows.now)
part_groups c keys aggs before is also t =
    let own = c.self.inside in
    let sorted = map row c.in_ok-sorted.sorted.items in
    groups_more own.keys.now keys own.aggs.now aggs is also own.groups.items c.in_ok-groups.groups.items before c.args.rows.now sorted
    (same_sym (same_of_permutation c.args.rows.now sorted c.in_ok-sorted.ensures.rows))
    (subst (λ (l : List Keyed). (before : List Row) → AreGroupsOf own.keys.now own.aggs.now own.groups.items before
    → AreGroupsOf own.keys.now own.aggs.now c.in_ok-groups.groups.items (before ++ map row l)) c.as_slice.ensures.value c.in_ok-groups.ensures)
    t

-- more rows have no fewer keys
more_keys : (keys : List ℕ) (before rows : List Row) → key_count keys before ≤ key_count keys (before ++ rows)
more_keys keys before rows =
    subst (λ (l : List Row). key_count keys before ≤ length (one_of_each l)) (sym (map-append (key_of keys) before rows))
    (no_fewer (map (key_of keys) before) (map (key_of keys) rows))

pub returns-then-len-saturating_mul : goal.returns-then-len-saturating_mul
returns-then-len-saturating_mul c = λ keys aggs before stands.
    let own = subst (λ (table : GroupTable). StandsFor keys aggs table before) (sym c.self.view_is) stands in
    let rows = before ++ c.args.rows.now in
    let groups = c.in_ok-groups.groups.items in
    let more = more_keys keys before c.args.rows.now in
    let settled = own.settled in
    let limit = c.saturating_mul.ensures in
    let size = c.len.ensures in
    let less = c.if-len-saturating_mul.true in
    let few : length groups ≤ 2 * key_count keys rows + 2048 = omega (arith, settled, more, limit, size, less) in (
      record {
        by = own.by;
        over = own.over;
        holds = part_groups (goal.at.returns-then-len-saturating_mul c).In_ok-groups keys aggs before own.by own.over own.holds;
        settled = omega (arith, settled, more);
      },
      subst (λ (by : List ℕ). length groups ≤ 2 * key_count by rows + 2048) (sym own.by) few,
    )

pub returns : goal.returns
returns c = λ keys aggs before stands.
    let own = subst (λ (table : GroupTable). StandsFor keys aggs table before) (sym c.self.view_is) stands in
    let rows = before ++ c.args.rows.now in
    let groups = c.in_ok-groups-2.groups.items in
    let holds = c.in_ok-groups-2.ensures.holds keys aggs rows (part_groups (goal.at.returns c).In_ok-groups keys aggs before own.by own.over own.holds) in
    let many = as_many keys aggs groups rows holds c.in_ok-groups-2.ensures.differ in
    let size = c.len-settled.ensures in
    let few : length groups ≤ 2 * key_count keys rows + 2048 = omega (arith, many) in (
      record {
        by = own.by;
        over = own.over;
        holds = holds;
        settled = omega (arith, many, size);
      },
      subst (λ (by : List ℕ). length groups ≤ 2 * key_count by rows + 2048) (sym own.by) few,
    )
