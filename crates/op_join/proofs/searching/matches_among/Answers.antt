use Rattle.std.proofs.Common.{◌≡◌, ◌∙◌, All, List, true, false, ap, drop, map, subst, sym, take}
use Rattle.std.proofs.lemmas.List.{take_rest}
use Rattle.std.proofs.lemmas.List.Elements.{All-drop, All-take}
use Rattle.std.specs.List.Sorted.{IsSorted}
use Rattle.row_core.specs.Hashing.{key_of}
use Rattle.row_core.specs.Values.{row_cmp}
use Rattle.bag_laws.specs.Rows.{OneRow as Row, row_less}
use Rattle.op_join.specs.Keys.{compared_key}
use Rattle.op_join.specs.declared.keyed.Keyed.{Keyed}
use Rattle.op_join.proofs.Ranges.{found, rekeyed, sorted_drop, with_null}
use Rattle.op_join.proofs.searching.matches_among.Goals as goal

pub returns-then-has_null : goal.returns-then-has_null
returns-then-has_null c =
    sym (with_null (λ (other : Keyed). other.row.now) c.args.columns.now c.args.others.now c.args.row.now c.args.sorted.now 0 0 (sym c.has_null.ensures ∙ c.if-has_null.true))

pub count_reached-requires : goal.count_reached-requires
count_reached-requires c =
    let of = compared_key c.args.others.now in
    subst (λ (rows : List Keyed). IsSorted row_cmp (map of rows)) (sym (take_rest c.args.sorted.now c.count_less-start.result))
    (sorted_drop row_less of c.count_less-start.result c.args.sorted.now c.count_less-start.ensures.bound c.requires.order)

pub returns : goal.returns
returns c =
    let columns = c.args.columns.now in
    let others = c.args.others.now in
    let sorted = c.args.sorted.now in
    let now = λ (other : Keyed). other.row.now in
    let of = compared_key others in
    let k = key_of columns c.args.row.now in
    let own = compared_key columns c.with_prefix-probe.result in
    let key = c.with_prefix-probe.ensures.key in
    let s = c.count_less-start.result in
    let n = c.count_reached.result in
    let rest = drop s sorted in
    let left = take_rest sorted s in
    let behind = All-drop (λ (other : Keyed). of other ≡ key_of others other.row.now) s sorted c.requires.keyed in
    ap (λ (rows : List Keyed). map now (take n rows)) left
    ∙ found now columns others c.args.row.now sorted s n (sym c.has_null.ensures ∙ c.if-has_null.false)
    (rekeyed now of others (λ other. row_less other k ≡ true) (take s sorted)
    (All-take (λ (other : Keyed). of other ≡ key_of others other.row.now) s sorted c.requires.keyed)
    (subst (λ (own : Row). All (λ other. row_less (of other) own ≡ true) (take s sorted)) key c.count_less-start.ensures.less))
    (rekeyed now of others (λ other. row_less other k ≡ false) rest behind
    (subst (λ (own : Row). All (λ other. row_less (of other) own ≡ false) rest) key c.count_less-start.ensures.reached))
    (rekeyed now of others (λ other. row_less k other ≡ false) (take n rest)
    (All-take (λ (other : Keyed). of other ≡ key_of others other.row.now) n rest behind)
    (subst (λ (own : Row). All (λ other. row_less own (of other) ≡ false) (take n rest)) key
    (subst (λ (rows : List Keyed). All (λ other. row_less own (of other) ≡ false) (take n rows)) left c.count_reached.ensures.reached)))
    (rekeyed now of others (λ other. row_less k other ≡ true) (drop n rest)
    (All-drop (λ (other : Keyed). of other ≡ key_of others other.row.now) n rest behind)
    (subst (λ (own : Row). All (λ other. row_less own (of other) ≡ true) (drop n rest)) key
    (subst (λ (rows : List Keyed). All (λ other. row_less own (of other) ≡ true) (drop n rows)) left c.count_reached.ensures.greater)))
