use Rattle.std.proofs.Common.{◌≤◌, ◌-◌, arith, drop, length}
use Rattle.std.proofs.lemmas.List.{length-drop, length-take}
use Rattle.bag_laws.specs.Rows.{row_less}
use Rattle.op_join.specs.Keys.{compared_key}
use Rattle.op_join.proofs.Ranges.{near_less, near_reached, sorted_drop, sorted_take}
use Rattle.op_join.proofs.searching.count_less.Goals as goal

pub count_less_among-count-requires : goal.count_less_among-count-requires
count_less_among-count-requires c =
    let sorted = c.args.sorted.now in
    let of = compared_key c.args.others.now in
    let from = c.min-from.result in
    let room : from ≤ length sorted = omega arith in
    let left = length-drop from sorted in
    let fits : c.min-to.result - from ≤ length (drop from sorted) = omega arith in
    sorted_take row_less of (c.min-to.result - from) (drop from sorted) fits (sorted_drop row_less of from sorted room c.requires)

pub returns-then-count-near : goal.returns-then-count-near
returns-then-count-near c =
    let sorted = c.args.sorted.now in
    let of = compared_key c.args.others.now in
    let own = compared_key c.args.columns.now c.args.row.now in
    let from = c.min-from.result in
    let m = c.min-to.result - from in
    let n = c.count_less_among-count.result in
    let left = length-drop from sorted in
    let near = length-take m (drop from sorted) in
    record {
      bound = omega arith;
      less = near_less of own sorted c.requires from m n (omega arith) (omega arith) (omega arith) c.count_less_among-count.ensures.less;
      reached = near_reached of own sorted c.requires from m n (omega arith) (omega arith) (omega arith) c.count_less_among-count.ensures.reached;
    }
