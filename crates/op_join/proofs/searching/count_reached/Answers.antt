use Rattle.std.proofs.Common.{◌≡◌, arith, false}
use Rattle.std.proofs.lemmas.List.{length-take}
use Rattle.bag_laws.specs.Rows.{row_less}
use Rattle.op_join.specs.Keys.{compared_key}
use Rattle.op_join.proofs.Ranges.{front_near, near_greater, sorted_take}
use Rattle.op_join.proofs.searching.count_reached.Goals as goal

pub count_reached_among-count-requires : goal.count_reached_among-count-requires
count_reached_among-count-requires c =
    sorted_take row_less (compared_key c.args.others.now) c.min.result c.args.sorted.now (omega arith) c.requires

pub returns-then-count-near : goal.returns-then-count-near
returns-then-count-near c =
    let sorted = c.args.sorted.now in
    let of = compared_key c.args.others.now in
    let own = compared_key c.args.columns.now c.args.row.now in
    let m = c.min.result in
    let n = c.count_reached_among-count.result in
    let size = length-take m sorted in
    record {
      bound = omega arith;
      reached = front_near (λ other. row_less own (of other) ≡ false) m n sorted (omega arith) c.count_reached_among-count.ensures.reached;
      greater = near_greater of own sorted c.requires m n (omega arith) (omega arith) c.count_reached_among-count.ensures.greater;
    }
