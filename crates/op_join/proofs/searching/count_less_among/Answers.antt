use Rattle.std.proofs.Common.{◌≡◌, true, false, rules}
use Rattle.std.proofs.lemmas.List.Sorted.{IsPartitionPoint-from_clause}
use Rattle.bag_laws.specs.Rows.{row_less}
use Rattle.op_join.specs.Keys.{compared_key}
use Rattle.op_join.proofs.Ranges.{back_part, front_part, less_first}
use Rattle.op_join.proofs.searching.count_less_among.Goals as goal

pub returns : goal.returns
returns c =
    let of = compared_key c.args.others.now in
    let k = compared_key c.args.columns.now c.args.row.now in
    let sorted = c.args.sorted.now in
    let point = IsPartitionPoint-from_clause (λ other. row_less (of other) k) sorted c.partition_point.result c.partition_point.ensures.partitioned (less_first of sorted c.requires k) (λ a r f' called. search rules) in
    record {
      bound = c.partition_point.ensures.bound;
      less = front_part (λ other. row_less (of other) k ≡ true) sorted c.partition_point.result c.partition_point.ensures.bound point.0;
      reached = back_part (λ other. row_less (of other) k ≡ false) sorted c.partition_point.result c.partition_point.ensures.bound point.1;
    }
