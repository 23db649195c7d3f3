use Rattle.std.proofs.Common.{◌≡◌, Bool, true, false, rules, refl, take, drop}
use Rattle.std.proofs.lemmas.List.Elements.{All-weaker}
use Rattle.std.proofs.lemmas.List.Sorted.{IsPartitionPoint-from_clause}
use Rattle.std.specs.Prelude.{not}
use Rattle.bag_laws.specs.Rows.{row_less}
use Rattle.op_join.specs.Keys.{compared_key}
use Rattle.op_join.proofs.Ranges.{back_part, front_part, reached_first}
use Rattle.op_join.proofs.searching.count_reached_among.Goals as goal

false_of : (b : Bool) → not b ≡ true → b ≡ false
false_of true e = cc
false_of false e = refl

true_of : (b : Bool) → not b ≡ false → b ≡ true
true_of true e = refl
true_of false e = cc

pub returns : goal.returns
returns c =
    let of = compared_key c.args.others.now in
    let k = compared_key c.args.columns.now c.args.row.now in
    let sorted = c.args.sorted.now in
    let n = c.partition_point.result in
    let bound = c.partition_point.ensures.bound in
    let point = IsPartitionPoint-from_clause (λ other. not (row_less k (of other))) sorted n c.partition_point.ensures.partitioned (reached_first of sorted c.requires k) (λ a r f' called. search rules) in
    record {
      bound = bound;
      reached = All-weaker (λ other. not (row_less k (of other)) ≡ true) (λ other. row_less k (of other) ≡ false) (λ other. false_of (row_less k (of other))) (take n sorted)
          (front_part (λ other. not (row_less k (of other)) ≡ true) sorted n bound point.0);
      greater = All-weaker (λ other. not (row_less k (of other)) ≡ false) (λ other. row_less k (of other) ≡ true) (λ other. true_of (row_less k (of other))) (drop n sorted)
          (back_part (λ other. not (row_less k (of other)) ≡ false) sorted n bound point.1);
    }
