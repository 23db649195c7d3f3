use Rattle.std.proofs.Common.{◌≡◌, ◌*◌, ◌^◌, map, take, length, pos, nat_lt}
use Rattle.std.specs.Prelude.{◌≤ℤ◌, ◌+ℤ◌}
use Rattle.plan_model.specs.Operators.{column_of, numbers_of, whole_sum}
use Rattle.op_unary.proofs.accumulating.sum.Given as goal

abbrev pub invariant-loop-keyed : goal.invariant-loop-keyed
invariant-loop-keyed l =
    let numbers = numbers_of (column_of l.column (map (λ keyed. keyed.row.now) (take l.keyed-index l.rows))) in
    record {
      total : l.total ≡ whole_sum numbers;
      any : l.any ≡ nat_lt 0 (length numbers);
      high : l.total ≤ℤ pos (l.keyed-index * 2 ^ 63);
      low : pos 0 ≤ℤ (l.total +ℤ pos (l.keyed-index * 2 ^ 63));
    }
