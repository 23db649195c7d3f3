use Rattle.std.proofs.Common.{◌≡◌, ◌∷◌, [], List, length, map, get_or, take, nat_lt, sym, ap, ◌∙◌, arith, take_all}
use Rattle.std.proofs.lemmas.Int.{ints, to_z-of_z}
use Rattle.std.specs.Prelude.{ℤ, ◌+ℤ◌, ◌||◌}
use Rattle.row_core.specs.declared.value.Value.{Value}
use Rattle.row_core.specs.declared.value.Value.TheVariants.{Null}
use Rattle.plan_model.specs.Operators.{column_of, numbers_of, whole_sum}
use Rattle.op_unary.specs.declared.keyed.Keyed.{Keyed}
use Rattle.op_unary.specs.declared.accumulator.Accumulator.TheVariants.{Summed}
use Rattle.op_unary.proofs.Sums.{numbers-more, any-append, sum-append}
use Rattle.op_unary.proofs.accumulating.sum.Goals as goal

pub loop-keyed-preserved : goal.loop-keyed-preserved
loop-keyed-preserved c =
    let rows = c.args.rows.now in
    let i = c.loop-keyed.keyed-index in
    let column = c.args.column in
    let value = get_or c.keyed-item.result.row.now column Null in
    let before = numbers_of (column_of column (map (λ keyed. keyed.row.now) (take i rows))) in
    let more = numbers-more column rows i c.keyed-item.result c.loop-keyed-test.true c.keyed-item.is in
    let number : c.number-total.result ≡ whole_sum (numbers_of (value ∷ [])) = c.number-total.ensures.value ∙ ap (λ (v : Value). whole_sum (numbers_of (v ∷ []))) c.cell-value.ensures in
    let total =
    ap whole_sum more ∙ sum-append before (numbers_of (value ∷ [])) ∙ (λ j. sym c.loop-keyed.invariant.total j +ℤ sym number j) in
    record {
      total = first_of (omega (arith, ints), grind (arith, ints), grind (arith, ints, to_z-of_z));
      any =
          (λ j. c.loop-keyed.invariant.any j || (c.is_number-any.ensures ∙ ap (λ (v : Value). nat_lt 0 (length (numbers_of (v ∷ [])))) c.cell-value.ensures) j)
          ∙ sym (ap (λ (ns : List ℤ). nat_lt 0 (length ns)) more ∙ any-append before (numbers_of (value ∷ [])));
      high = first_of (omega (arith, ints), grind (arith, ints), grind (arith, ints, to_z-of_z));
      low = first_of (omega (arith, ints), grind (arith, ints), grind (arith, ints, to_z-of_z));
    }

pub returns : goal.returns
returns c =
    let all = take_all c.loop-keyed.keyed-index c.args.rows.now c.loop-keyed-test.false in
    let numbers = λ (rows : List Keyed). numbers_of (column_of c.args.column (map (λ keyed. keyed.row.now) rows)) in
    (λ i. Summed (c.loop-keyed.invariant.any i) (c.loop-keyed.invariant.total i))
    ∙ ap (λ (rows : List Keyed). Summed (nat_lt 0 (length (numbers rows))) (whole_sum (numbers rows))) all
