use Rattle.std.proofs.Common.{List, length, map, subst, take_all, arith}
use Rattle.row_core.specs.Bags.{SameBag, one_of_each}
use Rattle.bag_laws.specs.Rows.{OneRow as Row}
use Rattle.bag_laws.proofs.Laws.{same_on}
use Rattle.bag_laws.proofs.Laws.{SameBag-one_of_each}
use Rattle.op_unary.specs.Distinct.{row_at, Rises}
use Rattle.op_unary.specs.declared.hashed_row.HashedRow.{HashedRow}
use Rattle.op_unary.proofs.Rising.{rising_differ}
use Rattle.op_unary.proofs.first_places.first_places.Goals.{In_ok-firsts}
use Rattle.op_unary.proofs.first_places.first_places.Goals as goal

-- one of each of what is left by hash
left_each : (c : In_ok-firsts) → SameBag (one_of_each (map (row_at c.args.rows.now) c.in_ok-firsts.firsts.items)) (one_of_each c.args.rows.now)
left_each c =
    let rows = c.args.rows.now in
    let all = c.in_ok-hashed.field-0.items in
    let whole : SameBag (map (row_at rows) all) rows =
    subst (λ (l : List Row). SameBag (map (row_at rows) all) l) (take_all (length all) rows (omega (arith, c.in_ok-hashed.ensures.all))) c.in_ok-hashed.ensures.order.front in
    same_on c.in_ok-firsts.ensures.same (SameBag-one_of_each (map (row_at rows) all) rows whole)

pub returns-then-rises-clause-each : goal.returns-then-rises-clause-each
returns-then-rises-clause-each c =
    let firsts = c.in_ok-firsts.firsts.items in
    let up = subst (λ (l : List HashedRow). Rises l) c.as_slice.ensures.value (c.rises.ensures c.if-rises.true) in
    same_on (rising_differ c.args.rows.now firsts c.in_ok-firsts.ensures.places up) (left_each (goal.at.returns-then-rises-clause-each c).In_ok-firsts)

pub returns-clause-each : goal.returns-clause-each
returns-clause-each c = same_on c.by_row.ensures.each (left_each (goal.at.returns-clause-each c).In_ok-firsts)
