use Rattle.row_core.specs.Values.{same_row}
use Rattle.bag_laws.specs.Rows.{row_less}
use Rattle.bag_laws.proofs.Sorted.{sorted_is}
use Rattle.bag_laws.proofs.Orders.{rows_strict}
use Rattle.bag_laws.proofs.Counts.{ascending_rows}
use Rattle.bag_laws.proofs.Permutations.{sorted_once}
use Rattle.bag_laws.proofs.order.sorted_bags_are_equal.Goals as goal

pub returns-clause-equal : goal.returns-clause-equal
returns-clause-equal c = λ rows others up up' same. sorted_once rows others up up' same

pub returns-clause-ascending : goal.returns-clause-ascending
returns-clause-ascending c = λ rows others same. ascending_rows rows others same

pub returns-clause-sorted : goal.returns-clause-sorted
returns-clause-sorted c = λ rows sorted moved up. sorted_is row_less same_row rows_strict rows sorted moved up
