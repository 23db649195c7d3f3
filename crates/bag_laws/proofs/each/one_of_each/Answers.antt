use Rattle.bag_laws.proofs.Counts.{count-one_of_each, SameBag-one_of_each, one_of_each-append, apart_from}
use Rattle.bag_laws.specs.Rows.{row_less}
use Rattle.bag_laws.proofs.Dedup.{dedup_is}
use Rattle.bag_laws.proofs.Orders.{rows_strict}
use Rattle.bag_laws.proofs.each.one_of_each.Goals as goal

pub returns-clause-counts : goal.returns-clause-counts
returns-clause-counts c = λ row rows. count-one_of_each row rows

pub returns-clause-same : goal.returns-clause-same
returns-clause-same c = λ rows others same. SameBag-one_of_each rows others same

pub returns-clause-sum : goal.returns-clause-sum
returns-clause-sum c = λ rows others apart. one_of_each-append rows others (apart_from rows others apart)

pub returns-clause-sorted : goal.returns-clause-sorted
returns-clause-sorted c = λ rows sorted moved up. dedup_is row_less rows_strict rows sorted moved up
