use Rattle.operator_laws.proofs.Joins.{joined_same}
use Rattle.operator_laws.proofs.Unary.{applied_same}
use Rattle.operator_laws.proofs.bags.operators_go_by_bags.Goals as goal

pub returns : goal.returns
returns c = record { unary = applied_same; join = λ kind keys lw rw left lefts right rights same more. joined_same kind keys lw rw left lefts right rights same more }
