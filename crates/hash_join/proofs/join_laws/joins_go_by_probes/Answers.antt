use Rattle.hash_join.proofs.Joins.{left_probed, right_probed, full_probed}
use Rattle.hash_join.proofs.join_laws.joins_go_by_probes.Goals as goal

pub returns-clause-left : goal.returns-clause-left
returns-clause-left c = left_probed

pub returns-clause-right : goal.returns-clause-right
returns-clause-right c = right_probed

pub returns-clause-full : goal.returns-clause-full
returns-clause-full c = full_probed
