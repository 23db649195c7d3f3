use Rattle.bag_laws.proofs.Laws.{each_keyed}
use Rattle.operator_laws.proofs.Aggregates.{aggregated_keyed}
use Rattle.operator_laws.proofs.keys.groups_go_by_keys.Goals as goal

pub returns : goal.returns
returns c = record { distinct = each_keyed; aggregate = aggregated_keyed }
