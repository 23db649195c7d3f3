use Rattle.bag_laws.proofs.Laws.{each_keyed}
use Rattle.operator_laws.proofs.Laws.{aggregated_keyed}
use Rattle.rect_cover.proofs.Joins.{joins_by_bags}
use Rattle.rect_cover.proofs.operators.heads_go_by_bags.Goals as goal

pub returns : goal.returns
returns c = record { aggregate = aggregated_keyed; distinct = each_keyed; join = joins_by_bags }
