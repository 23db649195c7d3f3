use Rattle.bag_laws.proofs.Keyed.{each_keyed, grouped_keyed}
use Rattle.bag_laws.proofs.groups.groups_are_keyed.Goals as goal

pub returns-clause-each : goal.returns-clause-each
returns-clause-each c = each_keyed

pub returns-clause-grouped : goal.returns-clause-grouped
returns-clause-grouped c = λ key_of row_for respects. grouped_keyed key_of row_for respects
