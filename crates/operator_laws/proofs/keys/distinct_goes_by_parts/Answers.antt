use Rattle.operator_laws.proofs.Distinct.{by_first, by_second}
use Rattle.operator_laws.proofs.keys.distinct_goes_by_parts.Goals as goal

pub returns : goal.returns
returns c = record { first = by_first; second = by_second }
