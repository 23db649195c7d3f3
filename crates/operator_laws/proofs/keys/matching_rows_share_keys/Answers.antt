use Rattle.operator_laws.proofs.Joins.{matching_keys}
use Rattle.operator_laws.proofs.keys.matching_rows_share_keys.Goals as goal

pub returns : goal.returns
returns c = matching_keys
