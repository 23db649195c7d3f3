use Rattle.std.proofs.Common.{◌∙◌}
use Rattle.estate.proofs.Ordered.{keys_ascend, keys_found}
use Rattle.estate.proofs.places.Places.names.Goals as goal

pub returns-clause-ascending : goal.returns-clause-ascending
returns-clause-ascending c = keys_ascend _ c.args.self.now.map (c.from_vec.ensures ∙ c.in_ok-copied_keys.ensures.keys) c.in_ok-copied_keys.ensures.ordered

pub returns-clause-names : goal.returns-clause-names
returns-clause-names c = keys_found _ c.args.self.now.map (c.from_vec.ensures ∙ c.in_ok-copied_keys.ensures.keys) c.in_ok-copied_keys.ensures.ordered
