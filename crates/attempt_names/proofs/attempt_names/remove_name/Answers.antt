use Rattle.std.proofs.Common.{rules}
use Rattle.std.specs.Prelude.{not}
use Rattle.std.proofs.lemmas.Fn.{filter_same}
use Rattle.estate.specs.Parts.{is_same_name}
use Rattle.attempt_names.proofs.attempt_names.remove_name.Goals as goal

pub returns : goal.returns
returns c = filter_same _ (λ other. not (is_same_name other c.args.name)) _ (λ other b f' called. search rules) c.args.names.now.items c.retain.new.self.items c.retain.ensures.filtered
