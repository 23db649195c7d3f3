use Rattle.std.proofs.Common.{◌∙◌, sym, ap, not, List, ℕ, Bor, map}
use Rattle.std.specs.Str.{bytes_eq}
use Rattle.plan_model.proofs.Names.{list_any-map, insert_key-map}
use Rattle.plan_model.proofs.name_set.insert_name.Goals as goal

pub returns-clause-fresh : goal.returns-clause-fresh
returns-clause-fresh c = c.in_ok-insert.ensures.added ∙ ap not (sym (list_any-map (λ (key : Bor (List ℕ)). key.now) (bytes_eq c.args.name.now) c.args.names.now.keys))

pub returns-clause-names : goal.returns-clause-names
returns-clause-names c = ap (λ (ks : List (Bor (List ℕ))). map (λ key. key.now) ks) c.in_ok-insert.ensures.keys ∙ insert_key-map (λ (key : Bor (List ℕ)). key.now) bytes_eq c.args.names.now.keys c.args.name
