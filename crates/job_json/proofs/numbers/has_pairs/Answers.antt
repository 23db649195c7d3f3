use Rattle.std.proofs.Common.{rules, tests, sym, ◌∙◌}
use Rattle.std.proofs.lemmas.List.Folds.{list_all-map}
use Rattle.std.proofs.lemmas.Iterator.{YieldsList-from_slice}
use Rattle.std.proofs.lemmas.Iterator.Search.{all_from_yields_List}
use Rattle.serde_json.specs.View.{view}
use Rattle.job_json.specs.Parts.{is_pair}
use Rattle.job_json.proofs.numbers.has_pairs.Goals as goal

pub returns : goal.returns
returns c =
    all_from_yields_List (λ item. is_pair (view item)) _ _ _ c.all.ensures.ran
    (YieldsList-from_slice c.args.items.now cc) (λ x b q k. search (rules, tests))
    ∙ sym (list_all-map is_pair view c.args.items.now)
