use Rattle.std.proofs.Common.{rules, tests, sym, ◌∙◌}
use Rattle.std.proofs.lemmas.Iterator.{YieldsList-from_slice}
use Rattle.std.proofs.lemmas.Iterator.Search.{any_from_yields_List}
use Rattle.serde_json.specs.View.{view}
use Rattle.expr_json.specs.BadNumbers.{bad_number_in}
use Rattle.job_json.proofs.Shapes.{list_any-map}
use Rattle.job_json.proofs.exprs.has_bad_numbers.Goals as goal

pub returns : goal.returns
returns c =
    any_from_yields_List (λ item. bad_number_in (view item)) _ _ _ c.any.ensures.ran
    (YieldsList-from_slice c.args.items.now cc) (λ x b q k. search (rules, tests))
    ∙ sym (list_any-map bad_number_in view c.args.items.now)
