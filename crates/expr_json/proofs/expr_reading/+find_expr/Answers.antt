use Rattle.std.proofs.Common.{refl, ap, ◌∙◌}
use Rattle.serde_json.specs.View.{view}
use Rattle.expr_json.specs.Reading.{expr_of, operation_of}
use Rattle.expr_json.proofs.WordLemmas.{expr_at, given, no_parts, one_part, two_parts, expr_too_long}
use Rattle.expr_json.proofs.expr_reading.+find_expr.Goals as goal

pub returns-in-empty-clause-is : goal.returns-in-empty-clause-is
returns-in-empty-clause-is t c = c.read_null.ensures.is ∙ expr_at (view c.args.value.now) c.in-Some.word.now _ _ c.in-Some.ensures (no_parts c.in-Some.parts.now c.in-empty.len_below)

pub returns-in-len1-clause-is : goal.returns-in-len1-clause-is
returns-in-len1-clause-is t c = given c.read_leaf.result _ _ c.read_leaf.ensures.is
    (expr_at (view c.args.value.now) c.in-Some.word.now _ _ c.in-Some.ensures (one_part c.in-Some.parts.now c.item-item.result c.in-len1.len_at_least c.in-len1.len_below c.item-item.is))

pub returns-in_ok-b-in-len2-clause-is : goal.returns-in_ok-b-in-len2-clause-is
returns-in_ok-b-in-len2-clause-is t c =
    let word = c.in-Some.word.now in
    given c.read_operation.result _ _ c.read_operation.ensures.is
    (ap (λ a. operation_of word a c.in_ok-b-in-len2.b) c.in_ok-a-in-len2.ensures.is
    ∙ ap (operation_of word (expr_of (view c.a-item.result))) c.in_ok-b-in-len2.ensures.is
    ∙ expr_at (view c.args.value.now) word _ _ c.in-Some.ensures (two_parts c.in-Some.parts.now c.a-item.result c.b-item.result c.in-len2.len_at_least c.in-len2.len_below c.a-item.is c.b-item.is))

pub returns-in_default-parts-clause-is : goal.returns-in_default-parts-clause-is
returns-in_default-parts-clause-is t c = expr_too_long c.in-Some.word.now c.in-Some.parts.now c.in_default-parts.len_at_least ∙ expr_at (view c.args.value.now) c.in-Some.word.now _ _ c.in-Some.ensures refl
