use Rattle.std.proofs.Common.{refl, ap, ◌∙◌, option_map}
use Rattle.serde_json.specs.View.{view}
use Rattle.row_core.specs.declared.pred.Pred.{Not, IsNull}
use Rattle.expr_json.specs.Reading.{expr_of, test_of, test_of_two, connection_of}
use Rattle.expr_json.proofs.WordLemmas.{test_at, given, is_not, is_isnull, is_neither, no_parts, one_part, two_parts, test_too_long}
use Rattle.expr_json.proofs.test_reading.+find_test.Goals as goal

pub returns-in_ok-p-in-not-clause-is : goal.returns-in_ok-p-in-not-clause-is
returns-in_ok-p-in-not-clause-is t c =
    let word = c.in-Some.word.now in
    given c.negated.result _ _ c.negated.ensures.is
    (ap (option_map Not) c.in_ok-p-in-not.ensures.is
    ∙ is_not word (test_of (view c.part-item.result)) (expr_of (view c.part-item.result)) c.in-not.is
    ∙ test_at (view c.args.value.now) word _ _ c.in-Some.ensures (one_part c.in-Some.parts.now c.part-item.result c.in-len1.len_at_least c.in-len1.len_below c.part-item.is))

pub returns-in_ok-a-in-isnull-clause-is : goal.returns-in_ok-a-in-isnull-clause-is
returns-in_ok-a-in-isnull-clause-is t c =
    let word = c.in-Some.word.now in
    c.tested_for_null.ensures.is
    ∙ ap (option_map IsNull) c.in_ok-a-in-isnull.ensures.is
    ∙ is_isnull word (test_of (view c.part-item.result)) (expr_of (view c.part-item.result)) c.in-isnull.is
    ∙ test_at (view c.args.value.now) word _ _ c.in-Some.ensures (one_part c.in-Some.parts.now c.part-item.result c.in-len1.len_at_least c.in-len1.len_below c.part-item.is)

pub returns-in_default-word-clause-is : goal.returns-in_default-word-clause-is
returns-in_default-word-clause-is t c =
    let word = c.in-Some.word.now in
    is_neither word (test_of (view c.part-item.result)) (expr_of (view c.part-item.result)) c.in_default-word.not-not c.in_default-word.not-isnull
    ∙ test_at (view c.args.value.now) word _ _ c.in-Some.ensures (one_part c.in-Some.parts.now c.part-item.result c.in-len1.len_at_least c.in-len1.len_below c.part-item.is)

pub returns-in_ok-q-in-Some-named-clause-is : goal.returns-in_ok-q-in-Some-named-clause-is
returns-in_ok-q-in-Some-named-clause-is t c =
    let word = c.in-Some.word.now in
    let shape = two_parts c.in-Some.parts.now c.p-item.result c.q-item.result c.in-len2.len_at_least c.in-len2.len_below c.p-item.is c.q-item.is in
    given c.connected.result _ _ c.connected.ensures.is
    (ap (λ p. connection_of c.in-Some-named.connective p c.in_ok-q-in-Some-named.q) c.in_ok-p-in-Some-named.ensures.is
    ∙ ap (connection_of c.in-Some-named.connective (test_of (view c.p-item.result))) c.in_ok-q-in-Some-named.ensures.is
    ∙ ap (λ o. test_of_two word o (test_of (view c.p-item.result)) (test_of (view c.q-item.result)) (expr_of (view c.p-item.result)) (expr_of (view c.q-item.result))) c.in-Some-named.ensures
    ∙ test_at (view c.args.value.now) word _ _ c.in-Some.ensures shape)

pub returns-in-None-clause-is : goal.returns-in-None-clause-is
returns-in-None-clause-is t c =
    let word = c.in-Some.word.now in
    given c.compared.result _ _ c.compared.ensures.is
    (ap (λ o. test_of_two word o (test_of (view c.p-item.result)) (test_of (view c.q-item.result)) (expr_of (view c.p-item.result)) (expr_of (view c.q-item.result))) c.in-None.ensures
    ∙ test_at (view c.args.value.now) word _ _ c.in-Some.ensures (two_parts c.in-Some.parts.now c.p-item.result c.q-item.result c.in-len2.len_at_least c.in-len2.len_below c.p-item.is c.q-item.is))

pub returns-in-empty-clause-is : goal.returns-in-empty-clause-is
returns-in-empty-clause-is t c = test_at (view c.args.value.now) c.in-Some.word.now _ _ c.in-Some.ensures (no_parts c.in-Some.parts.now c.in-empty.len_below)

pub returns-in_default-parts-clause-is : goal.returns-in_default-parts-clause-is
returns-in_default-parts-clause-is t c = test_too_long c.in-Some.word.now c.in-Some.parts.now c.in_default-parts.len_at_least ∙ test_at (view c.args.value.now) c.in-Some.word.now _ _ c.in-Some.ensures refl
