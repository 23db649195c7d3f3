use Rattle.std.proofs.Common.{Bool, IsUtf8, List, ℕ, ◌∙◌, sym, subst}
use Rattle.std.proofs.lemmas.Str.{is_utf8-from_IsUtf8}
use Rattle.row_core.specs.declared.value.Value.TheVariants.{Text}
use Rattle.expr_json.specs.Ranges.{utf8_step}
use Rattle.expr_json.proofs.ExprCases.{fold-Const}
use Rattle.expr_json.proofs.leaf.read_leaf.Goals as goal

pub returns-in_ok-text-in-Some-clause-texts : goal.returns-in_ok-text-in-Some-clause-texts
returns-in_ok-text-in-Some-clause-texts c =
    let text = c.in_ok-text-in-Some.text in
    fold-Const Bool utf8_step (Text text)
    ∙ is_utf8-from_IsUtf8 text (subst (λ (s : List ℕ). IsUtf8 s) (sym c.in_ok-text-in-Some.ensures) c.as_bytes.ensures.utf8)
