-- From what the reader of tests finds to what a value spells.
use Rattle.std.proofs.Common.{◌≡◌, IsTrue, Option, Some, None, Result, Ok, Err, IfOk, sym, ap, ◌∙◌}
use Rattle.std.specs.Prelude.{IfSome, IfNone}
use Rattle.std.proofs.lemmas.Option.{same_Some}
use Rattle.serde_json.specs.Data.{Data}
use Rattle.row_core.specs.declared.pred.Pred.{Pred}
use Rattle.expr_json.specs.Ranges.{test_has_utf8_texts}
use Rattle.expr_json.specs.Reading.{test_of}
use Rattle.expr_json.specs.Spelling.{SpellsTest}
use Rattle.expr_json.proofs.TestLaws.{test_gives, test_takes}

-- a test that a value spells is what the reader finds there
pub found : (d : Data) (e : Pred) → SpellsTest d e → Some e ≡ test_of d
found d e s = sym (test_gives e s.numbers) ∙ ap test_of s.is

pub spelled : {E : Type 0} (d : Data) (r : Result (Option Pred) E) → IfOk r (λ o. o ≡ test_of d) → IfOk r (λ o. IfSome o (λ e. IsTrue (test_has_utf8_texts e))) → IfOk r (λ o. IfSome o (SpellsTest d))
spelled d (Ok None) is texts = tt
spelled d (Ok (Some e)) is texts = let s = test_takes d e (sym is) in record { is = s.0; numbers = s.1; texts = texts }
spelled d (Err error) is texts = tt

pub only : {E : Type 0} (d : Data) (r : Result (Option Pred) E) → IfOk r (λ o. o ≡ test_of d) → IfOk r (λ o. IfSome o (λ e. (other : Pred) → SpellsTest d other → other ≡ e))
only d (Ok None) is = tt
only d (Ok (Some e)) is = λ other s. same_Some other e (found d other s ∙ sym is)
only d (Err error) is = tt

pub none : {E : Type 0} (d : Data) (r : Result (Option Pred) E) → IfOk r (λ o. o ≡ test_of d) → IfOk r (λ o. IfNone o ((e : Pred) → ¬ SpellsTest d e))
none d (Ok None) is = λ e s. let other : Some e ≡ None = found d e s ∙ sym is in cc other
none d (Ok (Some e)) is = tt
none d (Err error) is = tt
