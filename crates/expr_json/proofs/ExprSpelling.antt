-- From what the reader finds to what a value spells.
use Rattle.std.proofs.Common.{◌≡◌, IsTrue, Option, Some, None, Result, Ok, Err, IfOk, sym, ap, ◌∙◌}
use Rattle.std.specs.Prelude.{IfSome, IfNone}
use Rattle.std.proofs.lemmas.Option.{same_Some}
use Rattle.serde_json.specs.Data.{Data}
use Rattle.row_core.specs.declared.expr.Expr.{Expr}
use Rattle.expr_json.specs.Ranges.{has_utf8_texts}
use Rattle.expr_json.specs.Reading.{expr_of}
use Rattle.expr_json.specs.Spelling.{SpellsExpr}
use Rattle.expr_json.proofs.ExprLaws.{expr_gives, expr_takes}

-- an expression that a value spells is what the reader finds there
pub found : (d : Data) (e : Expr) → SpellsExpr d e → Some e ≡ expr_of d
found d e s = sym (expr_gives e s.numbers) ∙ ap expr_of s.is

pub spelled : {E : Type 0} (d : Data) (r : Result (Option Expr) E) → IfOk r (λ o. o ≡ expr_of d) → IfOk r (λ o. IfSome o (λ e. IsTrue (has_utf8_texts e))) → IfOk r (λ o. IfSome o (SpellsExpr d))
spelled d (Ok None) is texts = tt
spelled d (Ok (Some e)) is texts = let s = expr_takes d e (sym is) in record { is = s.0; numbers = s.1; texts = texts }
spelled d (Err error) is texts = tt

pub only : {E : Type 0} (d : Data) (r : Result (Option Expr) E) → IfOk r (λ o. o ≡ expr_of d) → IfOk r (λ o. IfSome o (λ e. (other : Expr) → SpellsExpr d other → other ≡ e))
only d (Ok None) is = tt
only d (Ok (Some e)) is = λ other s. same_Some other e (found d other s ∙ sym is)
only d (Err error) is = tt

pub none : {E : Type 0} (d : Data) (r : Result (Option Expr) E) → IfOk r (λ o. o ≡ expr_of d) → IfOk r (λ o. IfNone o ((e : Expr) → ¬ SpellsExpr d e))
none d (Ok None) is = λ e s. let other : Some e ≡ None = found d e s ∙ sym is in cc other
none d (Ok (Some e)) is = tt
none d (Err error) is = tt
