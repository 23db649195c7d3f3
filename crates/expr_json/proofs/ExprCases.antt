-- Expressions by cases: columns, constants and operations.
use Rattle.std.proofs.Common.{◌≡◌, ℕ, sym, ap, ◌∙◌, subst}
use Rattle.row_core.specs.declared.value.Value.{Value}
use Rattle.row_core.specs.declared.expr.Expr.{Expr, Col, Const}
use Rattle.row_core.specs.declared.expr.Expr.TheOpen.{Expr-F}
use Rattle.row_core.specs.declared.expr.Expr.TheFolds.{fold-Expr, fold-roll-Expr, ind-Expr, map-Expr}
use Rattle.row_core.specs.declared.expr.Expr.TheViews.{roll-Expr}
use Rattle.row_core.specs.declared.expr.Expr.TheVariants.{rolls-Col, rolls-Const, rolls-Add, rolls-Sub, rolls-Mul, rolls-Concat}
use Rattle.expr_json.specs.Reading.{applied}
use Rattle.expr_json.specs.declared.operator.Operator.{Operator}
use Rattle.expr_json.specs.declared.operator.Operator.TheVariants as operator

-- one level of an operation
abbrev pub operation : {A : Type 0} → Operator → A → A → Expr-F A
operation operator.Add a b = Expr-F.Add a b
operation operator.Sub a b = Expr-F.Sub a b
operation operator.Mul a b = Expr-F.Mul a b
operation operator.Concat a b = Expr-F.Concat a b

pub fold-Col : (A : Type 0) (step : Expr-F A → A) (k : ℕ) → fold-Expr A step (Col k) ≡ step (Expr-F.Col k)
fold-Col A step k = ap (fold-Expr A step) (sym (rolls-Col k)) ∙ fold-roll-Expr A step (Expr-F.Col k)

pub fold-Const : (A : Type 0) (step : Expr-F A → A) (v : Value) → fold-Expr A step (Const v) ≡ step (Expr-F.Const v)
fold-Const A step v = ap (fold-Expr A step) (sym (rolls-Const v)) ∙ fold-roll-Expr A step (Expr-F.Const v)

pub fold-applied : (A : Type 0) (step : Expr-F A → A) (op : Operator) (a b : Expr) → fold-Expr A step (applied op a b) ≡ step (operation op (fold-Expr A step a) (fold-Expr A step b))
fold-applied A step operator.Add a b = ap (fold-Expr A step) (sym (rolls-Add a b)) ∙ fold-roll-Expr A step (Expr-F.Add a b)
fold-applied A step operator.Sub a b = ap (fold-Expr A step) (sym (rolls-Sub a b)) ∙ fold-roll-Expr A step (Expr-F.Sub a b)
fold-applied A step operator.Mul a b = ap (fold-Expr A step) (sym (rolls-Mul a b)) ∙ fold-roll-Expr A step (Expr-F.Mul a b)
fold-applied A step operator.Concat a b = ap (fold-Expr A step) (sym (rolls-Concat a b)) ∙ fold-roll-Expr A step (Expr-F.Concat a b)

-- what holds of columns and constants, and of an operation where it holds of its parts, holds of all expressions
pub by_cases : (P : Expr → Type 0) → ((k : ℕ) → P (Col k)) → ((v : Value) → P (Const v)) → ((op : Operator) (a b : Expr) → P a → P b → P (applied op a b)) → (e : Expr) → P e
by_cases P col const op = ind-Expr P (λ x y is. subst (λ (z : Expr-F Expr). P (roll-Expr z)) is (level y))
  where
    level : (y : Expr-F ((e : Expr) × P e)) → P (roll-Expr (map-Expr ((e : Expr) × P e) Expr (λ e. e.0) y))
    level (Expr-F.Col k) = subst P (sym (rolls-Col k)) (col k)
    level (Expr-F.Const v) = subst P (sym (rolls-Const v)) (const v)
    level (Expr-F.Add a b) = subst P (sym (rolls-Add a.0 b.0)) (op operator.Add a.0 b.0 a.1 b.1)
    level (Expr-F.Sub a b) = subst P (sym (rolls-Sub a.0 b.0)) (op operator.Sub a.0 b.0 a.1 b.1)
    level (Expr-F.Mul a b) = subst P (sym (rolls-Mul a.0 b.0)) (op operator.Mul a.0 b.0 a.1 b.1)
    level (Expr-F.Concat a b) = subst P (sym (rolls-Concat a.0 b.0)) (op operator.Concat a.0 b.0 a.1 b.1)
