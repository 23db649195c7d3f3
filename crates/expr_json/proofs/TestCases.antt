-- Tests by cases: comparisons, tests for Null, two tests joined, and a test negated.
use Rattle.std.proofs.Common.{◌≡◌, sym, ap, ◌∙◌, subst}
use Rattle.row_core.specs.declared.cmp.Cmp.{Cmp}
use Rattle.row_core.specs.declared.expr.Expr.{Expr}
use Rattle.row_core.specs.declared.pred.Pred.{Pred, Test, IsNull, Not}
use Rattle.row_core.specs.declared.pred.Pred.TheOpen.{Pred-F}
use Rattle.row_core.specs.declared.pred.Pred.TheFolds.{fold-Pred, fold-roll-Pred, ind-Pred, map-Pred}
use Rattle.row_core.specs.declared.pred.Pred.TheViews.{roll-Pred}
use Rattle.row_core.specs.declared.pred.Pred.TheVariants.{rolls-Test, rolls-IsNull, rolls-And, rolls-Or, rolls-Not}
use Rattle.expr_json.specs.Reading.{connected}
use Rattle.expr_json.specs.declared.connective.Connective.{Connective}
use Rattle.expr_json.specs.declared.connective.Connective.TheVariants as connective

-- one level of two tests joined
abbrev pub connection : {A : Type 0} → Connective → A → A → Pred-F A
connection connective.And p q = Pred-F.And p q
connection connective.Or p q = Pred-F.Or p q

pub fold-Test : (A : Type 0) (step : Pred-F A → A) (cmp : Cmp) (a b : Expr) → fold-Pred A step (Test cmp a b) ≡ step (Pred-F.Test cmp a b)
fold-Test A step cmp a b = ap (fold-Pred A step) (sym (rolls-Test cmp a b)) ∙ fold-roll-Pred A step (Pred-F.Test cmp a b)

pub fold-IsNull : (A : Type 0) (step : Pred-F A → A) (a : Expr) → fold-Pred A step (IsNull a) ≡ step (Pred-F.IsNull a)
fold-IsNull A step a = ap (fold-Pred A step) (sym (rolls-IsNull a)) ∙ fold-roll-Pred A step (Pred-F.IsNull a)

pub fold-connected : (A : Type 0) (step : Pred-F A → A) (c : Connective) (p q : Pred) → fold-Pred A step (connected c p q) ≡ step (connection c (fold-Pred A step p) (fold-Pred A step q))
fold-connected A step connective.And p q = ap (fold-Pred A step) (sym (rolls-And p q)) ∙ fold-roll-Pred A step (Pred-F.And p q)
fold-connected A step connective.Or p q = ap (fold-Pred A step) (sym (rolls-Or p q)) ∙ fold-roll-Pred A step (Pred-F.Or p q)

pub fold-Not : (A : Type 0) (step : Pred-F A → A) (p : Pred) → fold-Pred A step (Not p) ≡ step (Pred-F.Not (fold-Pred A step p))
fold-Not A step p = ap (fold-Pred A step) (sym (rolls-Not p)) ∙ fold-roll-Pred A step (Pred-F.Not p)

-- what holds of comparisons and tests for Null, and of a test of tests where it holds of them, holds of all tests
pub by_cases : (P : Pred → Type 0) → ((cmp : Cmp) (a b : Expr) → P (Test cmp a b)) → ((a : Expr) → P (IsNull a)) → ((c : Connective) (p q : Pred) → P p → P q → P (connected c p q)) → ((p : Pred) → P p → P (Not p)) → (p : Pred) → P p
by_cases P test null join neg = ind-Pred P (λ x y is. subst (λ (z : Pred-F Pred). P (roll-Pred z)) is (level y))
  where
    level : (y : Pred-F ((p : Pred) × P p)) → P (roll-Pred (map-Pred ((p : Pred) × P p) Pred (λ e. e.0) y))
    level (Pred-F.Test cmp a b) = subst P (sym (rolls-Test cmp a b)) (test cmp a b)
    level (Pred-F.IsNull a) = subst P (sym (rolls-IsNull a)) (null a)
    level (Pred-F.And p q) = subst P (sym (rolls-And p.0 q.0)) (join connective.And p.0 q.0 p.1 q.1)
    level (Pred-F.Or p q) = subst P (sym (rolls-Or p.0 q.0)) (join connective.Or p.0 q.0 p.1 q.1)
    level (Pred-F.Not p) = subst P (sym (rolls-Not p.0)) (neg p.0 p.1)
