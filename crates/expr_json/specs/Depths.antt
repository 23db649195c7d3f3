-- How many lists stand one within another.
use Rattle.std.specs.Prelude.{ℕ, suc, max}
use Rattle.serde_json.specs.Data.{Data, null, boolean, number, string, array, object, Items, no_items, item}
use Rattle.row_core.specs.declared.expr.Expr.{Expr}
use Rattle.row_core.specs.declared.expr.Expr.TheOpen.{Expr-F}
use Rattle.row_core.specs.declared.expr.Expr.TheFolds.{fold-Expr}
use Rattle.row_core.specs.declared.pred.Pred.{Pred}
use Rattle.row_core.specs.declared.pred.Pred.TheOpen.{Pred-F}
use Rattle.row_core.specs.declared.pred.Pred.TheFolds.{fold-Pred}

-- the greatest number of a value's lists that stand one within another; objects are not looked into
abbrev mutual
  pub list_depth : Data → ℕ
  list_depth null = 0
  list_depth (boolean b) = 0
  list_depth (number n) = 0
  list_depth (string s) = 0
  list_depth (array ds) = suc (greatest_depth ds)
  list_depth (object ms) = 0

  pub greatest_depth : Items → ℕ
  greatest_depth no_items = 0
  greatest_depth (item d ds) = max (list_depth d) (greatest_depth ds)

-- one level of an expression, with the depth of each part in its place
abbrev pub depth_step : Expr-F ℕ → ℕ
depth_step (Expr-F.Col k) = 1
depth_step (Expr-F.Const value) = 1
depth_step (Expr-F.Add a b) = suc (max a b)
depth_step (Expr-F.Sub a b) = suc (max a b)
depth_step (Expr-F.Mul a b) = suc (max a b)
depth_step (Expr-F.Concat a b) = suc (max a b)

-- the depth of an expression: a column and a constant have 1, anything else one more than its parts
abbrev pub expr_depth : Expr → ℕ
expr_depth = fold-Expr ℕ depth_step

-- one level of a test, with the depth of each part in its place
abbrev pub test_depth_step : Pred-F ℕ → ℕ
test_depth_step (Pred-F.Test cmp a b) = suc (max (expr_depth a) (expr_depth b))
test_depth_step (Pred-F.IsNull a) = suc (expr_depth a)
test_depth_step (Pred-F.And p q) = suc (max p q)
test_depth_step (Pred-F.Or p q) = suc (max p q)
test_depth_step (Pred-F.Not p) = suc p

-- the depth of a test, its expressions included
abbrev pub test_depth : Pred → ℕ
test_depth = fold-Pred ℕ test_depth_step
