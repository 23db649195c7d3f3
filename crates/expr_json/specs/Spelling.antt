-- The JSON value that spells an expression or a test: a list of its word and its parts.
use Rattle.std.specs.Prelude.{◌≡◌, ℕ, IsTrue, List, [], ◌∷◌, codes}
use Rattle.serde_json.specs.Data.{Data, number, unsigned, string, array, item}
use Rattle.serde_json.specs.Find.{of_integer}
use Rattle.serde_json.specs.View.{items_of}
use Rattle.row_core.specs.declared.cmp.Cmp.{Cmp}
use Rattle.row_core.specs.declared.cmp.Cmp.TheVariants.{Eq, Ne, Lt, Le, Gt, Ge}
use Rattle.row_core.specs.declared.value.Value.{Value}
use Rattle.row_core.specs.declared.value.Value.TheVariants.{Null, Int, Text}
use Rattle.row_core.specs.declared.expr.Expr.{Expr}
use Rattle.row_core.specs.declared.expr.Expr.TheOpen.{Expr-F}
use Rattle.row_core.specs.declared.expr.Expr.TheFolds.{fold-Expr}
use Rattle.row_core.specs.declared.pred.Pred.{Pred}
use Rattle.row_core.specs.declared.pred.Pred.TheOpen.{Pred-F}
use Rattle.row_core.specs.declared.pred.Pred.TheFolds.{fold-Pred}
use Rattle.expr_json.specs.Ranges.{in_range, test_in_range, has_utf8_texts, test_has_utf8_texts}

-- a list of a word and these parts
abbrev pub form : List ℕ → List Data → Data
form word parts = array (item (string word) (items_of parts))

-- a constant
abbrev pub literal_value : Value → Data
literal_value Null = form (codes "null") []
literal_value (Int n) = form (codes "int") (number (of_integer n) ∷ [])
literal_value (Text t) = form (codes "text") (string t ∷ [])

-- one level of an expression, with the value of each part in its place
abbrev pub expr_step : Expr-F Data → Data
expr_step (Expr-F.Col k) = form (codes "col") (number (unsigned k) ∷ [])
expr_step (Expr-F.Const value) = literal_value value
expr_step (Expr-F.Add a b) = form (codes "add") (a ∷ b ∷ [])
expr_step (Expr-F.Sub a b) = form (codes "sub") (a ∷ b ∷ [])
expr_step (Expr-F.Mul a b) = form (codes "mul") (a ∷ b ∷ [])
expr_step (Expr-F.Concat a b) = form (codes "concat") (a ∷ b ∷ [])

-- the value that spells an expression
abbrev pub expr_value : Expr → Data
expr_value = fold-Expr Data expr_step

-- the word of a comparison
abbrev pub cmp_word : Cmp → List ℕ
cmp_word Eq = codes "eq"
cmp_word Ne = codes "ne"
cmp_word Lt = codes "lt"
cmp_word Le = codes "le"
cmp_word Gt = codes "gt"
cmp_word Ge = codes "ge"

-- one level of a test, with the value of each part in its place
abbrev pub test_step : Pred-F Data → Data
test_step (Pred-F.Test cmp a b) = form (cmp_word cmp) (expr_value a ∷ expr_value b ∷ [])
test_step (Pred-F.IsNull a) = form (codes "isnull") (expr_value a ∷ [])
test_step (Pred-F.And p q) = form (codes "and") (p ∷ q ∷ [])
test_step (Pred-F.Or p q) = form (codes "or") (p ∷ q ∷ [])
test_step (Pred-F.Not p) = form (codes "not") (p ∷ [])

-- the value that spells a test
abbrev pub test_value : Pred → Data
test_value = fold-Pred Data test_step

-- the value spells this expression, which has numbers in range and texts in UTF-8
pub record SpellsExpr (value : Data) (expr : Expr) : Type 0 where
  pub is : expr_value expr ≡ value
  pub numbers : IsTrue (in_range expr)
  pub texts : IsTrue (has_utf8_texts expr)

-- the same of a test
pub record SpellsTest (value : Data) (test : Pred) : Type 0 where
  pub is : test_value test ≡ value
  pub numbers : IsTrue (test_in_range test)
  pub texts : IsTrue (test_has_utf8_texts test)
