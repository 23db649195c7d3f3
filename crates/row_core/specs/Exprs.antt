-- What an expression and a test say of a row.
use Rattle.std.specs.Prelude.{ℕ, nat_lt, ℤ, ◌+ℤ◌, ◌-ℤ◌, ◌*ℤ◌, Bool, true, false, ◌&&◌, List, get_or, Option, Some, None}
use Rattle.std.specs.Ordering.{is_eq, is_ne, is_lt, is_le, is_gt, is_ge}
use Rattle.std.specs.declared.cmp.Ordering.{Ordering}
use Rattle.row_core.specs.Values.{value_cmp, int_value, text_of, concatenated}
use Rattle.row_core.specs.declared.value.Value.{Value}
use Rattle.row_core.specs.declared.value.Value.TheVariants.{Null, Int, Text}
use Rattle.row_core.specs.declared.truth.Truth.{Truth}
use Rattle.row_core.specs.declared.truth.Truth.TheVariants.{No, Unknown, Yes}
use Rattle.row_core.specs.declared.expr.Expr.{Expr}
use Rattle.row_core.specs.declared.expr.Expr.TheOpen.{Expr-F}
use Rattle.row_core.specs.declared.expr.Expr.TheFolds.{fold-Expr}
use Rattle.row_core.specs.declared.cmp.Cmp.{Cmp}
use Rattle.row_core.specs.declared.cmp.Cmp.TheVariants.{Eq, Ne, Lt, Le, Gt, Ge}
use Rattle.row_core.specs.declared.pred.Pred.{Pred}
use Rattle.row_core.specs.declared.pred.Pred.TheOpen.{Pred-F}
use Rattle.row_core.specs.declared.pred.Pred.TheFolds.{fold-Pred}

-- the number, if there is one
abbrev pub checked_value : Option ℤ → Value
checked_value None = Null
checked_value (Some n) = Int n

-- of two numbers, or Null
abbrev pub on_ints : (ℤ → ℤ → ℤ) → Value → Value → Value
on_ints f (Int m) (Int n) = int_value (f m n)
on_ints f (Int m) Null = Null
on_ints f (Int m) (Text t) = Null
on_ints f Null b = Null
on_ints f (Text t) b = Null

-- one level of an expression, with the value of each part in its place
abbrev pub value_step : List Value → Expr-F Value → Value
value_step row (Expr-F.Col k) = get_or row k Null
value_step row (Expr-F.Const value) = value
value_step row (Expr-F.Add a b) = on_ints (λ m n. m +ℤ n) a b
value_step row (Expr-F.Sub a b) = on_ints (λ m n. m -ℤ n) a b
value_step row (Expr-F.Mul a b) = on_ints (λ m n. m *ℤ n) a b
value_step row (Expr-F.Concat a b) = concatenated (text_of a) (text_of b)

-- the value of an expression at a row
abbrev pub value_at : List Value → Expr → Value
value_at row = fold-Expr Value (value_step row)

-- whether the columns of one level are below the width, and those of its parts are
abbrev pub columns_step : ℕ → Expr-F Bool → Bool
columns_step width (Expr-F.Col k) = nat_lt k width
columns_step width (Expr-F.Const value) = true
columns_step width (Expr-F.Add a b) = a && b
columns_step width (Expr-F.Sub a b) = a && b
columns_step width (Expr-F.Mul a b) = a && b
columns_step width (Expr-F.Concat a b) = a && b

-- whether an expression's columns are below the width
abbrev pub columns_within : ℕ → Expr → Bool
columns_within width = fold-Expr Bool (columns_step width)

abbrev pub passes : Cmp → Ordering → Bool
passes Eq order = is_eq order
passes Ne order = is_ne order
passes Lt order = is_lt order
passes Le order = is_le order
passes Gt order = is_gt order
passes Ge order = is_ge order

abbrev pub truth_from : Bool → Truth
truth_from true = Yes
truth_from false = No

-- a comparison with a Null is Unknown
abbrev pub compared : Cmp → Value → Value → Truth
compared cmp Null b = Unknown
compared cmp (Int m) Null = Unknown
compared cmp (Text s) Null = Unknown
compared cmp (Int m) (Int n) = truth_from (passes cmp (value_cmp (Int m) (Int n)))
compared cmp (Int m) (Text t) = truth_from (passes cmp (value_cmp (Int m) (Text t)))
compared cmp (Text s) (Int n) = truth_from (passes cmp (value_cmp (Text s) (Int n)))
compared cmp (Text s) (Text t) = truth_from (passes cmp (value_cmp (Text s) (Text t)))

abbrev pub is_null : Value → Bool
is_null Null = true
is_null (Int n) = false
is_null (Text t) = false

abbrev pub lesser : Truth → Truth → Truth
lesser No b = No
lesser Yes b = b
lesser Unknown No = No
lesser Unknown Unknown = Unknown
lesser Unknown Yes = Unknown

abbrev pub opposite : Truth → Truth
opposite No = Yes
opposite Unknown = Unknown
opposite Yes = No

abbrev pub greater : Truth → Truth → Truth
greater a b = opposite (lesser (opposite a) (opposite b))

abbrev pub is_yes : Truth → Bool
is_yes Yes = true
is_yes No = false
is_yes Unknown = false

-- one level of a test, with what each part says in its place
abbrev pub truth_step : List Value → Pred-F Truth → Truth
truth_step row (Pred-F.Test cmp a b) = compared cmp (value_at row a) (value_at row b)
truth_step row (Pred-F.IsNull a) = truth_from (is_null (value_at row a))
truth_step row (Pred-F.And p q) = lesser p q
truth_step row (Pred-F.Or p q) = greater p q
truth_step row (Pred-F.Not p) = opposite p

-- what a test says of a row
abbrev pub truth_of : List Value → Pred → Truth
truth_of row = fold-Pred Truth (truth_step row)

abbrev pub pred_columns_step : ℕ → Pred-F Bool → Bool
pred_columns_step width (Pred-F.Test cmp a b) = columns_within width a && columns_within width b
pred_columns_step width (Pred-F.IsNull a) = columns_within width a
pred_columns_step width (Pred-F.And p q) = p && q
pred_columns_step width (Pred-F.Or p q) = p && q
pred_columns_step width (Pred-F.Not p) = p

-- whether a test's columns are below the width
abbrev pub pred_within : ℕ → Pred → Bool
pred_within width = fold-Pred Bool (pred_columns_step width)
