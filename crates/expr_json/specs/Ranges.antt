-- What an expression can hold: columns of 32 bits, numbers of 64 bits with a sign, texts in UTF-8.
use Rattle.std.specs.Prelude.{ℕ, nat_lt, ◌^◌, ℤ, pos, negsuc, Bool, true, ◌&&◌}
use Rattle.std.specs.Str.{is_utf8}
use Rattle.row_core.specs.declared.value.Value.{Value}
use Rattle.row_core.specs.declared.value.Value.TheVariants.{Null, Int, Text}
use Rattle.row_core.specs.declared.expr.Expr.{Expr}
use Rattle.row_core.specs.declared.expr.Expr.TheOpen.{Expr-F}
use Rattle.row_core.specs.declared.expr.Expr.TheFolds.{fold-Expr}
use Rattle.row_core.specs.declared.pred.Pred.{Pred}
use Rattle.row_core.specs.declared.pred.Pred.TheOpen.{Pred-F}
use Rattle.row_core.specs.declared.pred.Pred.TheFolds.{fold-Pred}

-- from -2^63 to 2^63 - 1
abbrev pub fits_i64 : ℤ → Bool
fits_i64 (pos n) = nat_lt n (2 ^ 63)
fits_i64 (negsuc n) = nat_lt n (2 ^ 63)

-- from 0 to 2^32 - 1
abbrev pub fits_u32 : ℕ → Bool
fits_u32 n = nat_lt n (2 ^ 32)

-- ---- numbers

-- whether a constant is no number outside 64 bits with a sign
abbrev pub literal_in_range : Value → Bool
literal_in_range Null = true
literal_in_range (Int n) = fits_i64 n
literal_in_range (Text t) = true

-- one level of an expression, with what holds of each part in its place
abbrev pub range_step : Expr-F Bool → Bool
range_step (Expr-F.Col k) = fits_u32 k
range_step (Expr-F.Const value) = literal_in_range value
range_step (Expr-F.Add a b) = a && b
range_step (Expr-F.Sub a b) = a && b
range_step (Expr-F.Mul a b) = a && b
range_step (Expr-F.Concat a b) = a && b

-- each column has 32 bits, and each number 64 bits with a sign
abbrev pub in_range : Expr → Bool
in_range = fold-Expr Bool range_step

-- one level of a test, with what holds of each part in its place
abbrev pub test_range_step : Pred-F Bool → Bool
test_range_step (Pred-F.Test cmp a b) = in_range a && in_range b
test_range_step (Pred-F.IsNull a) = in_range a
test_range_step (Pred-F.And p q) = p && q
test_range_step (Pred-F.Or p q) = p && q
test_range_step (Pred-F.Not p) = p

-- the same of a test
abbrev pub test_in_range : Pred → Bool
test_in_range = fold-Pred Bool test_range_step

-- ---- texts

-- whether a constant is no text outside UTF-8
abbrev pub literal_is_utf8 : Value → Bool
literal_is_utf8 Null = true
literal_is_utf8 (Int n) = true
literal_is_utf8 (Text t) = is_utf8 t

-- one level of an expression
abbrev pub utf8_step : Expr-F Bool → Bool
utf8_step (Expr-F.Col k) = true
utf8_step (Expr-F.Const value) = literal_is_utf8 value
utf8_step (Expr-F.Add a b) = a && b
utf8_step (Expr-F.Sub a b) = a && b
utf8_step (Expr-F.Mul a b) = a && b
utf8_step (Expr-F.Concat a b) = a && b

-- each text is UTF-8
abbrev pub has_utf8_texts : Expr → Bool
has_utf8_texts = fold-Expr Bool utf8_step

-- one level of a test
abbrev pub test_utf8_step : Pred-F Bool → Bool
test_utf8_step (Pred-F.Test cmp a b) = has_utf8_texts a && has_utf8_texts b
test_utf8_step (Pred-F.IsNull a) = has_utf8_texts a
test_utf8_step (Pred-F.And p q) = p && q
test_utf8_step (Pred-F.Or p q) = p && q
test_utf8_step (Pred-F.Not p) = p

-- the same of a test
abbrev pub test_has_utf8_texts : Pred → Bool
test_has_utf8_texts = fold-Pred Bool test_utf8_step
