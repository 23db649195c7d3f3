-- What the readers find in a JSON value: an expression or a test, or nothing.
use Rattle.std.specs.Prelude.{ℕ, ◌^◌, nat_lt, ℤ, pos, negsuc, List, codes, Bool, if◌then◌else◌, Option, Some, None, option_map}
use Rattle.std.specs.Str.{bytes_eq}
use Rattle.serde_json.specs.Data.{Num, unsigned, negative, Data, string, array, Items, no_items, item}
use Rattle.serde_json.specs.Find.{as_str, as_number}
use Rattle.row_core.specs.declared.cmp.Cmp.{Cmp}
use Rattle.row_core.specs.declared.cmp.Cmp.TheVariants.{Eq, Ne, Lt, Le, Gt, Ge}
use Rattle.row_core.specs.declared.value.Value.TheVariants.{Null, Int, Text}
use Rattle.row_core.specs.declared.expr.Expr.{Expr, Col, Const, Add, Sub, Mul, Concat}
use Rattle.row_core.specs.declared.pred.Pred.{Pred, Test, IsNull, And, Or, Not}
use Rattle.expr_json.specs.declared.operator.Operator.{Operator}
use Rattle.expr_json.specs.declared.operator.Operator.TheVariants as operator
use Rattle.expr_json.specs.declared.connective.Connective.{Connective}
use Rattle.expr_json.specs.declared.connective.Connective.TheVariants as connective

-- what is read of what was read before, if anything was
infixl 10 ◌>>=◌
abbrev pub ◌>>=◌ : {A B : Type 0} → Option A → (A → Option B) → Option B
None >>= f = None
(Some x) >>= f = f x

-- the value, where a test passes
abbrev pub when : {A : Type 0} → Bool → A → Option A
when test x = if test then Some x else None

-- a list that begins with a text: the text, and the items behind it
abbrev pub word_of : Data → Option (List ℕ × Items)
word_of (array (item (string word) parts)) = Some (word, parts)
word_of _ = None

-- ---- words

-- the operation of this word
unfoldable pub operator_of : List ℕ → Option Operator
operator_of word =
    if bytes_eq word (codes "add") then Some operator.Add else
    if bytes_eq word (codes "sub") then Some operator.Sub else
    if bytes_eq word (codes "mul") then Some operator.Mul else
    when (bytes_eq word (codes "concat")) operator.Concat

-- the comparison of this word
unfoldable pub cmp_of : List ℕ → Option Cmp
cmp_of word =
    if bytes_eq word (codes "eq") then Some Eq else
    if bytes_eq word (codes "ne") then Some Ne else
    if bytes_eq word (codes "lt") then Some Lt else
    if bytes_eq word (codes "le") then Some Le else
    if bytes_eq word (codes "gt") then Some Gt else
    when (bytes_eq word (codes "ge")) Ge

-- what this word joins tests by
unfoldable pub connective_of : List ℕ → Option Connective
connective_of word =
    if bytes_eq word (codes "and") then Some connective.And else
    when (bytes_eq word (codes "or")) connective.Or

-- an operation on two expressions
abbrev pub applied : Operator → Expr → Expr → Expr
applied operator.Add a b = Add a b
applied operator.Sub a b = Sub a b
applied operator.Mul a b = Mul a b
applied operator.Concat a b = Concat a b

-- two tests joined
abbrev pub connected : Connective → Pred → Pred → Pred
connected connective.And p q = And p q
connected connective.Or p q = Or p q

-- ---- expressions

-- the column that a number is
abbrev pub column_of : Num → Option ℕ
column_of (unsigned n) = when (nat_lt n (2 ^ 32)) n
column_of _ = None

-- the constant that a number is
abbrev pub literal_of : Num → Option ℤ
literal_of (unsigned n) = when (nat_lt n (2 ^ 63)) (pos n)
literal_of (negative (negsuc n)) = when (nat_lt n (2 ^ 63)) (negsuc n)
literal_of _ = None

-- the column and the constant of a value, if it is a number
abbrev pub column_in : Data → Option ℕ
column_in d = as_number d >>= column_of

abbrev pub integer_in : Data → Option ℤ
integer_in d = as_number d >>= literal_of

-- what one item behind one of the words `col`, `int` and `text` is
unfoldable pub leaf_of : List ℕ → Data → Option Expr
leaf_of word d =
    if bytes_eq word (codes "col") then option_map Col (column_in d) else
    if bytes_eq word (codes "int") then option_map (λ n. Const (Int n)) (integer_in d) else
    if bytes_eq word (codes "text") then option_map (λ s. Const (Text s)) (as_str d) else None

-- an operation on what two parts are
unfoldable pub operation_of : List ℕ → Option Expr → Option Expr → Option Expr
operation_of word first second = do
  operator ← operator_of word
  a ← first
  b ← second
  Some (applied operator a b)

-- the constant Null, by its word
abbrev pub null_of : List ℕ → Option Expr
null_of word = when (bytes_eq word (codes "null")) (Const Null)

-- the expression that a value spells
abbrev mutual
  pub expr_of : Data → Option Expr
  expr_of (array (item (string word) parts)) = expr_from word parts
  expr_of _ = None

  -- the expression of this word and these parts
  pub expr_from : List ℕ → Items → Option Expr
  expr_from word no_items = null_of word
  expr_from word (item d no_items) = leaf_of word d
  expr_from word (item a (item b no_items)) = operation_of word (expr_of a) (expr_of b)
  expr_from word _ = None

-- ---- tests

-- a comparison of what two parts are
unfoldable pub comparison_of : List ℕ → Option Expr → Option Expr → Option Pred
comparison_of word first second = do
  cmp ← cmp_of word
  a ← first
  b ← second
  Some (Test cmp a b)

-- two tests joined, if each is one
unfoldable pub connection_of : Connective → Option Pred → Option Pred → Option Pred
connection_of connective first second = do
  p ← first
  q ← second
  Some (connected connective p q)

-- a test of one part, which may be a test or an expression
abbrev pub test_of_one : List ℕ → Option Pred → Option Expr → Option Pred
test_of_one word p a =
    if bytes_eq word (codes "not") then option_map Not p else
    if bytes_eq word (codes "isnull") then option_map IsNull a else None

-- a test of two parts: both hold, one holds, or a comparison
abbrev pub test_of_two : List ℕ → Option Connective → Option Pred → Option Pred → Option Expr
    → Option Expr → Option Pred
test_of_two word (Some connective) p q a b = connection_of connective p q
test_of_two word None p q a b = comparison_of word a b

-- the test that a value spells
abbrev mutual
  pub test_of : Data → Option Pred
  test_of (array (item (string word) parts)) = test_from word parts
  test_of _ = None

  -- the test of this word and these parts
  pub test_from : List ℕ → Items → Option Pred
  test_from word (item d no_items) = test_of_one word (test_of d) (expr_of d)
  test_from word (item a (item b no_items)) =
      test_of_two word (connective_of word) (test_of a) (test_of b) (expr_of a) (expr_of b)
  test_from word _ = None
