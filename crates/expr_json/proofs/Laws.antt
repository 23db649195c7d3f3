-- The laws that other crates cite: what is spelled is read, what is read is spelled so, how deep
-- spellings are, and that none has a bad number or a float.
use Rattle.std.proofs.Common.{◌≡◌, ℕ, suc, max, pos, negsuc, Bool, Some, true, false, not, ◌||◌, [], ◌∷◌, codes, refl, sym, ap, ◌∙◌, arith}
use Rattle.std.proofs.lemmas.Option.{same_Some}
use Rattle.serde_json.specs.Data.{Data, null, boolean, number, string, array, object, depth}
use Rattle.serde_json.specs.Written.{has_float}
use Rattle.row_core.specs.declared.cmp.Cmp.{Cmp}
use Rattle.row_core.specs.declared.value.Value.{Value}
use Rattle.row_core.specs.declared.value.Value.TheVariants.{Null, Int, Text}
use Rattle.row_core.specs.declared.expr.Expr.{Expr, Col, Const}
use Rattle.row_core.specs.declared.pred.Pred.{Pred, Test, IsNull, Not}
use Rattle.expr_json.specs.BadNumbers.{bad_number_in}
use Rattle.expr_json.specs.Depths.{list_depth, depth_step, expr_depth, test_depth_step, test_depth}
use Rattle.expr_json.specs.Ranges.{fits_u32, literal_in_range, in_range, test_in_range}
use Rattle.expr_json.specs.Reading.{applied, connected, expr_of, test_of}
use Rattle.expr_json.specs.Spelling.{form, literal_value, expr_value, test_value}
use Rattle.expr_json.specs.declared.operator.Operator.{Operator}
use Rattle.expr_json.specs.declared.operator.Operator.TheVariants as operator
use Rattle.expr_json.specs.declared.connective.Connective.{Connective}
use Rattle.expr_json.specs.declared.connective.Connective.TheVariants as connective
use Rattle.expr_json.proofs.ExprCases as e
use Rattle.expr_json.proofs.TestCases as t
use Rattle.expr_json.proofs.ExprLaws.{and_parts, operator_word, expr_value-Col, expr_value-Const, expr_value-applied, in_range-Col, in_range-Const, in_range-applied}
use Rattle.expr_json.proofs.ExprLaws as expr
use Rattle.expr_json.proofs.TestLaws.{test_value-Test, test_value-IsNull, test_value-connected, test_value-Not, range-Test, range-IsNull, range-connected, range-Not}
use Rattle.expr_json.proofs.TestLaws as test

-- ---- depths

depth-Col : (k : ℕ) → expr_depth (Col k) ≡ 1
depth-Col k = e.fold-Col ℕ depth_step k

depth-Const : (v : Value) → expr_depth (Const v) ≡ 1
depth-Const v = e.fold-Const ℕ depth_step v

depth-applied : (op : Operator) (a b : Expr) → expr_depth (applied op a b) ≡ suc (max (expr_depth a) (expr_depth b))
depth-applied operator.Add a b = e.fold-applied ℕ depth_step operator.Add a b
depth-applied operator.Sub a b = e.fold-applied ℕ depth_step operator.Sub a b
depth-applied operator.Mul a b = e.fold-applied ℕ depth_step operator.Mul a b
depth-applied operator.Concat a b = e.fold-applied ℕ depth_step operator.Concat a b

lists-literal : (v : Value) → list_depth (literal_value v) ≡ 1
lists-literal Null = refl
lists-literal (Int n) = refl
lists-literal (Text s) = refl

nests-literal : (v : Value) → depth (literal_value v) ≡ 1
nests-literal Null = refl
nests-literal (Int n) = refl
nests-literal (Text s) = refl

pub lists-expr : (x : Expr) → list_depth (expr_value x) ≡ expr_depth x
lists-expr = e.by_cases (λ x. list_depth (expr_value x) ≡ expr_depth x)
    (λ k. ap list_depth (expr_value-Col k) ∙ sym (depth-Col k))
    (λ v. ap list_depth (expr_value-Const v) ∙ lists-literal v ∙ sym (depth-Const v))
    (λ op a b p q. ap list_depth (expr_value-applied op a b) ∙ omega (arith, p, q) ∙ sym (depth-applied op a b))

pub nests-expr : (x : Expr) → depth (expr_value x) ≡ expr_depth x
nests-expr = e.by_cases (λ x. depth (expr_value x) ≡ expr_depth x)
    (λ k. ap depth (expr_value-Col k) ∙ sym (depth-Col k))
    (λ v. ap depth (expr_value-Const v) ∙ nests-literal v ∙ sym (depth-Const v))
    (λ op a b p q. ap depth (expr_value-applied op a b) ∙ omega (arith, p, q) ∙ sym (depth-applied op a b))

depth-Test : (cmp : Cmp) (a b : Expr) → test_depth (Test cmp a b) ≡ suc (max (expr_depth a) (expr_depth b))
depth-Test cmp a b = t.fold-Test ℕ test_depth_step cmp a b

depth-IsNull : (a : Expr) → test_depth (IsNull a) ≡ suc (expr_depth a)
depth-IsNull a = t.fold-IsNull ℕ test_depth_step a

depth-connected : (c : Connective) (p q : Pred) → test_depth (connected c p q) ≡ suc (max (test_depth p) (test_depth q))
depth-connected connective.And p q = t.fold-connected ℕ test_depth_step connective.And p q
depth-connected connective.Or p q = t.fold-connected ℕ test_depth_step connective.Or p q

depth-Not : (p : Pred) → test_depth (Not p) ≡ suc (test_depth p)
depth-Not p = t.fold-Not ℕ test_depth_step p

pub lists-test : (x : Pred) → list_depth (test_value x) ≡ test_depth x
lists-test = t.by_cases (λ x. list_depth (test_value x) ≡ test_depth x)
    (λ cmp a b. ap list_depth (test_value-Test cmp a b) ∙ omega (arith, lists-expr a, lists-expr b) ∙ sym (depth-Test cmp a b))
    (λ a. ap list_depth (test_value-IsNull a) ∙ omega (arith, lists-expr a) ∙ sym (depth-IsNull a))
    (λ c p q at_p at_q. ap list_depth (test_value-connected c p q) ∙ omega (arith, at_p, at_q) ∙ sym (depth-connected c p q))
    (λ p at_p. ap list_depth (test_value-Not p) ∙ omega (arith, at_p) ∙ sym (depth-Not p))

pub nests-test : (x : Pred) → depth (test_value x) ≡ test_depth x
nests-test = t.by_cases (λ x. depth (test_value x) ≡ test_depth x)
    (λ cmp a b. ap depth (test_value-Test cmp a b) ∙ omega (arith, nests-expr a, nests-expr b) ∙ sym (depth-Test cmp a b))
    (λ a. ap depth (test_value-IsNull a) ∙ omega (arith, nests-expr a) ∙ sym (depth-IsNull a))
    (λ c p q at_p at_q. ap depth (test_value-connected c p q) ∙ omega (arith, at_p, at_q) ∙ sym (depth-connected c p q))
    (λ p at_p. ap depth (test_value-Not p) ∙ omega (arith, at_p) ∙ sym (depth-Not p))

-- ---- bad numbers

bad-two : (a b : Bool) → a ≡ false → b ≡ false → (a || (b || false)) ≡ false
bad-two a b p q = rw (p, q) refl

bad-one : (a : Bool) → a ≡ false → (a || false) ≡ false
bad-one a p = rw p refl

good-literal : (v : Value) → literal_in_range v ≡ true → bad_number_in (literal_value v) ≡ false
good-literal Null fits = refl
good-literal (Int (pos n)) fits = rw fits refl
good-literal (Int (negsuc n)) fits = rw fits refl
good-literal (Text s) fits = refl

good-col : (k : ℕ) → fits_u32 k ≡ true → ((not (fits_u32 k) || false) || false) ≡ false
good-col k fits = rw fits refl

good-operation : (op : Operator) (x y : Data) → bad_number_in (form (operator_word op) (x ∷ y ∷ [])) ≡ (bad_number_in x || (bad_number_in y || false))
good-operation operator.Add x y = refl
good-operation operator.Sub x y = refl
good-operation operator.Mul x y = refl
good-operation operator.Concat x y = refl

pub good-expr : (x : Expr) → in_range x ≡ true → bad_number_in (expr_value x) ≡ false
good-expr = e.by_cases (λ x. in_range x ≡ true → bad_number_in (expr_value x) ≡ false)
    (λ k fits. ap bad_number_in (expr_value-Col k) ∙ good-col k (sym (in_range-Col k) ∙ fits))
    (λ v fits. ap bad_number_in (expr_value-Const v) ∙ good-literal v (sym (in_range-Const v) ∙ fits))
    (λ op a b at_a at_b fits.
    let both = and_parts (in_range a) (in_range b) (sym (in_range-applied op a b) ∙ fits) in
    ap bad_number_in (expr_value-applied op a b) ∙ good-operation op (expr_value a) (expr_value b) ∙ bad-two _ _ (at_a both.0) (at_b both.1))

good-isnull : (x : Data) → bad_number_in x ≡ false → bad_number_in (form (codes "isnull") (x ∷ [])) ≡ false
good-isnull null h = refl
good-isnull (boolean b) h = refl
good-isnull (number n) h = refl
good-isnull (string s) h = refl
good-isnull (array ds) h = bad-one _ h
good-isnull (object ms) h = refl

good-not : (x : Data) → bad_number_in x ≡ false → bad_number_in (form (codes "not") (x ∷ [])) ≡ false
good-not null h = refl
good-not (boolean b) h = refl
good-not (number n) h = refl
good-not (string s) h = refl
good-not (array ds) h = bad-one _ h
good-not (object ms) h = refl

pub good-test : (x : Pred) → test_in_range x ≡ true → bad_number_in (test_value x) ≡ false
good-test = t.by_cases (λ x. test_in_range x ≡ true → bad_number_in (test_value x) ≡ false)
    (λ cmp a b fits.
    let both = and_parts (in_range a) (in_range b) (sym (range-Test cmp a b) ∙ fits) in
    ap bad_number_in (test_value-Test cmp a b) ∙ bad-two _ _ (good-expr a both.0) (good-expr b both.1))
    (λ a fits. ap bad_number_in (test_value-IsNull a) ∙ good-isnull (expr_value a) (good-expr a (sym (range-IsNull a) ∙ fits)))
    (λ c p q at_p at_q fits.
    let both = and_parts (test_in_range p) (test_in_range q) (sym (range-connected c p q) ∙ fits) in
    ap bad_number_in (test_value-connected c p q) ∙ bad-two _ _ (at_p both.0) (at_q both.1))
    (λ p at_p fits. ap bad_number_in (test_value-Not p) ∙ good-not (test_value p) (at_p (sym (range-Not p) ∙ fits)))

-- ---- floats

plain-literal : (v : Value) → has_float (literal_value v) ≡ false
plain-literal Null = refl
plain-literal (Int (pos n)) = refl
plain-literal (Int (negsuc n)) = refl
plain-literal (Text s) = refl

pub plain-expr : (x : Expr) → has_float (expr_value x) ≡ false
plain-expr = e.by_cases (λ x. has_float (expr_value x) ≡ false)
    (λ k. ap has_float (expr_value-Col k))
    (λ v. ap has_float (expr_value-Const v) ∙ plain-literal v)
    (λ op a b at_a at_b. ap has_float (expr_value-applied op a b) ∙ bad-two _ _ at_a at_b)

pub plain-test : (x : Pred) → has_float (test_value x) ≡ false
plain-test = t.by_cases (λ x. has_float (test_value x) ≡ false)
    (λ cmp a b. ap has_float (test_value-Test cmp a b) ∙ bad-two _ _ (plain-expr a) (plain-expr b))
    (λ a. ap has_float (test_value-IsNull a) ∙ bad-one _ (plain-expr a))
    (λ c p q at_p at_q. ap has_float (test_value-connected c p q) ∙ bad-two _ _ at_p at_q)
    (λ p at_p. ap has_float (test_value-Not p) ∙ bad-one _ at_p)

-- ---- both ways

pub expr_gives : (e : Expr) → in_range e ≡ true → expr_of (expr_value e) ≡ Some e
expr_gives = expr.expr_gives

pub test_gives : (t : Pred) → test_in_range t ≡ true → test_of (test_value t) ≡ Some t
test_gives = test.test_gives

pub expr_takes : (d : Data) (e : Expr) → expr_of d ≡ Some e → (expr_value e ≡ d) × (in_range e ≡ true)
expr_takes = expr.expr_takes

pub test_takes : (d : Data) (t : Pred) → test_of d ≡ Some t → (test_value t ≡ d) × (test_in_range t ≡ true)
test_takes = test.test_takes

-- ---- one spelling each

pub once-expr : (a b : Expr) → in_range a ≡ true → in_range b ≡ true → expr_value a ≡ expr_value b → a ≡ b
once-expr a b fits_a fits_b same = same_Some a b (sym (expr_gives a fits_a) ∙ ap expr_of same ∙ expr_gives b fits_b)

pub once-test : (p q : Pred) → test_in_range p ≡ true → test_in_range q ≡ true → test_value p ≡ test_value q → p ≡ q
once-test p q fits_p fits_q same = same_Some p q (sym (test_gives p fits_p) ∙ ap test_of same ∙ test_gives q fits_q)
