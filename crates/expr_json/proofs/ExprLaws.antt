-- What is read of a value is spelled by it, and what is spelled is read.
use Rattle.std.proofs.Common.{◌≡◌, ℕ, ◌^◌, nat_lt, ℤ, pos, negsuc, Bool, true, false, ◌&&◌, cond, List, [], ◌∷◌, codes, Option, Some, None, option_map, bytes_eq, refl, sym, ap, ◌∙◌, subst}
use Rattle.std.proofs.lemmas.Option.{cond_some, same_Some}
use Rattle.std.proofs.lemmas.Slice.Eq.{bytes_eq-Decides}
use Rattle.serde_json.specs.Data.{Num, unsigned, negative, float, Data, null, boolean, number, string, array, object, Items, no_items, item}
use Rattle.serde_json.specs.Find.{as_str, as_number, of_integer}
use Rattle.row_core.specs.declared.value.Value.{Value}
use Rattle.row_core.specs.declared.value.Value.TheVariants.{Null, Int, Text}
use Rattle.row_core.specs.declared.expr.Expr.{Expr, Col, Const}
use Rattle.expr_json.specs.Ranges.{fits_u32, fits_i64, literal_in_range, range_step, in_range}
use Rattle.expr_json.specs.Reading.{◌>>=◌, when, operator_of, applied, null_of, column_of, literal_of, leaf_of, operation_of, expr_of, expr_from}
use Rattle.expr_json.specs.Spelling.{form, literal_value, expr_step, expr_value}
use Rattle.expr_json.specs.declared.operator.Operator.{Operator}
use Rattle.expr_json.specs.declared.operator.Operator.TheVariants as operator
use Rattle.expr_json.proofs.ExprCases.{fold-Col, fold-Const, fold-applied, by_cases}

-- ---- tools

pub bind_then : {A B P : Type 0} (o : Option A) (f : A → Option B) (y : B) → (o >>= f) ≡ Some y → ((x : A) → o ≡ Some x → f x ≡ Some y → P) → P
bind_then None f y e k = absurd (cc e)
bind_then (Some x) f y e k = k x refl e

pub map_then : {A B P : Type 0} (f : A → B) (o : Option A) (y : B) → option_map f o ≡ Some y → ((x : A) → o ≡ Some x → f x ≡ y → P) → P
map_then f None y e k = absurd (cc e)
map_then f (Some x) y e k = k x refl (same_Some (f x) y e)

pub when_true : {A : Type 0} (b : Bool) (x y : A) → when b x ≡ Some y → (b ≡ true) × (x ≡ y)
when_true b x y e = cond_some b x y e

pub and_both : (a b : Bool) → a ≡ true → b ≡ true → (a && b) ≡ true
and_both a b p q = rw p q

pub and_parts : (a b : Bool) → (a && b) ≡ true → (a ≡ true) × (b ≡ true)
and_parts true b e = (refl, e)
and_parts false b e = absurd (cc e)

pub is_word : (w text : List ℕ) → bytes_eq w text ≡ true → w ≡ text
is_word w text e = (bytes_eq-Decides w text).0 e

str_takes : (d : Data) (s : List ℕ) → as_str d ≡ Some s → d ≡ string s
str_takes null s e = absurd (cc e)
str_takes (boolean b) s e = absurd (cc e)
str_takes (number n) s e = absurd (cc e)
str_takes (string t) s e = ap string (same_Some t s e)
str_takes (array ds) s e = absurd (cc e)
str_takes (object ms) s e = absurd (cc e)

number_takes : (d : Data) (n : Num) → as_number d ≡ Some n → d ≡ number n
number_takes null n e = absurd (cc e)
number_takes (boolean b) n e = absurd (cc e)
number_takes (number m) n e = ap number (same_Some m n e)
number_takes (string t) n e = absurd (cc e)
number_takes (array ds) n e = absurd (cc e)
number_takes (object ms) n e = absurd (cc e)

-- ---- spellings

abbrev pub operator_word : Operator → List ℕ
operator_word operator.Add = codes "add"
operator_word operator.Sub = codes "sub"
operator_word operator.Mul = codes "mul"
operator_word operator.Concat = codes "concat"

pub expr_value-Col : (k : ℕ) → expr_value (Col k) ≡ form (codes "col") (number (unsigned k) ∷ [])
expr_value-Col k = fold-Col Data expr_step k

pub expr_value-Const : (v : Value) → expr_value (Const v) ≡ literal_value v
expr_value-Const v = fold-Const Data expr_step v

pub expr_value-applied : (op : Operator) (a b : Expr) → expr_value (applied op a b) ≡ form (operator_word op) (expr_value a ∷ expr_value b ∷ [])
expr_value-applied operator.Add a b = fold-applied Data expr_step operator.Add a b
expr_value-applied operator.Sub a b = fold-applied Data expr_step operator.Sub a b
expr_value-applied operator.Mul a b = fold-applied Data expr_step operator.Mul a b
expr_value-applied operator.Concat a b = fold-applied Data expr_step operator.Concat a b

pub in_range-Col : (k : ℕ) → in_range (Col k) ≡ fits_u32 k
in_range-Col k = fold-Col Bool range_step k

pub in_range-Const : (v : Value) → in_range (Const v) ≡ literal_in_range v
in_range-Const v = fold-Const Bool range_step v

pub in_range-applied : (op : Operator) (a b : Expr) → in_range (applied op a b) ≡ (in_range a && in_range b)
in_range-applied operator.Add a b = fold-applied Bool range_step operator.Add a b
in_range-applied operator.Sub a b = fold-applied Bool range_step operator.Sub a b
in_range-applied operator.Mul a b = fold-applied Bool range_step operator.Mul a b
in_range-applied operator.Concat a b = fold-applied Bool range_step operator.Concat a b

-- ---- what is spelled is read

column_gives : (k : ℕ) → fits_u32 k ≡ true → column_of (unsigned k) ≡ Some k
column_gives k fits = rw fits refl

literal_gives : (n : ℤ) → fits_i64 n ≡ true → literal_of (of_integer n) ≡ Some n
literal_gives (pos n) fits = rw fits refl
literal_gives (negsuc n) fits = rw fits refl

const_gives : (v : Value) → literal_in_range v ≡ true → expr_of (literal_value v) ≡ Some (Const v)
unfolding leaf_of
const_gives Null fits = refl
const_gives (Int n) fits = ap (option_map (λ k. Const (Int k))) (literal_gives n fits)
const_gives (Text t) fits = refl

operation_gives : (op : Operator) (a b : Expr) → operation_of (operator_word op) (Some a) (Some b) ≡ Some (applied op a b)
unfolding operation_of operator_of
operation_gives operator.Add a b = refl
operation_gives operator.Sub a b = refl
operation_gives operator.Mul a b = refl
operation_gives operator.Concat a b = refl

abbrev IsRead : Expr → Type 0
IsRead e = in_range e ≡ true → expr_of (expr_value e) ≡ Some e

col_gives : (k : ℕ) → IsRead (Col k)
unfolding leaf_of
col_gives k fits = ap expr_of (expr_value-Col k) ∙ ap (option_map Col) (column_gives k (sym (in_range-Col k) ∙ fits))

applied_gives : (op : Operator) (a b : Expr) → IsRead a → IsRead b → IsRead (applied op a b)
applied_gives op a b at_a at_b fits =
    let both = and_parts (in_range a) (in_range b) (sym (in_range-applied op a b) ∙ fits) in
    ap expr_of (expr_value-applied op a b)
    ∙ ap (λ o. operation_of (operator_word op) o (expr_of (expr_value b))) (at_a both.0)
    ∙ ap (λ o. operation_of (operator_word op) (Some a) o) (at_b both.1)
    ∙ operation_gives op a b

pub expr_gives : (e : Expr) → in_range e ≡ true → expr_of (expr_value e) ≡ Some e
expr_gives = by_cases IsRead col_gives (λ v fits. ap expr_of (expr_value-Const v) ∙ const_gives v (sym (in_range-Const v) ∙ fits)) applied_gives

-- ---- what is read is spelled so

-- the value is this expression's, whose numbers are in range
abbrev pub Spelled : Data → Expr → Type 0
Spelled d e = (expr_value e ≡ d) × (in_range e ≡ true)

column_takes : (n : Num) (k : ℕ) → column_of n ≡ Some k → (number (unsigned k) ≡ number n) × (fits_u32 k ≡ true)
column_takes (unsigned m) k e =
    let w = when_true (nat_lt m (2 ^ 32)) m k e in
    (ap (λ x. number (unsigned x)) (sym w.1), subst (λ (x : ℕ). fits_u32 x ≡ true) w.1 w.0)
column_takes (negative z) k e = absurd (cc e)
column_takes (float x) k e = absurd (cc e)

literal_takes : (n : Num) (z : ℤ) → literal_of n ≡ Some z → (number (of_integer z) ≡ number n) × (fits_i64 z ≡ true)
literal_takes (unsigned m) z e =
    let w = when_true (nat_lt m (2 ^ 63)) (pos m) z e in
    (ap (λ x. number (of_integer x)) (sym w.1), subst (λ (x : ℤ). fits_i64 x ≡ true) w.1 w.0)
literal_takes (negative (pos m)) z e = absurd (cc e)
literal_takes (negative (negsuc m)) z e =
    let w = when_true (nat_lt m (2 ^ 63)) (negsuc m) z e in
    (ap (λ x. number (of_integer x)) (sym w.1), subst (λ (x : ℤ). fits_i64 x ≡ true) w.1 w.0)
literal_takes (float x) z e = absurd (cc e)

null_takes : (w : List ℕ) (e : Expr) → null_of w ≡ Some e → Spelled (form w []) e
null_takes w e is =
    let t = when_true (bytes_eq w (codes "null")) (Const Null) e is in
    subst (λ (x : Expr). Spelled (form w []) x) t.1
    (expr_value-Const Null ∙ ap (λ x. form x []) (sym (is_word w (codes "null") t.0)), in_range-Const Null)

at_col : (w : List ℕ) (d : Data) (e : Expr) → w ≡ codes "col" → option_map Col (as_number d >>= column_of) ≡ Some e → Spelled (form w (d ∷ [])) e
at_col w d e word is =
    map_then Col (as_number d >>= column_of) e is (λ k found same.
    bind_then (as_number d) column_of k found (λ n d_is k_is.
    let t = column_takes n k k_is in
    subst (λ (x : Expr). Spelled (form w (d ∷ [])) x) same
    (expr_value-Col k ∙ ap (λ x. form (codes "col") (x ∷ [])) (t.0 ∙ sym (number_takes d n d_is)) ∙ ap (λ x. form x (d ∷ [])) (sym word), in_range-Col k ∙ t.1)))

at_int : (w : List ℕ) (d : Data) (e : Expr) → w ≡ codes "int" → option_map (λ n. Const (Int n)) (as_number d >>= literal_of) ≡ Some e → Spelled (form w (d ∷ [])) e
at_int w d e word is =
    map_then (λ n. Const (Int n)) (as_number d >>= literal_of) e is (λ z found same.
    bind_then (as_number d) literal_of z found (λ n d_is z_is.
    let t = literal_takes n z z_is in
    subst (λ (x : Expr). Spelled (form w (d ∷ [])) x) same
    (expr_value-Const (Int z) ∙ ap (λ x. form (codes "int") (x ∷ [])) (t.0 ∙ sym (number_takes d n d_is)) ∙ ap (λ x. form x (d ∷ [])) (sym word), in_range-Const (Int z) ∙ t.1)))

at_text : (w : List ℕ) (d : Data) (e : Expr) → w ≡ codes "text" → option_map (λ s. Const (Text s)) (as_str d) ≡ Some e → Spelled (form w (d ∷ [])) e
at_text w d e word is =
    map_then (λ s. Const (Text s)) (as_str d) e is (λ s d_is same.
    subst (λ (x : Expr). Spelled (form w (d ∷ [])) x) same
    (expr_value-Const (Text s) ∙ ap (λ x. form (codes "text") (x ∷ [])) (sym (str_takes d s d_is)) ∙ ap (λ x. form x (d ∷ [])) (sym word), in_range-Const (Text s)))

-- the first of the tests that passes decides
pub decides : {A P : Type 0} (b : Bool) (one other : Option A) (y : A) → cond b one other ≡ Some y → (b ≡ true → one ≡ Some y → P) → (other ≡ Some y → P) → P
decides true one other y e here later = here refl e
decides false one other y e here later = later e

leaf_takes : (w : List ℕ) (d : Data) (e : Expr) → leaf_of w d ≡ Some e → Spelled (form w (d ∷ [])) e
unfolding leaf_of
leaf_takes w d e is =
    decides (bytes_eq w (codes "col")) _ _ e is (λ b one. at_col w d e (is_word w (codes "col") b) one) (λ rest.
    decides (bytes_eq w (codes "int")) _ _ e rest (λ b one. at_int w d e (is_word w (codes "int") b) one) (λ rest.
    decides (bytes_eq w (codes "text")) _ _ e rest (λ b one. at_text w d e (is_word w (codes "text") b) one) (λ none. absurd (cc none))))

named : (w text : List ℕ) (x op : Operator) → bytes_eq w text ≡ true → text ≡ operator_word x → Some x ≡ Some op → w ≡ operator_word op
named w text x op b word e = is_word w text b ∙ word ∙ ap operator_word (same_Some x op e)

operator_takes : (w : List ℕ) (op : Operator) → operator_of w ≡ Some op → w ≡ operator_word op
unfolding operator_of
operator_takes w op is =
    decides (bytes_eq w (codes "add")) _ _ op is (λ b e. named w _ operator.Add op b refl e) (λ rest.
    decides (bytes_eq w (codes "sub")) _ _ op rest (λ b e. named w _ operator.Sub op b refl e) (λ rest.
    decides (bytes_eq w (codes "mul")) _ _ op rest (λ b e. named w _ operator.Mul op b refl e) (λ rest.
    decides (bytes_eq w (codes "concat")) _ _ op rest (λ b e. named w _ operator.Concat op b refl e) (λ none. absurd (cc none)))))

operation_takes : (w : List ℕ) (x y : Data) (one two : Option Expr) (e : Expr) → ((a : Expr) → one ≡ Some a → Spelled x a) → ((b : Expr) → two ≡ Some b → Spelled y b) → operation_of w one two ≡ Some e → Spelled (form w (x ∷ y ∷ [])) e
unfolding operation_of
operation_takes w x y one two e at_x at_y is =
    bind_then (operator_of w) _ e is (λ op op_is is1.
    bind_then one _ e is1 (λ a a_is is2.
    bind_then two _ e is2 (λ b b_is is3.
    let s = at_x a a_is in
    let t = at_y b b_is in
    subst (λ (z : Expr). Spelled (form w (x ∷ y ∷ [])) z) (same_Some (applied op a b) e is3) (
      expr_value-applied op a b ∙ ap (λ v. form (operator_word op) (v ∷ expr_value b ∷ [])) s.0 ∙ ap (λ v. form (operator_word op) (x ∷ v ∷ [])) t.0 ∙ ap (λ v. form v (x ∷ y ∷ [])) (sym (operator_takes w op op_is)),
      in_range-applied op a b ∙ and_both (in_range a) (in_range b) s.1 t.1,
    ))))

mutual
  pub expr_takes : (d : Data) (e : Expr) → expr_of d ≡ Some e → Spelled d e
  expr_takes null e is = absurd (cc is)
  expr_takes (boolean b) e is = absurd (cc is)
  expr_takes (number n) e is = absurd (cc is)
  expr_takes (string s) e is = absurd (cc is)
  expr_takes (object ms) e is = absurd (cc is)
  expr_takes (array no_items) e is = absurd (cc is)
  expr_takes (array (item null parts)) e is = absurd (cc is)
  expr_takes (array (item (boolean b) parts)) e is = absurd (cc is)
  expr_takes (array (item (number n) parts)) e is = absurd (cc is)
  expr_takes (array (item (string w) parts)) e is = parts_take w parts e is
  expr_takes (array (item (array ds) parts)) e is = absurd (cc is)
  expr_takes (array (item (object ms) parts)) e is = absurd (cc is)

  parts_take : (w : List ℕ) (parts : Items) (e : Expr) → expr_from w parts ≡ Some e → Spelled (array (item (string w) parts)) e
  parts_take w no_items e is = null_takes w e is
  parts_take w (item d no_items) e is = leaf_takes w d e is
  parts_take w (item a (item b no_items)) e is = operation_takes w a b (expr_of a) (expr_of b) e (expr_takes a) (expr_takes b) is
  parts_take w (item a (item b (item c parts))) e is = absurd (cc is)
