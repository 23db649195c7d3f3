-- A value that is read begins with its word.
use Rattle.std.proofs.Common.{◌≡◌, ℕ, ◌<◌, ◌≤◌, List, [], ◌∷◌, length, get_or, Option, Some, None, option_and_then, Result, Ok, Err, IfOk, Bool, true, false, bytes_eq, codes, option_map, refl, arith, sym, ap, ◌∙◌}
use Rattle.std.proofs.lemmas.Slice.Eq.{bytes_eq-Decides}
use Rattle.serde_json.specs.Data.{Data, null, boolean, number, string, array, object, Items, no_items, item}
use Rattle.serde_json.specs.View.{view, items_view}
use Rattle.serde_json.specs.declared.value.Value.{Value}
use Rattle.row_core.specs.declared.expr.Expr.{Expr}
use Rattle.row_core.specs.declared.pred.Pred.{Pred, Not, IsNull}
use Rattle.expr_json.specs.Reading.{word_of, expr_of, expr_from, test_of_one, test_of, test_from}

pub expr_by_word : (d : Data) → expr_of d ≡ option_and_then (λ p. expr_from p.0 p.1) (word_of d)
expr_by_word null = refl
expr_by_word (boolean b) = refl
expr_by_word (number n) = refl
expr_by_word (string s) = refl
expr_by_word (object ms) = refl
expr_by_word (array no_items) = refl
expr_by_word (array (item null is)) = refl
expr_by_word (array (item (boolean b) is)) = refl
expr_by_word (array (item (number n) is)) = refl
expr_by_word (array (item (string w) is)) = refl
expr_by_word (array (item (array ds) is)) = refl
expr_by_word (array (item (object ms) is)) = refl

pub test_by_word : (d : Data) → test_of d ≡ option_and_then (λ p. test_from p.0 p.1) (word_of d)
test_by_word null = refl
test_by_word (boolean b) = refl
test_by_word (number n) = refl
test_by_word (string s) = refl
test_by_word (object ms) = refl
test_by_word (array no_items) = refl
test_by_word (array (item null is)) = refl
test_by_word (array (item (boolean b) is)) = refl
test_by_word (array (item (number n) is)) = refl
test_by_word (array (item (string w) is)) = refl
test_by_word (array (item (array ds) is)) = refl
test_by_word (array (item (object ms) is)) = refl

-- what is found by a word and its parts is what the value is
pub expr_at : (d : Data) (w : List ℕ) (parts is : Items) → Some (w, is) ≡ word_of d → parts ≡ is → expr_from w parts ≡ expr_of d
expr_at d w parts is e same = ap (expr_from w) same ∙ ap (option_and_then (λ p. expr_from p.0 p.1)) e ∙ sym (expr_by_word d)

pub test_at : (d : Data) (w : List ℕ) (parts is : Items) → Some (w, is) ≡ word_of d → parts ≡ is → test_from w parts ≡ test_of d
test_at d w parts is e same = ap (test_from w) same ∙ ap (option_and_then (λ p. test_from p.0 p.1)) e ∙ sym (test_by_word d)

-- a result that is x is y, where both are the same
pub given : {E T : Type 0} (r : Result T E) (x y : T) → IfOk r (λ found. found ≡ x) → x ≡ y → IfOk r (λ found. found ≡ y)
given (Ok found) x y h e = h ∙ e
given (Err error) x y h e = tt

pub no_parts : (ps : List Value) → length ps < 1 → no_items ≡ items_view ps
no_parts [] h = refl
no_parts (p ∷ ps) h = absurd (omega arith)

pub one_part : (ps : List Value) (v : Value) → 1 ≤ length ps → length ps < 2 → v ≡ get_or ps 0 v → item (view v) no_items ≡ items_view ps
one_part [] v low high e = absurd (omega arith)
one_part (p ∷ []) v low high e = ap (λ (u : Value). item (view u) no_items) e
one_part (p ∷ q ∷ ps) v low high e = absurd (omega arith)

pub two_parts : (ps : List Value) (u v : Value) → 2 ≤ length ps → length ps < 3 → u ≡ get_or ps 0 u → v ≡ get_or ps 1 v → item (view u) (item (view v) no_items) ≡ items_view ps
two_parts [] u v low high d e = absurd (omega arith)
two_parts (p ∷ []) u v low high d e = absurd (omega arith)
two_parts (p ∷ q ∷ []) u v low high d e = ap (λ (x : Value). item (view x) (item (view v) no_items)) d ∙ ap (λ (y : Value). item (view p) (item (view y) no_items)) e
two_parts (p ∷ q ∷ r ∷ ps) u v low high d e = absurd (omega arith)

pub expr_too_long : (w : List ℕ) (ps : List Value) → 3 ≤ length ps → None ≡ expr_from w (items_view ps)
expr_too_long w [] h = absurd (omega arith)
expr_too_long w (p ∷ []) h = absurd (omega arith)
expr_too_long w (p ∷ q ∷ []) h = absurd (omega arith)
expr_too_long w (p ∷ q ∷ r ∷ ps) h = refl

pub test_too_long : (w : List ℕ) (ps : List Value) → 3 ≤ length ps → None ≡ test_from w (items_view ps)
test_too_long w [] h = absurd (omega arith)
test_too_long w (p ∷ []) h = absurd (omega arith)
test_too_long w (p ∷ q ∷ []) h = absurd (omega arith)
test_too_long w (p ∷ q ∷ r ∷ ps) h = refl

-- the word of a test of one part
pub is_not : (w : List ℕ) (p : Option Pred) (a : Option Expr) → w ≡ codes "not" → option_map Not p ≡ test_of_one w p a
is_not w p a e = rw e refl

pub is_isnull : (w : List ℕ) (p : Option Pred) (a : Option Expr) → w ≡ codes "isnull" → option_map IsNull a ≡ test_of_one w p a
is_isnull w p a e = rw e refl

differ : (xs ys : List ℕ) (b : Bool) → bytes_eq xs ys ≡ b → (xs ≡ ys → ⊥) → b ≡ false
differ xs ys true e other = absurd (other ((bytes_eq-Decides xs ys).0 e))
differ xs ys false e other = refl

pub is_neither : (w : List ℕ) (p : Option Pred) (a : Option Expr) → (w ≡ codes "not" → ⊥) → (w ≡ codes "isnull" → ⊥) → None ≡ test_of_one w p a
is_neither w p a other_not other_isnull = rw (differ w (codes "not") _ refl other_not, differ w (codes "isnull") _ refl other_isnull) refl
