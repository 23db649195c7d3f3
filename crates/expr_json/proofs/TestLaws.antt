-- What is read of a value as a test is spelled by it, and what is spelled is read.
use Rattle.std.proofs.Common.{◌≡◌, Bool, true, ◌&&◌, List, [], ◌∷◌, ℕ, codes, Option, Some, None, option_map, bytes_eq, refl, sym, ap, ◌∙◌, subst}
use Rattle.std.proofs.lemmas.Option.{same_Some}
use Rattle.serde_json.specs.Data.{Data, null, boolean, number, string, array, object, Items, no_items, item}
use Rattle.row_core.specs.declared.cmp.Cmp.{Cmp}
use Rattle.row_core.specs.declared.cmp.Cmp.TheVariants.{Eq, Ne, Lt, Le, Gt, Ge}
use Rattle.row_core.specs.declared.expr.Expr.{Expr}
use Rattle.row_core.specs.declared.pred.Pred.{Pred, Test, IsNull, Not}
use Rattle.expr_json.specs.Ranges.{in_range, test_range_step, test_in_range}
use Rattle.expr_json.specs.Reading.{cmp_of, connective_of, connected, comparison_of, connection_of, test_of_one, test_of_two, expr_of, test_of, test_from}
use Rattle.expr_json.specs.Spelling.{form, expr_value, cmp_word, test_step, test_value}
use Rattle.expr_json.specs.declared.connective.Connective.{Connective}
use Rattle.expr_json.specs.declared.connective.Connective.TheVariants as connective
use Rattle.expr_json.proofs.ExprLaws.{bind_then, map_then, and_both, and_parts, is_word, decides, expr_gives, expr_takes, Spelled}
use Rattle.expr_json.proofs.TestCases.{fold-Test, fold-IsNull, fold-connected, fold-Not, by_cases}

abbrev pub connective_word : Connective → List ℕ
connective_word connective.And = codes "and"
connective_word connective.Or = codes "or"

pub test_value-Test : (cmp : Cmp) (a b : Expr) → test_value (Test cmp a b) ≡ form (cmp_word cmp) (expr_value a ∷ expr_value b ∷ [])
test_value-Test cmp a b = fold-Test Data test_step cmp a b

pub test_value-IsNull : (a : Expr) → test_value (IsNull a) ≡ form (codes "isnull") (expr_value a ∷ [])
test_value-IsNull a = fold-IsNull Data test_step a

pub test_value-connected : (c : Connective) (p q : Pred) → test_value (connected c p q) ≡ form (connective_word c) (test_value p ∷ test_value q ∷ [])
test_value-connected connective.And p q = fold-connected Data test_step connective.And p q
test_value-connected connective.Or p q = fold-connected Data test_step connective.Or p q

pub test_value-Not : (p : Pred) → test_value (Not p) ≡ form (codes "not") (test_value p ∷ [])
test_value-Not p = fold-Not Data test_step p

pub range-Test : (cmp : Cmp) (a b : Expr) → test_in_range (Test cmp a b) ≡ (in_range a && in_range b)
range-Test cmp a b = fold-Test Bool test_range_step cmp a b

pub range-IsNull : (a : Expr) → test_in_range (IsNull a) ≡ in_range a
range-IsNull a = fold-IsNull Bool test_range_step a

pub range-connected : (c : Connective) (p q : Pred) → test_in_range (connected c p q) ≡ (test_in_range p && test_in_range q)
range-connected connective.And p q = fold-connected Bool test_range_step connective.And p q
range-connected connective.Or p q = fold-connected Bool test_range_step connective.Or p q

pub range-Not : (p : Pred) → test_in_range (Not p) ≡ test_in_range p
range-Not p = fold-Not Bool test_range_step p

-- ---- what is spelled is read

comparison_gives : (cmp : Cmp) (a b : Expr) (p q : Option Pred) → test_of_two (cmp_word cmp) (connective_of (cmp_word cmp)) p q (Some a) (Some b) ≡ Some (Test cmp a b)
unfolding comparison_of cmp_of connective_of
comparison_gives Eq a b p q = refl
comparison_gives Ne a b p q = refl
comparison_gives Lt a b p q = refl
comparison_gives Le a b p q = refl
comparison_gives Gt a b p q = refl
comparison_gives Ge a b p q = refl

connection_gives : (c : Connective) (p q : Pred) (a b : Option Expr) → test_of_two (connective_word c) (connective_of (connective_word c)) (Some p) (Some q) a b ≡ Some (connected c p q)
unfolding connection_of connective_of
connection_gives connective.And p q a b = refl
connection_gives connective.Or p q a b = refl

abbrev IsRead : Pred → Type 0
IsRead p = test_in_range p ≡ true → test_of (test_value p) ≡ Some p

test_at_cmp : (cmp : Cmp) (a b : Expr) → IsRead (Test cmp a b)
test_at_cmp cmp a b fits =
    let word = cmp_word cmp in
    let p = test_of (expr_value a) in
    let q = test_of (expr_value b) in
    let both = and_parts (in_range a) (in_range b) (sym (range-Test cmp a b) ∙ fits) in
    ap test_of (test_value-Test cmp a b)
    ∙ ap (λ o. test_of_two word (connective_of word) p q o (expr_of (expr_value b))) (expr_gives a both.0)
    ∙ ap (λ o. test_of_two word (connective_of word) p q (Some a) o) (expr_gives b both.1)
    ∙ comparison_gives cmp a b p q

test_at_null : (a : Expr) → IsRead (IsNull a)
test_at_null a fits = ap test_of (test_value-IsNull a) ∙ ap (option_map IsNull) (expr_gives a (sym (range-IsNull a) ∙ fits))

test_at_connected : (c : Connective) (p q : Pred) → IsRead p → IsRead q → IsRead (connected c p q)
test_at_connected c p q at_p at_q fits =
    let word = connective_word c in
    let a = expr_of (test_value p) in
    let b = expr_of (test_value q) in
    let both = and_parts (test_in_range p) (test_in_range q) (sym (range-connected c p q) ∙ fits) in
    ap test_of (test_value-connected c p q)
    ∙ ap (λ o. test_of_two word (connective_of word) o (test_of (test_value q)) a b) (at_p both.0)
    ∙ ap (λ o. test_of_two word (connective_of word) (Some p) o a b) (at_q both.1)
    ∙ connection_gives c p q a b

test_at_not : (p : Pred) → IsRead p → IsRead (Not p)
test_at_not p at_p fits = ap test_of (test_value-Not p) ∙ ap (option_map Not) (at_p (sym (range-Not p) ∙ fits))

pub test_gives : (p : Pred) → test_in_range p ≡ true → test_of (test_value p) ≡ Some p
test_gives = by_cases IsRead test_at_cmp test_at_null test_at_connected test_at_not

-- ---- what is read is spelled so

-- the value is this test's, whose numbers are in range
abbrev pub SpelledTest : Data → Pred → Type 0
SpelledTest d p = (test_value p ≡ d) × (test_in_range p ≡ true)

cmp_named : (w text : List ℕ) (x cmp : Cmp) → bytes_eq w text ≡ true → text ≡ cmp_word x → Some x ≡ Some cmp → w ≡ cmp_word cmp
cmp_named w text x cmp b word e = is_word w text b ∙ word ∙ ap cmp_word (same_Some x cmp e)

cmp_takes : (w : List ℕ) (cmp : Cmp) → cmp_of w ≡ Some cmp → w ≡ cmp_word cmp
unfolding cmp_of
cmp_takes w cmp is =
    decides (bytes_eq w (codes "eq")) _ _ cmp is (λ b e. cmp_named w _ Eq cmp b refl e) (λ rest.
    decides (bytes_eq w (codes "ne")) _ _ cmp rest (λ b e. cmp_named w _ Ne cmp b refl e) (λ rest.
    decides (bytes_eq w (codes "lt")) _ _ cmp rest (λ b e. cmp_named w _ Lt cmp b refl e) (λ rest.
    decides (bytes_eq w (codes "le")) _ _ cmp rest (λ b e. cmp_named w _ Le cmp b refl e) (λ rest.
    decides (bytes_eq w (codes "gt")) _ _ cmp rest (λ b e. cmp_named w _ Gt cmp b refl e) (λ rest.
    decides (bytes_eq w (codes "ge")) _ _ cmp rest (λ b e. cmp_named w _ Ge cmp b refl e) (λ none. absurd (cc none)))))))

connective_named : (w text : List ℕ) (x c : Connective) → bytes_eq w text ≡ true → text ≡ connective_word x → Some x ≡ Some c → w ≡ connective_word c
connective_named w text x c b word e = is_word w text b ∙ word ∙ ap connective_word (same_Some x c e)

connective_takes : (w : List ℕ) (c : Connective) → connective_of w ≡ Some c → w ≡ connective_word c
unfolding connective_of
connective_takes w c is =
    decides (bytes_eq w (codes "and")) _ _ c is (λ b e. connective_named w _ connective.And c b refl e) (λ rest.
    decides (bytes_eq w (codes "or")) _ _ c rest (λ b e. connective_named w _ connective.Or c b refl e) (λ none. absurd (cc none)))

-- what is found behind a word is spelled there
abbrev TakenExpr : Data → Option Expr → Type 0
TakenExpr d o = (e : Expr) → o ≡ Some e → Spelled d e

abbrev TakenTest : Data → Option Pred → Type 0
TakenTest d o = (p : Pred) → o ≡ Some p → SpelledTest d p

comparison_takes : (w : List ℕ) (x y : Data) (one two : Option Expr) → TakenExpr x one → TakenExpr y two → (t : Pred) → comparison_of w one two ≡ Some t → SpelledTest (form w (x ∷ y ∷ [])) t
unfolding comparison_of
comparison_takes w x y one two at_x at_y t is =
    bind_then (cmp_of w) _ t is (λ cmp cmp_is is1.
    bind_then one _ t is1 (λ a a_is is2.
    bind_then two _ t is2 (λ b b_is is3.
    let s = at_x a a_is in
    let r = at_y b b_is in
    subst (λ (z : Pred). SpelledTest (form w (x ∷ y ∷ [])) z) (same_Some (Test cmp a b) t is3) (
      test_value-Test cmp a b ∙ ap (λ v. form (cmp_word cmp) (v ∷ expr_value b ∷ [])) s.0 ∙ ap (λ v. form (cmp_word cmp) (x ∷ v ∷ [])) r.0 ∙ ap (λ v. form v (x ∷ y ∷ [])) (sym (cmp_takes w cmp cmp_is)),
      range-Test cmp a b ∙ and_both (in_range a) (in_range b) s.1 r.1,
    ))))

connection_takes : (w : List ℕ) (c : Connective) (x y : Data) (one two : Option Pred) → w ≡ connective_word c → TakenTest x one → TakenTest y two → (t : Pred) → connection_of c one two ≡ Some t → SpelledTest (form w (x ∷ y ∷ [])) t
unfolding connection_of
connection_takes w c x y one two word at_x at_y t is =
    bind_then one _ t is (λ p p_is is1.
    bind_then two _ t is1 (λ q q_is is2.
    let s = at_x p p_is in
    let r = at_y q q_is in
    subst (λ (z : Pred). SpelledTest (form w (x ∷ y ∷ [])) z) (same_Some (connected c p q) t is2) (
      test_value-connected c p q ∙ ap (λ v. form (connective_word c) (v ∷ test_value q ∷ [])) s.0 ∙ ap (λ v. form (connective_word c) (x ∷ v ∷ [])) r.0 ∙ ap (λ v. form v (x ∷ y ∷ [])) (sym word),
      range-connected c p q ∙ and_both (test_in_range p) (test_in_range q) s.1 r.1,
    )))

joined_takes : (w : List ℕ) (o : Option Connective) (x y : Data) (p q : Option Pred) (a b : Option Expr) → connective_of w ≡ o → TakenTest x p → TakenTest y q → TakenExpr x a → TakenExpr y b
    → (t : Pred) → test_of_two w o p q a b ≡ Some t → SpelledTest (form w (x ∷ y ∷ [])) t
joined_takes w (Some c) x y p q a b word at_p at_q at_a at_b t is = connection_takes w c x y p q (connective_takes w c word) at_p at_q t is
joined_takes w None x y p q a b word at_p at_q at_a at_b t is = comparison_takes w x y a b at_a at_b t is

not_takes : (w : List ℕ) (d : Data) (o : Option Pred) → w ≡ codes "not" → TakenTest d o → (t : Pred) → option_map Not o ≡ Some t → SpelledTest (form w (d ∷ [])) t
not_takes w d o word at_d t is =
    map_then Not o t is (λ p p_is same.
    let s = at_d p p_is in
    subst (λ (z : Pred). SpelledTest (form w (d ∷ [])) z) same
    (test_value-Not p ∙ ap (λ v. form (codes "not") (v ∷ [])) s.0 ∙ ap (λ v. form v (d ∷ [])) (sym word), range-Not p ∙ s.1))

isnull_takes : (w : List ℕ) (d : Data) (o : Option Expr) → w ≡ codes "isnull" → TakenExpr d o → (t : Pred) → option_map IsNull o ≡ Some t → SpelledTest (form w (d ∷ [])) t
isnull_takes w d o word at_d t is =
    map_then IsNull o t is (λ a a_is same.
    let s = at_d a a_is in
    subst (λ (z : Pred). SpelledTest (form w (d ∷ [])) z) same
    (test_value-IsNull a ∙ ap (λ v. form (codes "isnull") (v ∷ [])) s.0 ∙ ap (λ v. form v (d ∷ [])) (sym word), range-IsNull a ∙ s.1))

one_part_takes : (w : List ℕ) (d : Data) (p : Option Pred) (a : Option Expr) → TakenTest d p → TakenExpr d a → (t : Pred) → test_of_one w p a ≡ Some t → SpelledTest (form w (d ∷ [])) t
one_part_takes w d p a at_p at_a t is =
    decides (bytes_eq w (codes "not")) _ _ t is (λ b one. not_takes w d p (is_word w (codes "not") b) at_p t one) (λ rest.
    decides (bytes_eq w (codes "isnull")) _ _ t rest (λ b one. isnull_takes w d a (is_word w (codes "isnull") b) at_a t one) (λ none. absurd (cc none)))

mutual
  pub test_takes : (d : Data) (t : Pred) → test_of d ≡ Some t → SpelledTest d t
  test_takes null t is = absurd (cc is)
  test_takes (boolean b) t is = absurd (cc is)
  test_takes (number n) t is = absurd (cc is)
  test_takes (string s) t is = absurd (cc is)
  test_takes (object ms) t is = absurd (cc is)
  test_takes (array no_items) t is = absurd (cc is)
  test_takes (array (item null parts)) t is = absurd (cc is)
  test_takes (array (item (boolean b) parts)) t is = absurd (cc is)
  test_takes (array (item (number n) parts)) t is = absurd (cc is)
  test_takes (array (item (string w) parts)) t is = parts_take w parts t is
  test_takes (array (item (array ds) parts)) t is = absurd (cc is)
  test_takes (array (item (object ms) parts)) t is = absurd (cc is)

  parts_take : (w : List ℕ) (parts : Items) (t : Pred) → test_from w parts ≡ Some t → SpelledTest (array (item (string w) parts)) t
  parts_take w no_items t is = absurd (cc is)
  parts_take w (item d no_items) t is = one_part_takes w d (test_of d) (expr_of d) (test_takes d) (expr_takes d) t is
  parts_take w (item a (item b no_items)) t is = joined_takes w (connective_of w) a b (test_of a) (test_of b) (expr_of a) (expr_of b) refl (test_takes a) (test_takes b) (expr_takes a) (expr_takes b) t is
  parts_take w (item a (item b (item c parts))) t is = absurd (cc is)
