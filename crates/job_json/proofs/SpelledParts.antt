-- The parts of nodes that are spelled are read.
use Rattle.std.proofs.Common.{◌≡◌, ℕ, suc, ◌<◌, ◌≤◌, ◌^◌, ◌-◌, min, nat_lt, nat_le, Bool, true, false, List, [], ◌∷◌, length, map, codes, Option, Some, None, Ok, refl, ap, ◌∙◌, arith}
use Rattle.std.proofs.lemmas.Bool.Decides.{nat_tests}
use Rattle.std.specs.List.{list_all, list_any}
use Rattle.serde_json.specs.Data.{Data, string}
use Rattle.serde_json.specs.Find.{get}
use Rattle.serde_json.specs.View.{items_of}
use Rattle.row_core.specs.declared.expr.Expr.{Expr}
use Rattle.row_core.specs.declared.pred.Pred.{Pred}
use Rattle.plan_model.specs.declared.agg.Agg.{Agg}
use Rattle.plan_model.specs.declared.agg.Agg.TheVariants.{Count, Sum, Min, Max}
use Rattle.plan_model.specs.declared.column.Column.{Column}
use Rattle.plan_model.specs.declared.join_kind.JoinKind.{JoinKind}
use Rattle.plan_model.specs.declared.join_kind.JoinKind.TheVariants as kind
use Rattle.plan_model.specs.declared.kind.Kind.{Kind}
use Rattle.plan_model.specs.declared.kind.Kind.TheVariants.{IntKind, TextKind}
use Rattle.expr_json.specs.BadNumbers.{bad_number_in}
use Rattle.expr_json.specs.Depths.{list_depth, expr_depth, test_depth}
use Rattle.expr_json.specs.Ranges.{in_range, test_in_range}
use Rattle.expr_json.specs.Reading.{expr_of}
use Rattle.expr_json.specs.Spelling.{expr_value, test_value}
use Rattle.expr_json.proofs.Laws.{expr_gives, test_gives, lists-expr, lists-test, good-expr, good-test}
use Rattle.job_json.specs.Members.{is_name, is_number, u32_in, name_in, items_list, one_item_in, two_items_in, each, name_of, number_of, list_of}
use Rattle.job_json.specs.Parts.{not_too_long, kind_in, column_in, columns_of, keys_of, inputs_of, pair_in, is_pair, pairs_of, agg_in, column_agg_in, is_agg, aggs_of, capped_depth, too_deep_among, where_of, exprs_of, separator_of, join_kind_named, join_kind_of, ship_of}
use Rattle.job_json.specs.Spelling.{list_value, number_value, kind_word, column_value, pair_value, agg_value, join_kind_word}
use Rattle.job_json.specs.WellFormed.{is_u32, is_u32_pair, is_u32_agg, is_named, is_shallow_expr, is_shallow_test, IsShort}
use Rattle.job_json.proofs.Tools.{both_true, both_parts}

-- ---- members

pub name_at : (k : Option ℕ) (at : List ℕ) (d : Data) (name : List ℕ) → get at d ≡ Some (string name) → is_name name ≡ true → name_of k at d ≡ Ok name
unfolding name_of name_in
name_at k at d name e h = rw (e, h) refl

number_again : (n : ℕ) → is_u32 n ≡ true → u32_in (number_value n) ≡ Some n
number_again n h = rw h refl

pub number_at : (k : Option ℕ) (at : List ℕ) (d : Data) (n : ℕ) → get at d ≡ Some (number_value n) → is_u32 n ≡ true → number_of k at d ≡ Ok n
unfolding number_of
number_at k at d n e h = rw (e, h) refl

items_again : (ds : List Data) → items_list (items_of ds) ≡ ds
items_again [] = refl
items_again (d ∷ ds) = ap (λ xs. d ∷ xs) (items_again ds)

pub list_at : (k : Option ℕ) (at : List ℕ) (d : Data) (items : List Data) → get at d ≡ Some (list_value items) → list_of k at d ≡ Ok items
unfolding list_of
list_at k at d items e = rw (e, items_again items) refl

-- ---- lists

each_again : {A B : Type 0} (f : A → Option B) (g : B → A) (p : B → Bool) → ((y : B) → p y ≡ true → f (g y) ≡ Some y) → (ys : List B) → list_all p ys ≡ true → each f (map g ys) ≡ Some ys
each_again f g p one [] h = refl
each_again f g p one (y ∷ ys) h =
    let parts = both_parts (p y) (list_all p ys) h in
    rw (one y parts.0, each_again f g p one ys parts.1) refl

all_again : {A B : Type 0} (q : A → Bool) (g : B → A) → ((y : B) → q (g y) ≡ true) → (ys : List B) → list_all q (map g ys) ≡ true
all_again q g one [] = refl
all_again q g one (y ∷ ys) = both_true (q (g y)) (list_all q (map g ys)) (one y) (all_again q g one ys)

pub as_many : {A B : Type 0} (g : B → A) (ys : List B) → length (map g ys) ≡ length ys
as_many g [] = refl
as_many g (y ∷ ys) = ap suc (as_many g ys)

pub le_test : (m n : ℕ) → m ≤ n → nat_le m n ≡ true
le_test m n h = grind (arith, nat_tests)

lt_test : (m n : ℕ) → m < n → nat_lt m n ≡ true
lt_test m n h = grind (arith, nat_tests)

short_again : {B : Type 0} (k : Option ℕ) (g : B → Data) (ys : List B) → length ys ≤ 256 → not_too_long k (map g ys) ≡ Ok tt
short_again k g ys h = let low : length (map g ys) ≤ 256 = omega (arith, as_many g ys) in rw (le_test (length (map g ys)) 256 low) refl

some_again : {B : Type 0} (g : B → Data) (ys : List B) → 0 < length ys → nat_lt 0 (length (map g ys)) ≡ true
some_again g ys h = let low : 0 < length (map g ys) = omega (arith, as_many g ys) in lt_test 0 (length (map g ys)) low

kind_again : (kind : Kind) → kind_in (string (kind_word kind)) ≡ Some kind
unfolding kind_in
kind_again IntKind = refl
kind_again TextKind = refl

column_again : (c : Column) → is_named c ≡ true → column_in (column_value c) ≡ Some c
unfolding column_in two_items_in name_in
column_again c h = rw (h, kind_again c.kind) refl

pub columns_at : (k : Option ℕ) (d : Data) (columns : List Column) → get (codes "columns") d ≡ Some (list_value (map column_value columns)) → 0 < length columns → IsShort is_named columns → columns_of k d ≡ Ok columns
unfolding columns_of
columns_at k d columns e some h = rw (list_at k (codes "columns") d (map column_value columns) e, some_again column_value columns some, each_again column_in column_value is_named column_again columns h.each, short_again k column_value columns h.most) refl

pub keys_at : (k : Option ℕ) (d : Data) (keys : List ℕ) → get (codes "keys") d ≡ Some (list_value (map number_value keys)) → IsShort is_u32 keys → keys_of k d ≡ Ok keys
unfolding keys_of
keys_at k d keys e h = rw (list_at k (codes "keys") d (map number_value keys) e, all_again is_number number_value (λ y. refl) keys, short_again k number_value keys h.most, each_again u32_in number_value is_u32 number_again keys h.each) refl

pub inputs_at : (k : Option ℕ) (d : Data) (inputs : List ℕ) → get (codes "inputs") d ≡ Some (list_value (map number_value inputs)) → 2 ≤ length inputs → length inputs ≤ 64 → list_all is_u32 inputs ≡ true → inputs_of k d ≡ Ok inputs
unfolding inputs_of
inputs_at k d inputs e low high h =
    let least : 2 ≤ length (map number_value inputs) = omega (arith, as_many number_value inputs) in
    let most : length (map number_value inputs) ≤ 64 = omega (arith, as_many number_value inputs) in
    rw (list_at k (codes "inputs") d (map number_value inputs) e, le_test 2 (length (map number_value inputs)) least, all_again is_number number_value (λ y. refl) inputs, le_test (length (map number_value inputs)) 64 most, each_again u32_in number_value is_u32 number_again inputs h) refl

pair_again : (p : ℕ × ℕ) → is_u32_pair p ≡ true → pair_in (pair_value p) ≡ Some p
unfolding pair_in two_items_in
pair_again p h = let parts = both_parts (is_u32 p.0) (is_u32 p.1) h in rw (parts.0, parts.1) refl

pair_form : (p : ℕ × ℕ) → is_pair (pair_value p) ≡ true
unfolding is_pair two_items_in
pair_form p = refl

pub pairs_at : (k : Option ℕ) (d : Data) (keys : List (ℕ × ℕ)) → get (codes "keys") d ≡ Some (list_value (map pair_value keys)) → IsShort is_u32_pair keys → pairs_of k d ≡ Ok keys
unfolding pairs_of
pairs_at k d keys e h = rw (list_at k (codes "keys") d (map pair_value keys) e, all_again is_pair pair_value pair_form keys, short_again k pair_value keys h.most, each_again pair_in pair_value is_u32_pair pair_again keys h.each) refl

agg_again : (agg : Agg) → is_u32_agg agg ≡ true → agg_in (agg_value agg) ≡ Some agg
unfolding agg_in one_item_in two_items_in column_agg_in
agg_again Count h = refl
agg_again (Sum n) h = rw h refl
agg_again (Min n) h = rw h refl
agg_again (Max n) h = rw h refl

agg_form : (agg : Agg) → is_agg (agg_value agg) ≡ true
unfolding is_agg one_item_in two_items_in
agg_form Count = refl
agg_form (Sum n) = refl
agg_form (Min n) = refl
agg_form (Max n) = refl

pub aggs_at : (k : Option ℕ) (d : Data) (aggs : List Agg) → get (codes "aggs") d ≡ Some (list_value (map agg_value aggs)) → IsShort is_u32_agg aggs → aggs_of k d ≡ Ok aggs
unfolding aggs_of
aggs_at k d aggs e h = rw (list_at k (codes "aggs") d (map agg_value aggs) e, all_again is_agg agg_value agg_form aggs, short_again k agg_value aggs h.most, each_again agg_in agg_value is_u32_agg agg_again aggs h.each) refl

-- ---- expressions and tests

low_test : (n : ℕ) → nat_le n 32 ≡ true → nat_lt 32 (min n (2 ^ 64 - 1)) ≡ false
low_test n h = grind (arith, nat_tests)

test_low : (t : Pred) → is_shallow_test t ≡ true → nat_lt 32 (capped_depth (test_value t)) ≡ false
test_low t h = low_test (list_depth (test_value t)) (ap (λ n. nat_le n 32) (lists-test t) ∙ (both_parts (test_in_range t) (nat_le (test_depth t) 32) h).1)

expr_low : (e : Expr) → is_shallow_expr e ≡ true → nat_lt 32 (capped_depth (expr_value e)) ≡ false
expr_low e h = low_test (list_depth (expr_value e)) (ap (λ n. nat_le n 32) (lists-expr e) ∙ (both_parts (in_range e) (nat_le (expr_depth e) 32) h).1)

pub where_at : (k : Option ℕ) (d : Data) (t : Pred) → get (codes "where") d ≡ Some (test_value t) → is_shallow_test t ≡ true → where_of k d ≡ Ok t
unfolding where_of
where_at k d t e h =
    let fits = (both_parts (test_in_range t) (nat_le (test_depth t) 32) h).0 in
    rw (e, test_low t h, good-test t fits, test_gives t fits) refl

none_deep : (es : List Expr) → list_all is_shallow_expr es ≡ true → too_deep_among (map expr_value es) ≡ None
none_deep [] h = refl
none_deep (x ∷ es) h =
    let parts = both_parts (is_shallow_expr x) (list_all is_shallow_expr es) h in
    rw (expr_low x parts.0) (none_deep es parts.1)

none_bad : (es : List Expr) → list_all is_shallow_expr es ≡ true → list_any bad_number_in (map expr_value es) ≡ false
none_bad [] h = refl
none_bad (x ∷ es) h =
    let parts = both_parts (is_shallow_expr x) (list_all is_shallow_expr es) h in
    rw (good-expr x (both_parts (in_range x) (nat_le (expr_depth x) 32) parts.0).0) (none_bad es parts.1)

expr_again : (e : Expr) → is_shallow_expr e ≡ true → expr_of (expr_value e) ≡ Some e
expr_again e h = expr_gives e (both_parts (in_range e) (nat_le (expr_depth e) 32) h).0

pub exprs_at : (k : Option ℕ) (d : Data) (es : List Expr) → get (codes "exprs") d ≡ Some (list_value (map expr_value es)) → 0 < length es → IsShort is_shallow_expr es → exprs_of k d ≡ Ok es
unfolding exprs_of
exprs_at k d es e some h =
    rw (list_at k (codes "exprs") d (map expr_value es) e, some_again expr_value es some, short_again k expr_value es h.most, none_deep es h.each, none_bad es h.each, each_again expr_of expr_value is_shallow_expr expr_again es h.each) refl

-- ---- words

pub separator_at : (k : Option ℕ) (d : Data) (b : ℕ) → get (codes "separator") d ≡ Some (string (b ∷ [])) → b < 128 → separator_of k d ≡ Ok b
unfolding separator_of
separator_at k d b e h = rw (e, lt_test b 128 h) refl

kind_named : (k : JoinKind) → join_kind_named (join_kind_word k) ≡ Some k
unfolding join_kind_named
kind_named kind.Inner = refl
kind_named kind.Left = refl
kind_named kind.Right = refl
kind_named kind.Full = refl
kind_named kind.Semi = refl
kind_named kind.Anti = refl

pub join_kind_at : (k : Option ℕ) (d : Data) (kind : JoinKind) → get (codes "kind") d ≡ Some (string (join_kind_word kind)) → join_kind_of k d ≡ Ok kind
unfolding join_kind_of
join_kind_at k d kind e = rw (e, kind_named kind) refl

pub ship_at : (k : Option ℕ) (d : Data) → get (codes "ship") d ≡ Some (string (codes "rebalance")) → ship_of k d ≡ Ok true
unfolding ship_of
ship_at k d e = rw e refl

pub no_ship_at : (k : Option ℕ) (d : Data) → get (codes "ship") d ≡ None → ship_of k d ≡ Ok false
unfolding ship_of
no_ship_at k d e = rw e refl
