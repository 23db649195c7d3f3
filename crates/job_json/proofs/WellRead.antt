-- What is read is well-formed.
use Rattle.std.proofs.Common.{◌≡◌, ℕ, ◌<◌, ◌≤◌, ◌^◌, ◌-◌, min, nat_lt, nat_le, Bool, true, false, ◌&&◌, not, cond, IsTrue, List, [], ◌∷◌, length, codes, Option, Some, option_and_then, Ok, refl, sym, ap, ◌∙◌, subst, arith}
use Rattle.std.proofs.lemmas.Bool.Decides.{nat_tests}
use Rattle.std.proofs.lemmas.Option.{same_Some}
use Rattle.std.specs.List.{list_all, list_any}
use Rattle.std.specs.Prelude.{◌==◌, slice_index}
use Rattle.serde_json.specs.Data.{Data}
use Rattle.serde_json.specs.Find.{as_str, as_number, as_u64}
use Rattle.row_core.specs.declared.expr.Expr.{Expr}
use Rattle.row_core.specs.declared.pred.Pred.{Pred}
use Rattle.plan_model.specs.declared.agg.Agg.{Agg}
use Rattle.plan_model.specs.declared.agg.Agg.TheVariants.{Count}
use Rattle.plan_model.specs.declared.column.Column.{Column}
use Rattle.plan_model.specs.declared.kind.Kind.{Kind}
use Rattle.expr_json.specs.BadNumbers.{bad_number_in}
use Rattle.expr_json.specs.Depths.{list_depth, expr_depth, test_depth}
use Rattle.expr_json.specs.Ranges.{in_range, test_in_range}
use Rattle.expr_json.specs.Reading.{expr_of, test_of}
use Rattle.expr_json.proofs.Laws.{expr_takes, test_takes, lists-expr, lists-test}
use Rattle.job_json.specs.Faults.{or_fault, check}
use Rattle.job_json.specs.Members.{is_name, is_number, u32_in, name_in, two_items_in, each, member_of, name_of, number_of, list_of}
use Rattle.job_json.specs.Parts.{not_too_long, kind_in, column_in, columns_of, keys_of, inputs_of, pair_in, is_pair, pairs_of, is_count, agg_in, column_agg_in, is_agg, aggs_of, capped_depth, too_deep_among, not_deep, where_of, exprs_of, ascii_in, separator_of}
use Rattle.job_json.specs.WellFormed.{is_u32, is_u32_pair, is_u32_agg, is_named, is_shallow_expr, is_shallow_test, IsShort}
use Rattle.job_json.proofs.Tools.{read_then, same_Ok, checked, there, found_then, mapped_then, chosen, both_true, both_parts, each_passes, each_all}

-- ---- names and numbers

name_passes : (d : Data) (name : List ℕ) → name_in d ≡ Some name → is_name name ≡ true
unfolding name_in
name_passes d name e = found_then (as_str d) _ name e (λ text _ e1.
    let p = chosen (is_name text) text name e1 in
    ap is_name (sym p.1) ∙ p.0)

pub name_read : (k : Option ℕ) (at : List ℕ) (d : Data) (name : List ℕ) → name_of k at d ≡ Ok name → is_name name ≡ true
unfolding name_of
name_read k at d name e = read_then (member_of k at d) _ name e (λ v _ e1. name_passes v name (there _ (name_in v) name e1))

u32_passes : (d : Data) (n : ℕ) → u32_in d ≡ Some n → is_u32 n ≡ true
u32_passes d n e = found_then (option_and_then as_u64 (as_number d)) _ n e (λ k _ e1.
    let p = chosen (nat_lt k (2 ^ 32)) k n e1 in
    ap is_u32 (sym p.1) ∙ p.0)

pub number_read : (k : Option ℕ) (at : List ℕ) (d : Data) (n : ℕ) → number_of k at d ≡ Ok n → is_u32 n ≡ true
unfolding number_of
number_read k at d n e =
    read_then (member_of k at d) _ n e (λ v _ e1.
    read_then (check (is_number v) _) _ n e1 (λ u _ e2. u32_passes v n (there _ (u32_in v) n e2)))

-- ---- lists

short : (k : Option ℕ) (items : List Data) (u : Unit {0}) → not_too_long k items ≡ Ok u → length items ≤ 256
short k items u e = let t : nat_le (length items) 256 ≡ true = checked (nat_le (length items) 256) _ u e in grind (arith, nat_tests)

column_passes : (d : Data) (c : Column) → column_in d ≡ Some c → is_named c ≡ true
unfolding column_in
column_passes d c e =
    found_then (two_items_in d) _ c e (λ p _ e1.
    found_then (name_in p.0) _ c e1 (λ name name_is e2.
    mapped_then (λ (kind : Kind). record { name = name; kind = kind }) (kind_in p.1) c e2 (λ kind _ e3.
    subst (λ (c : Column). is_named c ≡ true) e3 (name_passes p.0 name name_is))))

some_items : (items : List Data) → nat_lt 0 (length items) ≡ true → 0 < length items
some_items items e = grind (arith, nat_tests)

pub columns_read : (k : Option ℕ) (d : Data) (columns : List Column) → columns_of k d ≡ Ok columns → (0 < length columns) × IsShort is_named columns
unfolding columns_of
columns_read k d columns e =
    read_then (list_of k (codes "columns") d) _ columns e (λ items _ e1.
    read_then (check (nat_lt 0 (length items)) _) _ columns e1 (λ u some e2.
    read_then (or_fault _ (each column_in items)) _ columns e2 (λ read read_is e3.
    read_then (not_too_long k items) _ columns e3 (λ w few e4.
    let all = each_all column_in is_named column_passes items read (there _ (each column_in items) read read_is) in
    let most : length items ≤ 256 = short k items w few in
    let least : 0 < length items = some_items items (checked (nat_lt 0 (length items)) _ u some) in
    let first : 0 < length read = omega (arith, all.1) in
    let long : length read ≤ 256 = omega (arith, all.1) in
    subst (λ (cs : List Column). (0 < length cs) × IsShort is_named cs) (same_Ok read columns e4)
    (first, record { most = long; each = all.0 })))))

pub keys_read : (k : Option ℕ) (d : Data) (keys : List ℕ) → keys_of k d ≡ Ok keys → IsShort is_u32 keys
unfolding keys_of
keys_read k d keys e =
    read_then (list_of k (codes "keys") d) _ keys e (λ items _ e1.
    read_then (check (list_all is_number items) _) _ keys e1 (λ u _ e2.
    read_then (not_too_long k items) _ keys e2 (λ w few e3.
    let all = each_all u32_in is_u32 u32_passes items keys (there _ (each u32_in items) keys e3) in
    let most : length items ≤ 256 = short k items w few in
    let long : length keys ≤ 256 = omega (arith, all.1) in
    record { most = long; each = all.0 })))

from_two : (n : ℕ) → nat_le 2 n ≡ true → 2 ≤ n
from_two n e = grind (arith, nat_tests)

up_to_64 : (n : ℕ) → nat_le n 64 ≡ true → n ≤ 64
up_to_64 n e = grind (arith, nat_tests)

pub inputs_read : (k : Option ℕ) (d : Data) (inputs : List ℕ) → inputs_of k d ≡ Ok inputs → (2 ≤ length inputs) × (length inputs ≤ 64) × IsTrue (list_all is_u32 inputs)
unfolding inputs_of
inputs_read k d inputs e =
    read_then (list_of k (codes "inputs") d) _ inputs e (λ items _ e1.
    read_then (check (nat_le 2 (length items) && list_all is_number items) _) _ inputs e1 (λ u least e2.
    read_then (check (nat_le (length items) 64) _) _ inputs e2 (λ w few e3.
    let all = each_all u32_in is_u32 u32_passes items inputs (there _ (each u32_in items) inputs e3) in
    let low : 2 ≤ length items = from_two (length items) (both_parts (nat_le 2 (length items)) (list_all is_number items) (checked _ _ u least)).0 in
    let high : length items ≤ 64 = up_to_64 (length items) (checked (nat_le (length items) 64) _ w few) in
    let a : 2 ≤ length inputs = omega (arith, all.1) in
    let b : length inputs ≤ 64 = omega (arith, all.1) in
    (a, b, all.0))))

pair_passes : (d : Data) (p : ℕ × ℕ) → pair_in d ≡ Some p → is_u32_pair p ≡ true
unfolding pair_in
pair_passes d p e =
    found_then (two_items_in d) _ p e (λ q _ e1.
    found_then (u32_in q.0) _ p e1 (λ left left_is e2.
    mapped_then (λ (right : ℕ). (left, right)) (u32_in q.1) p e2 (λ right right_is e3.
    subst (λ (p : ℕ × ℕ). is_u32_pair p ≡ true) e3 (both_true (is_u32 left) (is_u32 right) (u32_passes q.0 left left_is) (u32_passes q.1 right right_is)))))

pub pairs_read : (k : Option ℕ) (d : Data) (keys : List (ℕ × ℕ)) → pairs_of k d ≡ Ok keys → IsShort is_u32_pair keys
unfolding pairs_of
pairs_read k d keys e =
    read_then (list_of k (codes "keys") d) _ keys e (λ items _ e1.
    read_then (check (list_all is_pair items) _) _ keys e1 (λ u _ e2.
    read_then (not_too_long k items) _ keys e2 (λ w few e3.
    let all = each_all pair_in is_u32_pair pair_passes items keys (there _ (each pair_in items) keys e3) in
    let most : length items ≤ 256 = short k items w few in
    let long : length keys ≤ 256 = omega (arith, all.1) in
    record { most = long; each = all.0 })))

column_agg_passes : (word : Data) (column : ℕ) → is_u32 column ≡ true → is_u32_agg (column_agg_in word column) ≡ true
unfolding column_agg_in
column_agg_passes word column fits = grind (arith, nat_tests)

agg_passes : (d : Data) (agg : Agg) → agg_in d ≡ Some agg → is_u32_agg agg ≡ true
unfolding agg_in
agg_passes d agg e = at (is_count d) _ agg (λ e1.
    found_then (two_items_in d) _ agg e1 (λ p _ e2.
    mapped_then (column_agg_in p.0) (u32_in p.1) agg e2 (λ column column_is e3.
    subst (λ (g : Agg). is_u32_agg g ≡ true) e3 (column_agg_passes p.0 column (u32_passes p.1 column column_is))))) e
  where
    at : (b : Bool) (other : Option Agg) (agg : Agg) → (other ≡ Some agg → is_u32_agg agg ≡ true) → cond b (Some Count) other ≡ Some agg → is_u32_agg agg ≡ true
    at true other agg k e = subst (λ (g : Agg). is_u32_agg g ≡ true) (same_Some Count agg e) refl
    at false other agg k e = k e

pub aggs_read : (k : Option ℕ) (d : Data) (aggs : List Agg) → aggs_of k d ≡ Ok aggs → IsShort is_u32_agg aggs
unfolding aggs_of
aggs_read k d aggs e =
    read_then (list_of k (codes "aggs") d) _ aggs e (λ items _ e1.
    read_then (check (list_all is_agg items) _) _ aggs e1 (λ u _ e2.
    read_then (not_too_long k items) _ aggs e2 (λ w few e3.
    let all = each_all agg_in is_u32_agg agg_passes items aggs (there _ (each agg_in items) aggs e3) in
    let most : length items ≤ 256 = short k items w few in
    let long : length aggs ≤ 256 = omega (arith, all.1) in
    record { most = long; each = all.0 })))

-- ---- expressions and tests

abbrev is_shallow : Data → Bool
is_shallow d = nat_le (list_depth d) 32

told_low : (n : ℕ) → nat_lt 32 (min n (2 ^ 64 - 1)) ≡ false → nat_le n 32 ≡ true
told_low n e = grind (arith, nat_tests)

not_deep_one : (k : Option ℕ) (b : Bool) (n : ℕ) (rest : Option ℕ) (u : Unit {0}) → not_deep k (cond b (Some n) rest) ≡ Ok u → (b ≡ false) × (not_deep k rest ≡ Ok u)
not_deep_one k true n rest u e = absurd (cc e)
not_deep_one k false n rest u e = (refl, e)

all_shallow : (k : Option ℕ) (items : List Data) (u : Unit {0}) → not_deep k (too_deep_among items) ≡ Ok u → list_all is_shallow items ≡ true
all_shallow k [] u e = refl
all_shallow k (d ∷ ds) u e =
    let p = not_deep_one k (nat_lt 32 (capped_depth d)) (capped_depth d) (too_deep_among ds) u e in
    both_true (is_shallow d) (list_all is_shallow ds) (told_low (list_depth d) p.0) (all_shallow k ds u p.1)

expr_passes : (d : Data) (x : Expr) → is_shallow d ≡ true → expr_of d ≡ Some x → is_shallow_expr x ≡ true
expr_passes d x low e =
    let t = expr_takes d x e in
    let same : list_depth d ≡ expr_depth x = ap list_depth (sym t.0) ∙ lists-expr x in
    both_true (in_range x) (nat_le (expr_depth x) 32) t.1 (ap (λ n. nat_le n 32) (sym same) ∙ low)

test_passes : (d : Data) (x : Pred) → is_shallow d ≡ true → test_of d ≡ Some x → is_shallow_test x ≡ true
test_passes d x low e =
    let t = test_takes d x e in
    let same : list_depth d ≡ test_depth x = ap list_depth (sym t.0) ∙ lists-test x in
    both_true (test_in_range x) (nat_le (test_depth x) 32) t.1 (ap (λ n. nat_le n 32) (sym same) ∙ low)

pub where_read : (k : Option ℕ) (d : Data) (test : Pred) → where_of k d ≡ Ok test → is_shallow_test test ≡ true
unfolding where_of
where_read k d test e =
    read_then (member_of k (codes "where") d) _ test e (λ v _ e1.
    read_then (not_deep k (too_deep_among (v ∷ []))) _ test e1 (λ u low e2.
    read_then (check (not (bad_number_in v)) _) _ test e2 (λ w _ e3.
    test_passes v test (both_parts (is_shallow v) true (all_shallow k (v ∷ []) u low)).0 (there _ (test_of v) test e3))))

pub exprs_read : (k : Option ℕ) (d : Data) (exprs : List Expr) → exprs_of k d ≡ Ok exprs → (0 < length exprs) × IsShort is_shallow_expr exprs
unfolding exprs_of
exprs_read k d exprs e =
    read_then (list_of k (codes "exprs") d) _ exprs e (λ items _ e1.
    read_then (check (nat_lt 0 (length items)) _) _ exprs e1 (λ u some e2.
    read_then (not_too_long k items) _ exprs e2 (λ w few e3.
    read_then (not_deep k (too_deep_among items)) _ exprs e3 (λ v low e4.
    read_then (check (not (list_any bad_number_in items)) _) _ exprs e4 (λ x _ e5.
    let all = each_passes is_shallow expr_of is_shallow_expr expr_passes items exprs (all_shallow k items v low) (there _ (each expr_of items) exprs e5) in
    let most : length items ≤ 256 = short k items w few in
    let least : 0 < length items = some_items items (checked (nat_lt 0 (length items)) _ u some) in
    let first : 0 < length exprs = omega (arith, all.1) in
    let long : length exprs ≤ 256 = omega (arith, all.1) in
    (first, record { most = long; each = all.0 }))))))

ascii_passes : (text : List ℕ) (b : ℕ) → ascii_in text ≡ Some b → b < 128
ascii_passes text b e =
    let p = chosen ((length text == 1) && nat_lt (slice_index text 0) 128) (slice_index text 0) b e in
    let low : nat_lt (slice_index text 0) 128 ≡ true = (both_parts (length text == 1) (nat_lt (slice_index text 0) 128) p.0).1 in
    let below : slice_index text 0 < 128 = grind (arith, nat_tests) in
    omega (arith, p.1)

pub separator_read : (k : Option ℕ) (d : Data) (b : ℕ) → separator_of k d ≡ Ok b → b < 128
unfolding separator_of
separator_read k d b e =
    read_then (member_of k (codes "separator") d) _ b e (λ v _ e1.
    found_then (as_str v) ascii_in b (there _ (option_and_then ascii_in (as_str v)) b e1) (λ text _ e2. ascii_passes text b e2))
