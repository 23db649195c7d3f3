-- The generated job is one that a text spells, and its printed text is short.
use Rattle.std.proofs.Common.{◌≡◌, ℕ, suc, ◌+◌, ◌*◌, ◌<◌, ◌≤◌, ◌^◌, List, [], ◌∷◌, ◌++◌, length, Bool, true, false, ◌&&◌, cond, nat_le, max, true≢false, refl, sym, ap, ◌∙◌, arith, length-append}
use Rattle.std.specs.Prelude.{codes, pos}
use Rattle.std.proofs.Common.{map}
use Rattle.std.specs.List.{list_all, flat_map}
use Rattle.std.specs.Fmt.{decimal, digits}
use Rattle.std.specs.Char.{digit_value}
use Rattle.std.specs.Str.Parse.{AllDigits}
use Rattle.std.proofs.lemmas.Fmt.{length-decimal-le, decimal_is_IsNumeral}
use Rattle.std.proofs.lemmas.Bool.Decides.{nat_tests}
use Rattle.std.proofs.lemmas.List.Elements.{All-nil, All-cons}
use Rattle.json.specs.Print.{escape_byte, quoted}
use Rattle.serde_json.specs.Written.{members_text}
use Rattle.serde_json.specs.Data.{Data, string, object}
use Rattle.row_core.specs.declared.cmp.Cmp.TheVariants.{Ge}
use Rattle.row_core.specs.declared.expr.Expr.{Col, Const}
use Rattle.row_core.specs.declared.expr.Expr.TheOpen.{Expr-F}
use Rattle.row_core.specs.declared.expr.Expr.TheFolds.{fold-Expr, fold-roll-Expr}
use Rattle.row_core.specs.declared.expr.Expr.TheVariants.{rolls-Col, rolls-Const}
use Rattle.row_core.specs.declared.pred.Pred.{Pred, Test}
use Rattle.row_core.specs.declared.pred.Pred.TheOpen.{Pred-F}
use Rattle.row_core.specs.declared.pred.Pred.TheFolds.{fold-Pred, fold-roll-Pred}
use Rattle.row_core.specs.declared.pred.Pred.TheVariants.{rolls-Test}
use Rattle.row_core.specs.declared.value.Value.TheVariants.{Int}
use Rattle.row_core.specs.Exprs.{pred_within, columns_step, pred_columns_step}
use Rattle.expr_json.specs.Depths.{test_depth, depth_step, test_depth_step}
use Rattle.expr_json.specs.Ranges.{test_in_range, range_step, test_range_step, test_has_utf8_texts, utf8_step, test_utf8_step}
use Rattle.expr_json.specs.Spelling.{form as listed, expr_step, test_value, test_step}
use Rattle.plan_model.specs.Checks.{plan_faults}
use Rattle.plan_model.specs.Settings.{AreInRange}
use Rattle.plan_model.specs.declared.setting.Setting.TheVariants.{Attempts, BlockMs, BroadcastBytes, FlushEvery, MaxParallelism, MinParallelism, RestartLimit, SkewBytes, SkewPercent, SlotsPerWorker, SlowLowerMs, SlowPercent, SlowRatio, TargetBytes}
use Rattle.job_json.specs.Members.{is_name, is_name_byte}
use Rattle.job_json.specs.Spelling.{job_value, members_from, list_value, number_value, node_value, settings_value}
use Rattle.job_json.specs.Texts.{printed_text, IsWellFormed}
use Rattle.job_json.specs.WellFormed.{IsJobForm, IsNodeForm, is_shallow_test}
use Rattle.job_generator.specs.GeneratedJob.{generated_job, generated_name, generated_nodes, generated_settings, orders, large_orders, cities, with_cities, by_city, totals}

-- ---- the name

digit_is_name_byte : (b : ℕ) → digit_value b < 10 → is_name_byte b ≡ true
digit_is_name_byte b h = grind (arith, nat_tests)

digits_are_name_bytes : (ds : List ℕ) → AllDigits 10 ds → list_all is_name_byte ds ≡ true
digits_are_name_bytes [] h = refl
digits_are_name_bytes (d ∷ ds) h = ap (λ b. b && list_all is_name_byte ds) (digit_is_name_byte d h.0) ∙ digits_are_name_bytes ds h.1

short : (n : ℕ) → n ≤ 100000 → length (decimal n) ≤ 6
short n h = length-decimal-le 6 n (omega arith) (omega arith) (omega arith)

named : (n : ℕ) → n ≤ 100000 → is_name (generated_name n) ≡ true
named n h =
    let digits : n < 2 ^ 64 = omega arith in
    let bytes : list_all is_name_byte (generated_name n) ≡ true = digits_are_name_bytes (decimal n) (decimal_is_IsNumeral n digits).0.1 in
    let fits : length (generated_name n) ≤ 16 = omega (arith, short n h) in
    let some : 1 ≤ length (generated_name n) = omega arith in
    grind (arith, nat_tests)

-- ---- the test of node 1: its amount is 20 or more

abbrev large : Pred
large = Test Ge (Col 2) (Const (Int (pos 20)))

column : (A : Type 0) (step : Expr-F A → A) → fold-Expr A step (Col 2) ≡ step (Expr-F.Col 2)
column A step = ap (fold-Expr A step) (sym (rolls-Col 2)) ∙ fold-roll-Expr A step (Expr-F.Col 2)

amount : (A : Type 0) (step : Expr-F A → A) → fold-Expr A step (Const (Int (pos 20))) ≡ step (Expr-F.Const (Int (pos 20)))
amount A step = ap (fold-Expr A step) (sym (rolls-Const (Int (pos 20)))) ∙ fold-roll-Expr A step (Expr-F.Const (Int (pos 20)))

compares : (A : Type 0) (step : Pred-F A → A) → fold-Pred A step large ≡ step (Pred-F.Test Ge (Col 2) (Const (Int (pos 20))))
compares A step = ap (fold-Pred A step) (sym (rolls-Test Ge (Col 2) (Const (Int (pos 20))))) ∙ fold-roll-Pred A step (Pred-F.Test Ge (Col 2) (Const (Int (pos 20))))

in_range : test_in_range large ≡ true
in_range = compares Bool test_range_step ∙ ap (λ (x : Bool × Bool). x.0 && x.1) (λ i. (column Bool range_step i, amount Bool range_step i))

depth : test_depth large ≡ 2
depth = compares ℕ test_depth_step ∙ ap (λ (x : ℕ × ℕ). suc (max x.0 x.1)) (λ i. (column ℕ depth_step i, amount ℕ depth_step i))

texts : test_has_utf8_texts large ≡ true
texts = compares Bool test_utf8_step ∙ ap (λ (x : Bool × Bool). x.0 && x.1) (λ i. (column Bool utf8_step i, amount Bool utf8_step i))

fits_three : pred_within 3 large ≡ true
fits_three = compares Bool (pred_columns_step 3) ∙ ap (λ (x : Bool × Bool). x.0 && x.1) (λ i. (column Bool (columns_step 3) i, amount Bool (columns_step 3) i))

abbrev large_value : Data
large_value = listed (codes "ge") (expr_step (Expr-F.Col 2) ∷ expr_step (Expr-F.Const (Int (pos 20))) ∷ [])

value : test_value large ≡ large_value
value = compares Data test_step ∙ ap (λ (x : Data × Data). listed (codes "ge") (x.0 ∷ x.1 ∷ [])) (λ i. (column Data expr_step i, amount Data expr_step i))

shallow : is_shallow_test large ≡ true
shallow = ap (λ (x : Bool × ℕ). x.0 && nat_le x.1 32) (λ i. (in_range i, depth i))

-- no node of the plan is at fault
pub faultless : plan_faults generated_nodes ≡ []
faultless = rw fits_three refl

-- ---- the form

settings_fit : AreInRange generated_settings
settings_fit Attempts = (omega arith, omega arith)
settings_fit BlockMs = (omega arith, omega arith)
settings_fit BroadcastBytes = (omega arith, omega arith)
settings_fit FlushEvery = (omega arith, omega arith)
settings_fit MaxParallelism = (omega arith, omega arith)
settings_fit MinParallelism = (omega arith, omega arith)
settings_fit RestartLimit = (omega arith, omega arith)
settings_fit SkewBytes = (omega arith, omega arith)
settings_fit SkewPercent = (omega arith, omega arith)
settings_fit SlotsPerWorker = (omega arith, omega arith)
settings_fit SlowLowerMs = (omega arith, omega arith)
settings_fit SlowPercent = (omega arith, omega arith)
settings_fit SlowRatio = (omega arith, omega arith)
settings_fit TargetBytes = (omega arith, omega arith)

pub form : (n : ℕ) → n ≤ 100000 → IsJobForm (generated_job n)
form n h = record {
  name = named n h;
  most = omega arith;
  nodes = All-cons IsNodeForm orders (large_orders ∷ cities ∷ with_cities ∷ by_city ∷ totals ∷ []) (record { op = (refl, omega arith, record { most = omega arith; each = refl }, refl); texts = refl; ship = λ e. absurd (true≢false (sym e)) })
      (All-cons IsNodeForm large_orders (cities ∷ with_cities ∷ by_city ∷ totals ∷ []) (record { op = (shallow, refl); texts = texts; ship = λ e. absurd (true≢false (sym e)) })
      (All-cons IsNodeForm cities (with_cities ∷ by_city ∷ totals ∷ []) (record { op = (refl, omega arith, record { most = omega arith; each = refl }, refl); texts = refl; ship = λ e. absurd (true≢false (sym e)) })
      (All-cons IsNodeForm with_cities (by_city ∷ totals ∷ []) (record { op = (record { most = omega arith; each = refl }, (refl, refl)); texts = refl; ship = λ e. absurd (true≢false (sym e)) })
      (All-cons IsNodeForm by_city (totals ∷ []) (record { op = (record { most = omega arith; each = refl }, record { most = omega arith; each = refl }, refl); texts = refl; ship = λ e. absurd (true≢false (sym e)) })
      (All-cons IsNodeForm totals [] (record { op = (refl, refl); texts = refl; ship = λ e. absurd (true≢false (sym e)) })
      (All-nil IsNodeForm))))));
  settings = settings_fit;
}

-- ---- the text

one_of_three : (a b : Bool) (l d e x : ℕ) → length (cond a (92 ∷ l ∷ []) (cond b (92 ∷ 117 ∷ 48 ∷ 48 ∷ d ∷ e ∷ []) (x ∷ []))) ≤ 6
one_of_three true b l d e x = omega arith
one_of_three false true l d e x = omega arith
one_of_three false false l d e x = omega arith

byte_short : (b : ℕ) → length (escape_byte b) ≤ 6
unfolding escape_byte
byte_short b = one_of_three _ _ _ _ _ b

escape_short : (bs : List ℕ) → length (flat_map escape_byte bs) ≤ 6 * length bs
escape_short [] = omega arith
escape_short (b ∷ bs) = omega (arith, length-append (escape_byte b) (flat_map escape_byte bs), byte_short b, escape_short bs)

quoted_short : (bs : List ℕ) → length (quoted bs) ≤ 6 * length bs + 2
quoted_short bs = omega (arith, length-append (flat_map escape_byte bs) (34 ∷ []), escape_short bs)

-- what follows the name, with this value for the test
rest : Data → List ℕ
rest test =
    let filter = object (members_from ((codes "input", number_value 0) ∷ (codes "op", string (codes "filter")) ∷ (codes "where", test) ∷ [])) in
    let others = map node_value (cities ∷ with_cities ∷ by_city ∷ totals ∷ []) in
    members_text true (members_from ((codes "nodes", list_value (node_value orders ∷ filter ∷ others)) ∷ (codes "settings", settings_value generated_settings) ∷ []))

parts : (n : ℕ) → printed_text (generated_job n) ≡ 123 ∷ (quoted (codes "job") ++ 58 ∷ (quoted (generated_name n) ++ rest (test_value large)))
unfolding job_value rest
parts n = refl

large_fits : nat_le (length (rest large_value)) 2000 ≡ true
unfolding escape_byte rest digits
large_fits = refl

rest_fits : nat_le (length (rest (test_value large))) 2000 ≡ true
rest_fits = ap (λ v. nat_le (length (rest v)) 2000) value ∙ large_fits

text_fits : (n : ℕ) → n ≤ 100000 → length (printed_text (generated_job n)) ≤ 1048576
text_fits n h =
    let tail = rest (test_value large) in
    let small = rest_fits in
    let fits : length (rest (test_value large)) ≤ 2000 = grind (arith, nat_tests) in
    let name : length (generated_name n) ≤ 16 = omega (arith, short n h) in
    let all = ap length (parts n) in
    let outer = length-append (quoted (codes "job")) (58 ∷ (quoted (generated_name n) ++ tail)) in
    let inner = length-append (quoted (generated_name n)) tail in
    omega (arith, quoted_short (codes "job"), quoted_short (generated_name n))

pub well_formed : (n : ℕ) → n ≤ 100000 → IsWellFormed (generated_job n)
well_formed n h = record { form = form n h; printed = text_fits n h }
