-- Values within their limits give such values, through each operator.
use Rattle.std.proofs.Common.{◌≡◌, ℕ, zero, suc, ◌<◌, ◌≤◌, ◌^◌, Bool, true, false, List, [], ◌∷◌, ◌++◌, length, map, get_or, refl, sym, subst, arith, All, Option, Some, None, if◌then◌else◌}
use Rattle.std.proofs.lemmas.Bool.{leb-true, ltb-true}
use Rattle.std.proofs.lemmas.Fmt.{length_signed_le}
use Rattle.std.proofs.lemmas.Int.{ints}
use Rattle.std.proofs.lemmas.List.Elements.{All-nil, All-cons, All-head, All-tail, All-append, All-filter, All-map, All-push}
use Rattle.std.specs.Fmt.{signed_decimal}
use Rattle.std.specs.Int.Signed.{mag}
use Rattle.std.specs.List.{flat_map, filter, AllByRecursion}
use Rattle.std.specs.Ordering.{is_lt}
use Rattle.std.specs.Str.{all_ascii_digits}
use Rattle.std.specs.Str.Parse.{digits_value}
use Rattle.std.specs.Prelude.{ℤ, pos, negsuc, neg_ℤ, ◌+ℤ◌, ◌-ℤ◌, ◌*ℤ◌, nat_lt, nat_le, not, slice_set, ◌==◌}
use Rattle.row_core.specs.Bags.{one_of_each}
use Rattle.row_core.specs.Encoding.{TextFits, ValueFits}
use Rattle.row_core.specs.Exprs.{value_at, value_step, on_ints, truth_of, is_yes}
use Rattle.row_core.specs.Values.{value_cmp, same_row, int_value, text_value, text_of, concatenated}
use Rattle.row_core.specs.declared.expr.Expr.{Expr}
use Rattle.row_core.specs.declared.expr.Expr.TheOpen.{Expr-F}
use Rattle.row_core.specs.declared.expr.Expr.TheFolds.{fold-roll-Expr, ind-Expr, map-Expr}
use Rattle.row_core.specs.declared.expr.Expr.TheViews.{roll-Expr}
use Rattle.row_core.specs.declared.expr.Expr.TheVariants.{rolls-Const}
use Rattle.row_core.specs.declared.value.Value.{Value}
use Rattle.row_core.specs.declared.value.Value.TheVariants.{Null, Int, Text}
use Rattle.bag_laws.specs.Rows.{OneRow as Row}
use Rattle.plan_model.specs.Joins.{matches, nulls, or_padded, if_matched, if_unmatched, joined}
use Rattle.plan_model.specs.Operators.{with_byte, pieces, with_pieces, column_of, numbers_of, whole_sum, sum_value, lesser_value, least, greatest, agg_value, rows_with, key_of}
use Rattle.plan_model.specs.Plans.{Bag, bag_at, bag_of, bags_from, bags_of}
use Rattle.plan_model.specs.Tables.{cell_value, digits_cell, int_cell, row_of, signed_value, table_rows}
use Rattle.plan_model.specs.declared.agg.Agg.{Agg}
use Rattle.plan_model.specs.declared.agg.Agg.TheVariants.{Count, Sum, Min, Max}
use Rattle.plan_model.specs.declared.join_kind.JoinKind.{JoinKind}
use Rattle.plan_model.specs.declared.join_kind.JoinKind.TheVariants as kind
use Rattle.plan_model.specs.declared.kind.Kind.{Kind}
use Rattle.plan_model.specs.declared.kind.Kind.TheVariants.{IntKind, TextKind}
use Rattle.plan_model.specs.declared.node.Node.{Node}
use Rattle.plan_model.specs.declared.op.Op.{Op}
use Rattle.plan_model.specs.declared.op.Op.TheVariants.{Source, Filter, Project, Explode, Union, Aggregate, Distinct, Join, Sink}
use Rattle.operator_laws.specs.Applied.{applied}
use Rattle.operator_laws.specs.Texts.{ValuesFit, TextsFit, ConstantFits, ConstantsFit}

abbrev RowFits : Row → Type 0
RowFits row = AllByRecursion ValueFits row

-- ---- values

int_fits : (n : ℤ) → ValueFits (int_value n)
int_fits (pos n) = by (nat_lt n (2 ^ 63)) refl
  where
    by : (b : Bool) → nat_lt n (2 ^ 63) ≡ b → ValueFits (if b then Int (pos n) else Null)
    by true small = let below : n < 2 ^ 63 = ltb-true n (2 ^ 63) small in omega (arith, ints, below)
    by false large = tt
int_fits (negsuc n) = by (nat_lt n (2 ^ 63)) refl
  where
    by : (b : Bool) → nat_lt n (2 ^ 63) ≡ b → ValueFits (if b then Int (negsuc n) else Null)
    by true small = let below : n < 2 ^ 63 = ltb-true n (2 ^ 63) small in omega (arith, ints, below)
    by false large = tt

text_fits : (text : List ℕ) → ValueFits (text_value text)
text_fits text = by (nat_le (length text) 16777216) refl
  where
    by : (b : Bool) → nat_le (length text) 16777216 ≡ b → ValueFits (if b then Text text else Null)
    by true short = leb-true (length text) 16777216 short
    by false long = tt

two_ints_fit : (f : ℤ → ℤ → ℤ) (a b : Value) → ValueFits (on_ints f a b)
two_ints_fit f Null b = tt
two_ints_fit f (Text t) b = tt
two_ints_fit f (Int m) Null = tt
two_ints_fit f (Int m) (Text t) = tt
two_ints_fit f (Int m) (Int n) = int_fits (f m n)

two_texts_fit : (s t : Option (List ℕ)) → ValueFits (concatenated s t)
two_texts_fit None t = tt
two_texts_fit (Some s) None = tt
two_texts_fit (Some s) (Some t) = text_fits (s ++ t)

value_fits : (row : Row) (column : ℕ) → RowFits row → ValueFits (get_or row column Null)
value_fits [] column fit = tt
value_fits (value ∷ row) zero fit = fit.0
value_fits (value ∷ row) (suc column) fit = value_fits row column fit.1

-- what an expression gives at a row
expr_fits : (row : Row) → RowFits row → (expr : Expr) → ConstantFits expr → ValueFits (value_at row expr)
expr_fits row fit = ind-Expr (λ expr. ConstantFits expr → ValueFits (value_at row expr)) (λ x y is.
    subst (λ (z : Expr-F Expr). ConstantFits (roll-Expr z) → ValueFits (value_at row (roll-Expr z))) is (level (map-Expr ((e : Expr) × (ConstantFits e → ValueFits (value_at row e))) Expr (λ e. e.0) y)))
  where
    step : (y : Expr-F Expr) → ConstantFits (roll-Expr y) → ValueFits (value_step row (map-Expr Expr Value (value_at row) y))
    step (Expr-F.Col k) constant = value_fits row k fit
    step (Expr-F.Const v) constant = constant v (rolls-Const v)
    step (Expr-F.Add a b) constant = two_ints_fit (λ m n. m +ℤ n) (value_at row a) (value_at row b)
    step (Expr-F.Sub a b) constant = two_ints_fit (λ m n. m -ℤ n) (value_at row a) (value_at row b)
    step (Expr-F.Mul a b) constant = two_ints_fit (λ m n. m *ℤ n) (value_at row a) (value_at row b)
    step (Expr-F.Concat a b) constant = two_texts_fit (text_of (value_at row a)) (text_of (value_at row b))

    level : (y : Expr-F Expr) → ConstantFits (roll-Expr y) → ValueFits (value_at row (roll-Expr y))
    level y constant = subst ValueFits (sym (fold-roll-Expr Value (value_step row) y)) (step y constant)

exprs_fit : (row : Row) → RowFits row → (exprs : List Expr) → All ConstantFits exprs → RowFits (map (value_at row) exprs)
exprs_fit row fit [] constants = tt
exprs_fit row fit (expr ∷ exprs) constants =
    (expr_fits row fit expr (All-head ConstantFits expr exprs constants), exprs_fit row fit exprs (All-tail ConstantFits expr exprs constants))

-- ---- pieces of a text

piece_long : (byte : ℕ) (n : ℕ) (parts : List (List ℕ)) → All (λ piece. length piece ≤ n) parts → All (λ piece. length piece ≤ suc n) (with_byte byte parts)
piece_long byte n [] all = All-cons (λ (piece : List ℕ). length piece ≤ suc n) (byte ∷ []) [] (omega arith) (All-nil (λ (piece : List ℕ). length piece ≤ suc n))
piece_long byte n (part ∷ parts) all =
    let here : length part ≤ n = All-head (λ (piece : List ℕ). length piece ≤ n) part parts all in
    All-cons (λ (piece : List ℕ). length piece ≤ suc n) (byte ∷ part) parts (omega (arith, here))
    (λ k d lt. let there : length (get_or parts k d) ≤ n = All-tail (λ (piece : List ℕ). length piece ≤ n) part parts all k d lt in omega (arith, there))

pieces_long : (separator : ℕ) (text : List ℕ) → All (λ piece. length piece ≤ length text) (pieces separator text)
pieces_long separator [] = All-cons (λ (piece : List ℕ). length piece ≤ 0) [] [] (omega arith) (All-nil (λ (piece : List ℕ). length piece ≤ 0))
pieces_long separator (byte ∷ text) = by (byte == separator) (pieces_long separator text)
  where
    by : (b : Bool) → All (λ piece. length piece ≤ length text) (pieces separator text)
        → All (λ piece. length piece ≤ suc (length text)) (if b then [] ∷ pieces separator text else with_byte byte (pieces separator text))
    by true rest = All-cons (λ (piece : List ℕ). length piece ≤ suc (length text)) [] (pieces separator text) (omega arith)
        (λ k d lt. let there : length (get_or (pieces separator text) k d) ≤ length text = rest k d lt in omega (arith, there))
    by false rest = piece_long byte (length text) (pieces separator text) rest

set_fits : (row : Row) (column : ℕ) (value : Value) → RowFits row → ValueFits value → RowFits (slice_set row column value)
set_fits [] column value fit fits = tt
set_fits (first ∷ row) zero value fit fits = (fits, fit.1)
set_fits (first ∷ row) (suc column) value fit fits = (fit.0, set_fits row column value fit.1 fits)

shown_short : (value : Value) (text : List ℕ) → ValueFits value → text_of value ≡ Some text → length text ≤ 16777216
shown_short Null text fit is = cc
shown_short (Int n) text fit is =
    let small : mag n < 2 ^ 63 = omega (arith, ints, fit) in
    let long : length (signed_decimal n) ≤ 20 = length_signed_le 19 n (omega (arith, small)) small in
    subst (λ (o : Option (List ℕ)). length (shown o) ≤ 16777216) is (omega (arith, long))
  where
    shown : Option (List ℕ) → List ℕ
    shown None = []
    shown (Some t) = t
shown_short (Text t) text fit is = subst (λ (o : Option (List ℕ)). length (shown o) ≤ 16777216) is fit
  where
    shown : Option (List ℕ) → List ℕ
    shown None = []
    shown (Some t) = t

exploded_fit : (column separator : ℕ) (row : Row) → RowFits row → (text : Option (List ℕ)) → text_of (get_or row column Null) ≡ text → ValuesFit (with_pieces column separator row text)
exploded_fit column separator row fit None is = All-nil RowFits
exploded_fit column separator row fit (Some text) is =
    All-map RowFits (λ piece. slice_set row column (Text piece)) (pieces separator text) (λ k d lt.
    let short : length text ≤ 16777216 = shown_short (get_or row column Null) text (value_fits row column fit) is in
    let piece : length (get_or (pieces separator text) k d) ≤ length text = pieces_long separator text k d lt in
    set_fits row column (Text (get_or (pieces separator text) k d)) fit (omega (arith, short, piece)))

-- ---- rows

All-flat_map : {X : Type 0} (f : X → List Row) (xs : List X) → All (λ x. ValuesFit (f x)) xs → ValuesFit (flat_map f xs)
All-flat_map f [] all = All-nil RowFits
All-flat_map f (x ∷ xs) all = All-append RowFits (f x) (flat_map f xs) (All-head (λ x. ValuesFit (f x)) x xs all) (All-flat_map f xs (All-tail (λ x. ValuesFit (f x)) x xs all))

each_fits : (rows : List Row) → ValuesFit rows → ValuesFit (one_of_each rows)
each_fits [] fit = All-nil RowFits
each_fits (row ∷ rows) fit =
    All-cons RowFits row (filter (λ other. not (same_row row other)) (one_of_each rows)) (All-head RowFits row rows fit)
    (All-filter (λ other. not (same_row row other)) RowFits (one_of_each rows) (each_fits rows (All-tail RowFits row rows fit)))

append_fits : (row other : Row) → RowFits row → RowFits other → RowFits (row ++ other)
append_fits [] other fit fits = fits
append_fits (value ∷ row) other fit fits = (fit.0, append_fits row other fit.1 fits)

nulls_fit : (width : ℕ) → RowFits (nulls width)
nulls_fit zero = tt
nulls_fit (suc width) = (tt, nulls_fit width)

key_fits : (columns : List ℕ) (row : Row) → RowFits row → RowFits (key_of columns row)
key_fits [] row fit = tt
key_fits (column ∷ columns) row fit = (value_fits row column fit, key_fits columns row fit)

-- ---- aggregates

column_fits : (column : ℕ) (rows : List Row) → ValuesFit rows → RowFits (column_of column rows)
column_fits column [] fit = tt
column_fits column (row ∷ rows) fit = (value_fits row column (All-head RowFits row rows fit), column_fits column rows (All-tail RowFits row rows fit))

choice_fits : (b : Bool) (x y : Value) → ValueFits x → ValueFits y → ValueFits (if b then x else y)
choice_fits true x y fit fits = fit
choice_fits false x y fit fits = fits

lesser_fits : (a b : Value) → ValueFits a → ValueFits b → ValueFits (lesser_value a b)
lesser_fits Null b fit fits = fits
lesser_fits (Int m) Null fit fits = fit
lesser_fits (Text s) Null fit fits = fit
lesser_fits (Int m) (Int n) fit fits = choice_fits (is_lt (value_cmp (Int n) (Int m))) (Int n) (Int m) fits fit
lesser_fits (Int m) (Text t) fit fits = fit
lesser_fits (Text s) (Int n) fit fits = fits
lesser_fits (Text s) (Text t) fit fits = choice_fits (is_lt (value_cmp (Text t) (Text s))) (Text t) (Text s) fits fit

least_fits : (values : List Value) → RowFits values → ValueFits (least values)
least_fits [] fit = tt
least_fits (value ∷ values) fit = lesser_fits value (least values) fit.0 (least_fits values fit.1)

greatest_fits : (values : List Value) → RowFits values → ValueFits (greatest values)
greatest_fits [] fit = tt
greatest_fits (value ∷ values) fit = choice_fits (is_lt (value_cmp value (greatest values))) (greatest values) value (greatest_fits values fit.1) fit.0

sum_fits : (numbers : List ℤ) → ValueFits (sum_value numbers)
sum_fits [] = tt
sum_fits (n ∷ numbers) = int_fits (n +ℤ whole_sum numbers)

agg_fits : (agg : Agg) (rows : List Row) → ValuesFit rows → ValueFits (agg_value rows agg)
agg_fits Count rows fit = int_fits (pos (length rows))
agg_fits (Sum column) rows fit = sum_fits (numbers_of (column_of column rows))
agg_fits (Min column) rows fit = least_fits (column_of column rows) (column_fits column rows fit)
agg_fits (Max column) rows fit = greatest_fits (column_of column rows) (column_fits column rows fit)

aggs_fit : (aggs : List Agg) (rows : List Row) → ValuesFit rows → RowFits (map (agg_value rows) aggs)
aggs_fit [] rows fit = tt
aggs_fit (agg ∷ aggs) rows fit = (agg_fits agg rows fit, aggs_fit aggs rows fit)

group_fits : (keys : List ℕ) (aggs : List Agg) (rows : List Row) → ValuesFit rows → (key : Row) → RowFits key
    → RowFits (key ++ map (agg_value (rows_with keys key rows)) aggs)
group_fits keys aggs rows fit key fits =
    append_fits key (map (agg_value (rows_with keys key rows)) aggs) fits
    (aggs_fit aggs (rows_with keys key rows) (All-filter (λ row. same_row (key_of keys row) key) RowFits rows fit))

-- ---- unary operators

pub applied_fits : (op : Op) (rows : List Row) → ConstantsFit op → ValuesFit rows → ValuesFit (applied op rows)
applied_fits (Source table columns) rows constants fit = fit
applied_fits (Filter test) rows constants fit = All-filter (λ row. is_yes (truth_of row test)) RowFits rows fit
applied_fits (Project exprs) rows constants fit =
    All-map RowFits (λ row. map (value_at row) exprs) rows (λ k d lt. exprs_fit (get_or rows k d) (fit k d lt) exprs constants)
applied_fits (Explode column separator) rows constants fit =
    All-flat_map (λ row. with_pieces column separator row (text_of (get_or row column Null))) rows
    (λ k d lt. exploded_fit column separator (get_or rows k d) (fit k d lt) (text_of (get_or (get_or rows k d) column Null)) refl)
applied_fits Union rows constants fit = fit
applied_fits (Aggregate keys aggs) rows constants fit =
    let each : ValuesFit (one_of_each (map (key_of keys) rows)) =
    each_fits (map (key_of keys) rows) (All-map RowFits (key_of keys) rows (λ k d lt. key_fits keys (get_or rows k d) (fit k d lt))) in
    All-map RowFits (λ key. key ++ map (agg_value (rows_with keys key rows)) aggs) (one_of_each (map (key_of keys) rows))
    (λ k d lt. group_fits keys aggs rows fit (get_or (one_of_each (map (key_of keys) rows)) k d) (each k d lt))
applied_fits Distinct rows constants fit = each_fits rows fit
applied_fits (Join kind keys) rows constants fit = fit
applied_fits (Sink name) rows constants fit = fit

-- ---- joins

padded_fits : (padded : Row) (rows : List Row) → RowFits padded → ValuesFit rows → ValuesFit (or_padded padded rows)
padded_fits padded [] fit fits = All-cons RowFits padded [] fit (All-nil RowFits)
padded_fits padded (row ∷ rows) fit fits = fits

matched_fits : (row : Row) (rows : List Row) → RowFits row → ValuesFit (if_matched row rows)
matched_fits row [] fit = All-nil RowFits
matched_fits row (other ∷ rows) fit = All-cons RowFits row [] fit (All-nil RowFits)

unmatched_fits : (row : Row) (rows : List Row) → RowFits row → ValuesFit (if_unmatched row rows)
unmatched_fits row [] fit = All-cons RowFits row [] fit (All-nil RowFits)
unmatched_fits row (other ∷ rows) fit = All-nil RowFits

-- a row beside each of its matches
after_fits : (row : Row) (test : Row → Bool) (others : List Row) → RowFits row → ValuesFit others → ValuesFit (map (λ other. row ++ other) (filter test others))
after_fits row test others fit fits =
    let matched : ValuesFit (filter test others) = All-filter test RowFits others fits in
    All-map RowFits (λ other. row ++ other) (filter test others) (λ k d lt. append_fits row (get_or (filter test others) k d) fit (matched k d lt))

before_fits : (row : Row) (test : Row → Bool) (others : List Row) → RowFits row → ValuesFit others → ValuesFit (map (λ other. other ++ row) (filter test others))
before_fits row test others fit fits =
    let matched : ValuesFit (filter test others) = All-filter test RowFits others fits in
    All-map RowFits (λ other. other ++ row) (filter test others) (λ k d lt. append_fits (get_or (filter test others) k d) row (matched k d lt) fit)

left_fits : (keys : List (ℕ × ℕ)) (width : ℕ) (left right : List Row) → ValuesFit left → ValuesFit right
    → ValuesFit (flat_map (λ row. or_padded (row ++ nulls width) (map (λ other. row ++ other) (filter (matches keys row) right))) left)
left_fits keys width left right fit fits =
    All-flat_map (λ row. or_padded (row ++ nulls width) (map (λ other. row ++ other) (filter (matches keys row) right))) left (λ k d lt.
    padded_fits (get_or left k d ++ nulls width) (map (λ other. get_or left k d ++ other) (filter (matches keys (get_or left k d)) right))
    (append_fits (get_or left k d) (nulls width) (fit k d lt) (nulls_fit width)) (after_fits (get_or left k d) (matches keys (get_or left k d)) right (fit k d lt) fits))

pub joined_fits : (join : JoinKind) (keys : List (ℕ × ℕ)) (left_width right_width : ℕ) (left right : List Row) → ValuesFit left → ValuesFit right
    → ValuesFit (joined keys left_width right_width left right join)
joined_fits kind.Inner keys left_width right_width left right fit fits =
    All-flat_map (λ row. map (λ other. row ++ other) (filter (matches keys row) right)) left
    (λ k d lt. after_fits (get_or left k d) (matches keys (get_or left k d)) right (fit k d lt) fits)
joined_fits kind.Left keys left_width right_width left right fit fits = left_fits keys right_width left right fit fits
joined_fits kind.Right keys left_width right_width left right fit fits =
    All-flat_map (λ row. or_padded (nulls left_width ++ row) (map (λ other. other ++ row) (filter (λ other. matches keys other row) left))) right (λ k d lt.
    padded_fits (nulls left_width ++ get_or right k d) (map (λ other. other ++ get_or right k d) (filter (λ other. matches keys other (get_or right k d)) left))
    (append_fits (nulls left_width) (get_or right k d) (nulls_fit left_width) (fits k d lt)) (before_fits (get_or right k d) (λ other. matches keys other (get_or right k d)) left (fits k d lt) fit))
joined_fits kind.Full keys left_width right_width left right fit fits =
    let lonely : Row → List Row = λ row. if_unmatched (nulls left_width ++ row) (filter (λ other. matches keys other row) left) in
    All-append RowFits (flat_map (λ row. or_padded (row ++ nulls right_width) (map (λ other. row ++ other) (filter (matches keys row) right))) left) (flat_map lonely right)
    (left_fits keys right_width left right fit fits)
    (All-flat_map lonely right (λ k d lt.
    unmatched_fits (nulls left_width ++ get_or right k d) (filter (λ other. matches keys other (get_or right k d)) left)
    (append_fits (nulls left_width) (get_or right k d) (nulls_fit left_width) (fits k d lt))))
joined_fits kind.Semi keys left_width right_width left right fit fits =
    All-flat_map (λ row. if_matched row (filter (matches keys row) right)) left (λ k d lt. matched_fits (get_or left k d) (filter (matches keys (get_or left k d)) right) (fit k d lt))
joined_fits kind.Anti keys left_width right_width left right fit fits =
    All-flat_map (λ row. if_unmatched row (filter (matches keys row) right)) left (λ k d lt. unmatched_fits (get_or left k d) (filter (matches keys (get_or left k d)) right) (fit k d lt))

-- ---- tables and nodes

digits_fit : (negative : Bool) (cell : List ℕ) → ValueFits (digits_cell negative cell)
digits_fit negative [] = tt
digits_fit negative (digit ∷ digits) =
    choice_fits (all_ascii_digits (digit ∷ digits)) (signed_value negative (digits_value 10 (digit ∷ digits))) Null (int_fits (if negative then neg_ℤ (pos (digits_value 10 (digit ∷ digits))) else pos (digits_value 10 (digit ∷ digits)))) tt

number_fits : (cell : List ℕ) → ValueFits (int_cell cell)
number_fits [] = tt
number_fits (byte ∷ bytes) = choice_fits (byte == 45) (digits_cell true bytes) (digits_cell false (byte ∷ bytes)) (digits_fit true bytes) (digits_fit false (byte ∷ bytes))

cell_fits : (of : Kind) (cell : List ℕ) → ValueFits (cell_value of cell)
cell_fits IntKind cell = number_fits cell
cell_fits TextKind cell = text_fits cell

-- a record as a row
pub record_fits : (kinds : List Kind) (cells : List (List ℕ)) → AllByRecursion ValueFits (row_of kinds cells)
record_fits [] cells = tt
record_fits (of ∷ kinds) [] = (tt, record_fits kinds [])
record_fits (of ∷ kinds) (cell ∷ cells) = (cell_fits of cell, record_fits kinds cells)

records_fit : (kinds : List Kind) (cells : List (List (List ℕ))) → ValuesFit (map (row_of kinds) cells)
records_fit kinds cells = All-map RowFits (row_of kinds) cells (λ k d lt. record_fits kinds (get_or cells k d))

table_fits : (kinds : List Kind) (files : List (List ℕ)) → ValuesFit (flat_map (table_rows kinds) files)
table_fits kinds files = All-flat_map (table_rows kinds) files (λ k d lt. records_fit kinds _)

input_fits : (inputs : List Bag) (place : ℕ) → All (λ bag. ValuesFit bag.rows) inputs → ValuesFit (bag_at inputs place).rows
input_fits [] place fit = All-nil RowFits
input_fits (bag ∷ inputs) zero fit = All-head (λ bag. ValuesFit bag.rows) bag inputs fit
input_fits (bag ∷ inputs) (suc place) fit = input_fits inputs place (All-tail (λ bag. ValuesFit bag.rows) bag inputs fit)

pub node_fits : (files : List ℕ → List (List ℕ)) (op : Op) (inputs : List Bag) → ConstantsFit op → All (λ bag. ValuesFit bag.rows) inputs → ValuesFit (bag_of files op inputs).rows
node_fits files (Source table columns) inputs constants fit = table_fits (map (λ c. c.kind) columns) (files table)
node_fits files (Filter test) inputs constants fit = applied_fits (Filter test) (bag_at inputs 0).rows tt (input_fits inputs 0 fit)
node_fits files (Project exprs) inputs constants fit = applied_fits (Project exprs) (bag_at inputs 0).rows constants (input_fits inputs 0 fit)
node_fits files (Explode column separator) inputs constants fit = applied_fits (Explode column separator) (bag_at inputs 0).rows tt (input_fits inputs 0 fit)
node_fits files Union inputs constants fit = All-flat_map (λ bag. bag.rows) inputs fit
node_fits files (Aggregate keys aggs) inputs constants fit = applied_fits (Aggregate keys aggs) (bag_at inputs 0).rows tt (input_fits inputs 0 fit)
node_fits files Distinct inputs constants fit = applied_fits Distinct (bag_at inputs 0).rows tt (input_fits inputs 0 fit)
node_fits files (Join kind keys) inputs constants fit =
    joined_fits kind keys (bag_at inputs 0).width (bag_at inputs 1).width (bag_at inputs 0).rows (bag_at inputs 1).rows (input_fits inputs 0 fit) (input_fits inputs 1 fit)
node_fits files (Sink name) inputs constants fit = input_fits inputs 0 fit

bags_fit : (files : List ℕ → List (List ℕ)) (bags : List Bag) (nodes : List Node) → All (λ bag. ValuesFit bag.rows) bags → All (λ node. ConstantsFit node.op) nodes
    → All (λ bag. ValuesFit bag.rows) (bags_from files bags nodes)
bags_fit files bags [] fit constants = fit
bags_fit files bags (node ∷ nodes) fit constants =
    let inputs : All (λ bag. ValuesFit bag.rows) (map (bag_at bags) node.inputs) =
    All-map (λ bag. ValuesFit bag.rows) (bag_at bags) node.inputs (λ k d lt. input_fits bags (get_or node.inputs k d) fit) in
    let own = node_fits files node.op (map (bag_at bags) node.inputs) (All-head (λ node. ConstantsFit node.op) node nodes constants) inputs in
    bags_fit files (bags ++ bag_of files node.op (map (bag_at bags) node.inputs) ∷ []) nodes
    (All-push (λ bag. ValuesFit bag.rows) bags (bag_of files node.op (map (bag_at bags) node.inputs)) fit own) (All-tail (λ node. ConstantsFit node.op) node nodes constants)

pub plan_fits : (files : List ℕ → List (List ℕ)) (nodes : List Node) → All (λ node. ConstantsFit node.op) nodes → All (λ bag. ValuesFit bag.rows) (bags_of files nodes)
plan_fits files nodes constants = bags_fit files [] nodes (All-nil (λ bag. ValuesFit bag.rows)) constants

-- ---- texts

text_within : (value : Value) → ValueFits value → TextFits value
text_within Null fit = tt
text_within (Int n) fit = tt
text_within (Text t) fit = fit

texts_within : (row : Row) → RowFits row → AllByRecursion TextFits row
texts_within [] fit = tt
texts_within (value ∷ row) fit = (text_within value fit.0, texts_within row fit.1)

pub rows_within : (rows : List Row) → ValuesFit rows → TextsFit rows
rows_within rows fit = λ k d lt. texts_within (get_or rows k d) (fit k d lt)
