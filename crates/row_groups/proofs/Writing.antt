-- The bytes of groups are the rows of an aggregate.
use Rattle.std.proofs.Common.{◌≡◌, ◌<◌, ◌≤◌, ◌+◌, ℕ, zero, suc, List, [], ◌∷◌, ◌++◌, length, map, take, get_or, add-one, refl, sym, ap, subst, ◌∙◌, append_assoc, arith}
use Rattle.std.specs.Prelude.{All}
use Rattle.std.specs.List.{AllByRecursion}
use Rattle.std.specs.Int.{w16, to_be_bytes}
use Rattle.std.proofs.lemmas.List.{append-nil, length-append, length-map}
use Rattle.std.proofs.lemmas.List.Concat.{flat_map-append}
use Rattle.std.proofs.lemmas.List.Elements.{All-from_recursion, recursion_from_All}
use Rattle.row_core.specs.Encoding.{TextFits, ValueFits, value_bytes, values_bytes, row_bytes, rows_bytes}
use Rattle.row_core.specs.Values.{width_limit}
use Rattle.row_core.specs.declared.value.Value.{Value}
use Rattle.row_core.proofs.Laws.{values_texts_fit}
use Rattle.bag_laws.specs.Rows.{OneRow as Row}
use Rattle.plan_model.specs.Operators.{agg_value, aggregated, rows_with}
use Rattle.plan_model.specs.declared.agg.Agg.{Agg}
use Rattle.plan_model.specs.declared.op.Op.TheVariants.{Aggregate}
use Rattle.operator_laws.specs.Texts.{ValuesFit}
use Rattle.operator_laws.proofs.Laws.{applied_fits}
use Rattle.row_view.specs.Encoded.{RowOf}
use Rattle.row_groups.specs.Accumulators.{accumulator_of, finish}
use Rattle.row_groups.specs.Held.{keys_of, told_of}
use Rattle.row_groups.specs.Written.{group_bytes, groups_bytes}
use Rattle.row_groups.specs.declared.accumulator.Accumulator.{Accumulator}
use Rattle.row_groups.proofs.Accumulating.{finish_is}
use Rattle.row_groups.proofs.Keys.{all_keys}

-- ---- one more

pub value_more : (front : List ℕ) (values : List Value) (value : Value) → (front ++ values_bytes values) ++ value_bytes value ≡ front ++ values_bytes (values ++ value ∷ [])
value_more front values value =
    append_assoc front (values_bytes values) (value_bytes value)
    ∙ ap (λ (l : List ℕ). front ++ (values_bytes values ++ l)) (sym (append-nil (value_bytes value)))
    ∙ ap (λ (l : List ℕ). front ++ l) (sym (flat_map-append value_bytes values (value ∷ [])))

more : (width : ℕ) (keys : List (List ℕ)) (groups : List (List Accumulator)) (i : ℕ) → i < length keys → i < length groups
    → groups_bytes width (take (suc i) keys) (take (suc i) groups) ≡ groups_bytes width (take i keys) (take i groups) ++ group_bytes width (get_or keys i []) (get_or groups i [])
more width [] groups i lt in_groups = absurd (omega arith)
more width (key ∷ keys) [] i lt in_groups = absurd (omega arith)
more width (key ∷ keys) (states ∷ groups) zero lt in_groups = append-nil (group_bytes width key states)
more width (key ∷ keys) (states ∷ groups) (suc i) lt in_groups =
    ap (λ (l : List ℕ). group_bytes width key states ++ l) (more width keys groups i (omega arith) (omega arith))
    ∙ sym (append_assoc (group_bytes width key states) (groups_bytes width (take i keys) (take i groups)) (group_bytes width (get_or keys i []) (get_or groups i [])))

pub group_more : (width : ℕ) (keys : List (List ℕ)) (groups : List (List Accumulator)) (i : ℕ) → i < length keys → i < length groups
    → groups_bytes width (take (i + 1) keys) (take (i + 1) groups) ≡ groups_bytes width (take i keys) (take i groups) ++ group_bytes width (get_or keys i []) (get_or groups i [])
group_more width keys groups i lt in_groups = rw add-one (more width keys groups i lt in_groups)

-- ---- all

through : (width : ℕ) (keys : List (List ℕ)) (groups : List (List Accumulator)) → groups_bytes width (take (length keys) keys) (take (length keys) groups) ≡ groups_bytes width keys groups
through width [] groups = refl
through width (key ∷ keys) [] = refl
through width (key ∷ keys) (states ∷ groups) = ap (λ (l : List ℕ). group_bytes width key states ++ l) (through width keys groups)

pub all_written : (width : ℕ) (keys : List (List ℕ)) (groups : List (List Accumulator)) (n : ℕ) → n ≡ length keys → groups_bytes width (take n keys) (take n groups) ≡ groups_bytes width keys groups
all_written width keys groups n is = ap (λ (k : ℕ). groups_bytes width (take k keys) (take k groups)) is ∙ through width keys groups

told_values : (aggs : List Agg) (rows : List Row) → map finish (map (accumulator_of rows) aggs) ≡ map (agg_value rows) aggs
told_values [] rows = refl
told_values (agg ∷ aggs) rows = (λ i. finish_is rows agg i ∷ told_values aggs rows i)

-- the row of a key
abbrev group_row : List ℕ → List Agg → List Row → Row → Row
group_row keys aggs rows key = key ++ map (agg_value (rows_with keys key rows)) aggs

group_wide : (keys : List ℕ) (aggs : List Agg) (rows : List Row) (key : Row) → length key ≡ length keys → length (group_row keys aggs rows key) ≡ length keys + length aggs
group_wide keys aggs rows key wide =
    let told = map (agg_value (rows_with keys key rows)) aggs in
    omega (arith, length-append key told, length-map aggs (agg_value (rows_with keys key rows)), wide)

one_row : (keys : List ℕ) (aggs : List Agg) (rows : List Row) (key : Row) → length key ≡ length keys
    → group_bytes (length keys + length aggs) (values_bytes key) (told_of keys aggs rows key) ≡ row_bytes (group_row keys aggs rows key)
one_row keys aggs rows key wide =
    let told = map (agg_value (rows_with keys key rows)) aggs in
    append_assoc (to_be_bytes w16 (length keys + length aggs)) (values_bytes key) (values_bytes (map finish (told_of keys aggs rows key)))
    ∙ (λ i. to_be_bytes w16 (sym (group_wide keys aggs rows key wide) i) ++ (values_bytes key ++ values_bytes (told_values aggs (rows_with keys key rows) i)))
    ∙ ap (λ (l : List ℕ). to_be_bytes w16 (length (group_row keys aggs rows key)) ++ l) (sym (flat_map-append value_bytes key told))

all_rows : (keys : List ℕ) (aggs : List Agg) (rows each : List Row) → AllByRecursion (RowOf (length keys)) each
    → groups_bytes (length keys + length aggs) (map values_bytes each) (map (told_of keys aggs rows) each) ≡ rows_bytes (map (group_row keys aggs rows) each)
all_rows keys aggs rows [] wide = refl
all_rows keys aggs rows (key ∷ each) wide = (λ i. one_row keys aggs rows key wide.0.wide i ++ all_rows keys aggs rows each wide.1 i)

-- the groups of rows are written as the rows of their aggregate
pub written : (keys : List ℕ) (aggs : List Agg) (width n : ℕ) (rows : List Row) (places : List (List ℕ)) (told : List (List Accumulator)) → length keys ≤ width_limit → AllByRecursion (RowOf width) rows
    → n ≡ length keys + length aggs → places ≡ map values_bytes (keys_of keys rows) → told ≡ map (told_of keys aggs rows) (keys_of keys rows)
    → groups_bytes n places told ≡ rows_bytes (aggregated keys aggs rows)
written keys aggs width n rows places told narrow wide is had_keys had_told =
    (λ i. groups_bytes (is i) (had_keys i) (had_told i)) ∙ all_rows keys aggs rows (keys_of keys rows) (all_keys keys width rows narrow wide)

-- ---- the rows can be encoded

values_of : (width : ℕ) (rows : List Row) → AllByRecursion (RowOf width) rows → AllByRecursion (AllByRecursion ValueFits) rows
values_of width [] wide = tt
values_of width (row ∷ rows) wide = (wide.0.fits.values, values_of width rows wide.1)

told_fits : (keys : List ℕ) (aggs : List Agg) (width : ℕ) (rows : List Row) → AllByRecursion (RowOf width) rows → AllByRecursion (AllByRecursion ValueFits) (aggregated keys aggs rows)
told_fits keys aggs width rows wide =
    let given : ValuesFit rows = All-from_recursion (AllByRecursion ValueFits) rows (values_of width rows wide) in
    recursion_from_All (AllByRecursion ValueFits) (aggregated keys aggs rows) (applied_fits (Aggregate keys aggs) rows tt given)

both_wide : (keys : List ℕ) (aggs : List Agg) (rows each : List Row) → length keys + length aggs ≤ width_limit → AllByRecursion (RowOf (length keys)) each
    → AllByRecursion (AllByRecursion ValueFits) (map (group_row keys aggs rows) each) → AllByRecursion (RowOf (length keys + length aggs)) (map (group_row keys aggs rows) each)
both_wide keys aggs rows [] narrow wide fit = tt
both_wide keys aggs rows (key ∷ each) narrow wide fit =
    let long = group_wide keys aggs rows key wide.0.wide in
    (record { fits = record { width = omega (arith, long, narrow); values = fit.0 }; wide = long }, both_wide keys aggs rows each narrow wide.1 fit.1)

pub told_wide : (keys : List ℕ) (aggs : List Agg) (width : ℕ) (rows : List Row) → length keys + length aggs ≤ width_limit → AllByRecursion (RowOf width) rows
    → AllByRecursion (RowOf (length keys + length aggs)) (aggregated keys aggs rows)
told_wide keys aggs width rows narrow wide =
    both_wide keys aggs rows (keys_of keys rows) narrow (all_keys keys width rows (omega (arith, narrow)) wide) (told_fits keys aggs width rows wide)

behind : (front back : Row) → AllByRecursion ValueFits (front ++ back) → AllByRecursion ValueFits back
behind [] back fit = fit
behind (value ∷ front) back fit = behind front back fit.1

told_texts : (keys : List ℕ) (aggs : List Agg) (rows each : List Row) → AllByRecursion (AllByRecursion ValueFits) (map (group_row keys aggs rows) each)
    → AllByRecursion (λ states. AllByRecursion TextFits (map finish states)) (map (told_of keys aggs rows) each)
told_texts keys aggs rows [] fit = tt
told_texts keys aggs rows (key ∷ each) fit =
    let told = map (agg_value (rows_with keys key rows)) aggs in (
      subst (AllByRecursion TextFits) (sym (told_values aggs (rows_with keys key rows))) (values_texts_fit told (behind key told fit.0)),
      told_texts keys aggs rows each fit.1,
    )

-- the texts that accumulators tell are within the limit
pub texts_told : (keys : List ℕ) (aggs : List Agg) (width : ℕ) (rows : List Row) (told : List (List Accumulator)) → AllByRecursion (RowOf width) rows → told ≡ map (told_of keys aggs rows) (keys_of keys rows)
    → All (λ states. AllByRecursion TextFits (map finish states)) told
texts_told keys aggs width rows told wide is =
    All-from_recursion (λ states. AllByRecursion TextFits (map finish states)) told
    (subst (AllByRecursion (λ states. AllByRecursion TextFits (map finish states))) (sym is)
    (told_texts keys aggs rows (keys_of keys rows) (told_fits keys aggs width rows wide)))
