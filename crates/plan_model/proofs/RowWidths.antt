-- The rows of each operator have its width.
use Rattle.std.proofs.Common.{◌≡◌, ℕ, zero, suc, ◌+◌, Bool, true, Option, Some, None, List, [], ◌∷◌, ◌++◌, length, map, get_or, refl, sym, ◌∙◌, ap, arith, All, eqb-true, length-append}
use Rattle.std.proofs.Math.ListN.{get_or-map}
use Rattle.std.proofs.lemmas.List.{length-map, length-set, length-replicate}
use Rattle.std.proofs.lemmas.List.Elements.{All-nil, All-append, All-filter, All-map}
use Rattle.std.proofs.lemmas.List.Sums.{AllPass-from_list_all}
use Rattle.std.specs.Prelude.{nat_eq, slice_set, not}
use Rattle.std.specs.List.{filter, flat_map}
use Rattle.row_core.specs.Bags.{one_of_each}
use Rattle.row_core.specs.Exprs.{value_at, truth_of, is_yes}
use Rattle.row_core.specs.Values.{same_row, text_of}
use Rattle.row_core.specs.declared.value.Value.TheVariants.{Null, Text}
use Rattle.row_core.specs.declared.value.Value.{Value}
use Rattle.plan_model.specs.Joins.{nulls, or_padded, if_matched, if_unmatched, joined, matches}
use Rattle.plan_model.specs.Operators.{key_of, pieces, with_pieces, agg_value, rows_with}
use Rattle.plan_model.specs.Plans.{Bag, bag_at, bag_of, join_width, empty_bag}
use Rattle.plan_model.specs.Tables.{row_of, table_rows}
use Rattle.plan_model.specs.Widths.{width_of}
use Rattle.plan_model.specs.declared.join_kind.JoinKind.{JoinKind}
use Rattle.plan_model.specs.declared.join_kind.JoinKind.TheVariants as kind
use Rattle.plan_model.specs.declared.kind.Kind.{Kind}
use Rattle.plan_model.specs.declared.op.Op.{Op}
use Rattle.plan_model.specs.declared.op.Op.TheVariants.{Source, Filter, Project, Explode, Union, Aggregate, Distinct, Join, Sink}
use Rattle.plan_model.specs.Nodes.{HasItsWidth, IsGood, bag_widths}

module _ {X : Type 0} (P : X → Type 0) where
  all_cons : (x : X) (xs : List X) → P x → All P xs → All P (x ∷ xs)
  all_cons x xs here rest zero d lt = here
  all_cons x xs here rest (suc k) d lt = rest k d (omega (arith, lt))

  all_flat_map : {Y : Type 0} (f : Y → List X) (ys : List Y) → All (λ y. All P (f y)) ys → All P (flat_map f ys)
  all_flat_map f [] each = All-nil P
  all_flat_map f (y ∷ ys) each = All-append P (f y) (flat_map f ys) (each 0 y (omega arith)) (all_flat_map f ys (λ k d lt. each (suc k) d (omega (arith, lt))))

abbrev Row : Type 0
Row = List Value

-- rows of a width
abbrev Wide : ℕ → Row → Type 0
Wide width row = length row ≡ width

each_wide : (width : ℕ) (rows : List Row) → All (Wide width) rows → All (Wide width) (one_of_each rows)
each_wide width [] wide = All-nil (Wide width)
each_wide width (row ∷ rows) wide =
    all_cons (Wide width) row (filter (λ other. not (same_row row other)) (one_of_each rows)) (wide 0 row (omega arith))
    (All-filter (λ other. not (same_row row other)) (Wide width) (one_of_each rows) (each_wide width rows (λ k d lt. wide (suc k) d (omega (arith, lt)))))

row_wide : (kinds : List Kind) (cells : List (List ℕ)) → length (row_of kinds cells) ≡ length kinds
row_wide [] cells = refl
row_wide (kind ∷ kinds) [] = ap suc (row_wide kinds [])
row_wide (kind ∷ kinds) (cell ∷ cells) = ap suc (row_wide kinds cells)

table_wide : (kinds : List Kind) (bytes : List ℕ) → All (Wide (length kinds)) (table_rows kinds bytes)
table_wide kinds bytes = All-map (Wide (length kinds)) (row_of kinds) _ (λ k d lt. row_wide kinds _)

pieces_wide : (width column separator : ℕ) (row : Row) (text : Option (List ℕ)) → length row ≡ width → All (Wide width) (with_pieces column separator row text)
pieces_wide width column separator row None wide = All-nil (Wide width)
pieces_wide width column separator row (Some text) wide = All-map (Wide width) (λ piece. slice_set row column (Text piece)) (pieces separator text)
    (λ k d lt. length-set row column (Text (get_or (pieces separator text) k d)) ∙ wide)

-- ---- joins

module _ (width : ℕ) where
  padded_wide : (row : Row) (rows : List Row) → length row ≡ width → All (Wide width) rows → All (Wide width) (or_padded row rows)
  padded_wide row [] here wide = all_cons (Wide width) row [] here (All-nil (Wide width))
  padded_wide row (match ∷ rest) here wide = wide

  matched_wide : (row : Row) (rows : List Row) → length row ≡ width → All (Wide width) (if_matched row rows)
  matched_wide row [] here = All-nil (Wide width)
  matched_wide row (match ∷ rest) here = all_cons (Wide width) row [] here (All-nil (Wide width))

  unmatched_wide : (row : Row) (rows : List Row) → length row ≡ width → All (Wide width) (if_unmatched row rows)
  unmatched_wide row [] here = all_cons (Wide width) row [] here (All-nil (Wide width))
  unmatched_wide row (match ∷ rest) here = All-nil (Wide width)

both_wide : (m n : ℕ) (row other : Row) → length row ≡ m → length other ≡ n → length (row ++ other) ≡ m + n
both_wide m n row other here there = length-append row other ∙ (λ i. here i + there i)

module _ (keys : List (ℕ × ℕ)) (lw rw : ℕ) (left right : List Row) (left_wide : All (Wide lw) left) (right_wide : All (Wide rw) right) where
  pairs_wide : (row : Row) (test : Row → Bool) → length row ≡ lw → All (Wide (lw + rw)) (map (λ other. row ++ other) (filter test right))
  pairs_wide row test here = All-map (Wide (lw + rw)) (λ (other : Row). row ++ other) (filter test right)
      (λ k d lt. both_wide lw rw row (get_or (filter test right) k d) here (All-filter test (Wide rw) right right_wide k d lt))

  mirrored_wide : (row : Row) (test : Row → Bool) → length row ≡ rw → All (Wide (lw + rw)) (map (λ other. other ++ row) (filter test left))
  mirrored_wide row test here = All-map (Wide (lw + rw)) (λ (other : Row). other ++ row) (filter test left)
      (λ k d lt. both_wide lw rw (get_or (filter test left) k d) row (All-filter test (Wide lw) left left_wide k d lt) here)

  right_nulls : (row : Row) → length row ≡ lw → length (row ++ nulls rw) ≡ lw + rw
  right_nulls row here = both_wide lw rw row (nulls rw) here (length-replicate rw Null)

  left_nulls : (row : Row) → length row ≡ rw → length (nulls lw ++ row) ≡ lw + rw
  left_nulls row here = both_wide lw rw (nulls lw) row (length-replicate lw Null) here

  left_joined_wide : All (Wide (lw + rw)) (joined keys lw rw left right kind.Left)
  left_joined_wide = all_flat_map (Wide (lw + rw)) (λ row. or_padded (row ++ nulls rw) (map (λ other. row ++ other) (filter (λ other. matches keys row other) right))) left
      (λ k d lt. let row = get_or left k d in padded_wide (lw + rw) (row ++ nulls rw) (map (λ other. row ++ other) (filter (λ other. matches keys row other) right))
      (right_nulls row (left_wide k d lt)) (pairs_wide row (λ other. matches keys row other) (left_wide k d lt)))

  joined_wide : (join : JoinKind) → All (Wide (join_width join lw rw)) (joined keys lw rw left right join)
  joined_wide kind.Inner = all_flat_map (Wide (lw + rw)) (λ row. map (λ other. row ++ other) (filter (λ other. matches keys row other) right)) left
      (λ k d lt. pairs_wide (get_or left k d) (λ other. matches keys (get_or left k d) other) (left_wide k d lt))
  joined_wide kind.Left = left_joined_wide
  joined_wide kind.Right = all_flat_map (Wide (lw + rw)) (λ row. or_padded (nulls lw ++ row) (map (λ other. other ++ row) (filter (λ other. matches keys other row) left))) right
      (λ k d lt. let row = get_or right k d in padded_wide (lw + rw) (nulls lw ++ row) (map (λ other. other ++ row) (filter (λ other. matches keys other row) left))
      (left_nulls row (right_wide k d lt)) (mirrored_wide row (λ other. matches keys other row) (right_wide k d lt)))
  joined_wide kind.Full = All-append (Wide (lw + rw)) (joined keys lw rw left right kind.Left)
      (flat_map (λ row. if_unmatched (nulls lw ++ row) (filter (λ other. matches keys other row) left)) right)
      left_joined_wide
      (all_flat_map (Wide (lw + rw)) (λ row. if_unmatched (nulls lw ++ row) (filter (λ other. matches keys other row) left)) right
      (λ k d lt. let row = get_or right k d in unmatched_wide (lw + rw) (nulls lw ++ row) (filter (λ other. matches keys other row) left) (left_nulls row (right_wide k d lt))))
  joined_wide kind.Semi = all_flat_map (Wide lw) (λ row. if_matched row (filter (λ other. matches keys row other) right)) left
      (λ k d lt. matched_wide lw (get_or left k d) (filter (λ other. matches keys (get_or left k d) other) right) (left_wide k d lt))
  joined_wide kind.Anti = all_flat_map (Wide lw) (λ row. if_unmatched row (filter (λ other. matches keys row other) right)) left
      (λ k d lt. unmatched_wide lw (get_or left k d) (filter (λ other. matches keys (get_or left k d) other) right) (left_wide k d lt))

-- ---- any operator

pub width_at : (bags : List Bag) (place : ℕ) → (bag_at bags place).width ≡ get_or (bag_widths bags) place 0
width_at bags place = sym (get_or-map (λ (bag : Bag). bag.width) bags place empty_bag)

pub bag_width : (files : List ℕ → List (List ℕ)) (op : Op) (inputs : List Bag) → (bag_of files op inputs).width ≡ width_of op (bag_widths inputs)
bag_width files (Source table columns) inputs = refl
bag_width files (Filter test) inputs = width_at inputs 0
bag_width files (Project exprs) inputs = refl
bag_width files (Explode column separator) inputs = width_at inputs 0
bag_width files Union inputs = width_at inputs 0
bag_width files (Aggregate keys aggs) inputs = refl
bag_width files Distinct inputs = width_at inputs 0
bag_width files (Join kind keys) inputs = λ i. join_width kind (width_at inputs 0 i) (width_at inputs 1 i)
bag_width files (Sink name) inputs = width_at inputs 0

pub wide_at : (inputs : List Bag) → All HasItsWidth inputs → (place : ℕ) → HasItsWidth (bag_at inputs place)
wide_at [] wide place = All-nil (Wide 0)
wide_at (bag ∷ inputs) wide zero = wide 0 bag (omega arith)
wide_at (bag ∷ inputs) wide (suc place) = wide_at inputs (λ k d lt. wide (suc k) d (omega (arith, lt))) place

union_wide : (width : ℕ) (inputs : List Bag) → All HasItsWidth inputs → All (λ w. nat_eq width w ≡ true) (map (λ bag. bag.width) inputs)
    → All (Wide width) (flat_map (λ bag. bag.rows) inputs)
union_wide width [] wide agree = All-nil (Wide width)
union_wide width (bag ∷ inputs) wide agree =
    All-append (Wide width) bag.rows (flat_map (λ bag. bag.rows) inputs)
    (λ k d lt. wide 0 bag (omega arith) k d lt ∙ sym (eqb-true width bag.width (agree 0 0 (omega arith))))
    (union_wide width inputs (λ k d lt. wide (suc k) d (omega (arith, lt))) (λ k d lt. agree (suc k) d (omega (arith, lt))))

pub bag_wide : (files : List ℕ → List (List ℕ)) (op : Op) (inputs : List Bag) → IsGood op inputs → HasItsWidth (bag_of files op inputs)
bag_wide files (Source table columns) inputs good =
    all_flat_map (Wide (length columns)) (table_rows (map (λ column. column.kind) columns)) (files table)
    (λ k d lt i e low. table_wide (map (λ column. column.kind) columns) (get_or (files table) k d) i e low ∙ length-map columns (λ column. column.kind))
bag_wide files (Filter test) inputs good = All-filter (λ row. is_yes (truth_of row test)) (Wide (bag_at inputs 0).width) (bag_at inputs 0).rows (wide_at inputs good.fit 0)
bag_wide files (Project exprs) inputs good = All-map (Wide (length exprs)) (λ row. map (value_at row) exprs) (bag_at inputs 0).rows
    (λ k d lt. length-map exprs (value_at (get_or (bag_at inputs 0).rows k d)))
bag_wide files (Explode column separator) inputs good =
    let rows = (bag_at inputs 0).rows in
    let width = (bag_at inputs 0).width in
    all_flat_map (Wide width) (λ row. with_pieces column separator row (text_of (get_or row column Null))) rows
    (λ k d lt. pieces_wide width column separator (get_or rows k d) (text_of (get_or (get_or rows k d) column Null)) (wide_at inputs good.fit 0 k d lt))
bag_wide files Union inputs good = union_wide (bag_at inputs 0).width inputs good.fit
    (λ k d lt. ap (λ (w : ℕ). nat_eq w (get_or (map (λ bag. bag.width) inputs) k d)) (width_at inputs 0)
    ∙ AllPass-from_list_all (nat_eq (get_or (map (λ bag. bag.width) inputs) 0 0)) (map (λ bag. bag.width) inputs) good.agree k d lt)
bag_wide files (Aggregate keys aggs) inputs good =
    let rows = (bag_at inputs 0).rows in
    All-map (Wide (length keys + length aggs)) (λ key. key ++ map (agg_value (rows_with keys key rows)) aggs) (one_of_each (map (key_of keys) rows))
    (λ k d lt. let key = get_or (one_of_each (map (key_of keys) rows)) k d in
    both_wide (length keys) (length aggs) key (map (agg_value (rows_with keys key rows)) aggs)
    (each_wide (length keys) (map (key_of keys) rows) (All-map (Wide (length keys)) (key_of keys) rows (λ i e low. length-map keys (λ column. get_or (get_or rows i e) column Null))) k d lt)
    (length-map aggs (agg_value (rows_with keys key rows))))
bag_wide files Distinct inputs good = each_wide (bag_at inputs 0).width (bag_at inputs 0).rows (wide_at inputs good.fit 0)
bag_wide files (Join kind keys) inputs good =
    let left = bag_at inputs 0 in
    let right = bag_at inputs 1 in
    joined_wide keys left.width right.width left.rows right.rows (wide_at inputs good.fit 0) (wide_at inputs good.fit 1) kind
bag_wide files (Sink name) inputs good = wide_at inputs good.fit 0
