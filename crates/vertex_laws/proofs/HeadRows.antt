-- A node of a plan as the head of a vertex: what it gives on the rows that are read.
use Rattle.std.proofs.Common.{◌≡◌, ℕ, zero, suc, ◌<◌, nat_eq, Bool, true, List, [], ◌∷◌, ◌++◌, length, get_or, refl, sym, ◌∙◌, ap, arith, IsTrue}
use Rattle.std.specs.List.{flat_map}
use Rattle.std.proofs.lemmas.Bool.Decides.{nat_tests}
use Rattle.std.proofs.lemmas.List.{append-nil}
use Rattle.row_core.specs.Bags.{one_of_each}
use Rattle.bag_laws.specs.Rows.{OneRow as Row}
use Rattle.plan_model.specs.Checks.{takes}
use Rattle.plan_model.specs.Joins.{joined}
use Rattle.plan_model.specs.Operators.{aggregated, is_row_wise, is_unary}
use Rattle.plan_model.specs.Plans.{bag_at, bag_of}
use Rattle.plan_model.specs.declared.join_kind.JoinKind.{JoinKind}
use Rattle.plan_model.specs.declared.join_kind.JoinKind.TheVariants as kind
use Rattle.plan_model.specs.declared.op.Op.{Op}
use Rattle.plan_model.specs.declared.op.Op.TheVariants.{Source, Filter, Project, Explode, Union, Aggregate, Distinct, Join, Sink}
use Rattle.operator_laws.specs.Applied.{applied}
use Rattle.operator_laws.proofs.Laws.{node_applies, row_each}
use Rattle.rect_cover.specs.Operators.{aggregate_head, distinct_head, join_head, join_shape}
use Rattle.rect_cover.specs.Vertices.{Head, by_row, head_rows, input_at, kind_of}
use Rattle.vertex_laws.specs.VertexRows.{head_bag, input_bags, no_files, op_shape}

-- ---- rows that are read, as bags

pub rows_at : (widths : List ℕ) (inputs : List (List Row)) (k : ℕ) → (bag_at (input_bags widths inputs) k).rows ≡ input_at inputs k
rows_at [] [] k = refl
rows_at (width ∷ widths) [] k = refl
rows_at [] (rows ∷ inputs) zero = refl
rows_at [] (rows ∷ inputs) (suc k) = rows_at [] inputs k
rows_at (width ∷ widths) (rows ∷ inputs) zero = refl
rows_at (width ∷ widths) (rows ∷ inputs) (suc k) = rows_at widths inputs k

pub width_at : (widths : List ℕ) (inputs : List (List Row)) (k : ℕ) → k < length inputs → (bag_at (input_bags widths inputs) k).width ≡ get_or widths k 0
width_at widths [] k lt = absurd (omega (arith, lt))
width_at [] (rows ∷ inputs) zero lt = refl
width_at [] (rows ∷ inputs) (suc k) lt = width_at [] inputs k (omega (arith, lt))
width_at (width ∷ widths) (rows ∷ inputs) zero lt = refl
width_at (width ∷ widths) (rows ∷ inputs) (suc k) lt = width_at widths inputs k (omega (arith, lt))

abbrev pub all_rows : List (List Row) → List Row
all_rows inputs = flat_map (λ rows. rows) inputs

pub rows_are : (widths : List ℕ) (inputs : List (List Row)) → flat_map (λ bag. bag.rows) (input_bags widths inputs) ≡ all_rows inputs
rows_are [] [] = refl
rows_are (width ∷ widths) [] = refl
rows_are [] (rows ∷ inputs) = ap (λ (more : List Row). rows ++ more) (rows_are [] inputs)
rows_are (width ∷ widths) (rows ∷ inputs) = ap (λ (more : List Row). rows ++ more) (rows_are widths inputs)

pub long : (widths : List ℕ) (inputs : List (List Row)) → length (input_bags widths inputs) ≡ length inputs
long [] [] = refl
long (width ∷ widths) [] = refl
long [] (rows ∷ inputs) = ap suc (long [] inputs)
long (width ∷ widths) (rows ∷ inputs) = ap suc (long widths inputs)

-- each row as it is
pub passed : (rows : List Row) → flat_map (λ row. row ∷ []) rows ≡ rows
passed [] = refl
passed (row ∷ rows) = ap (λ (more : List Row). row ∷ more) (passed rows)

-- ---- heads

abbrev pub each_row : Op → Row → List Row
each_row op row = applied op (row ∷ [])

abbrev pub op_head : Op → List ℕ → Head
op_head (Source table columns) widths = by_row (each_row (Source table columns))
op_head (Filter test) widths = by_row (each_row (Filter test))
op_head (Project exprs) widths = by_row (each_row (Project exprs))
op_head (Explode column separator) widths = by_row (each_row (Explode column separator))
op_head Union widths = by_row (each_row Union)
op_head (Aggregate keys aggs) widths = aggregate_head keys aggs
op_head Distinct widths = distinct_head
op_head (Join kind keys) widths = join_head keys (get_or widths 0 0) (get_or widths 1 0) kind
op_head (Sink name) widths = by_row (each_row (Sink name))

join_kind : (keys : List (ℕ × ℕ)) (left_width right_width : ℕ) (join : JoinKind) → kind_of (join_head keys left_width right_width join) ≡ join_shape join
join_kind keys left_width right_width kind.Inner = refl
join_kind keys left_width right_width kind.Left = refl
join_kind keys left_width right_width kind.Right = refl
join_kind keys left_width right_width kind.Full = refl
join_kind keys left_width right_width kind.Semi = refl
join_kind keys left_width right_width kind.Anti = refl

pub head_kind : (op : Op) (widths : List ℕ) → kind_of (op_head op widths) ≡ op_shape op
head_kind (Source table columns) widths = refl
head_kind (Filter test) widths = refl
head_kind (Project exprs) widths = refl
head_kind (Explode column separator) widths = refl
head_kind Union widths = refl
head_kind (Aggregate keys aggs) widths = refl
head_kind Distinct widths = refl
head_kind (Join join keys) widths = join_kind keys (get_or widths 0 0) (get_or widths 1 0) join
head_kind (Sink name) widths = refl

-- ---- what a head gives

-- a source has one input, of its files
abbrev pub reads : Op → ℕ → Bool
reads (Source table columns) n = nat_eq n 1
reads op n = takes op n

same_number : (m n : ℕ) → nat_eq m n ≡ true → m ≡ n
same_number m n e = grind (arith, nat_tests)

one_input : (inputs : List (List Row)) → length inputs ≡ 1 → inputs ≡ input_at inputs 0 ∷ []
one_input [] e = absurd (omega (arith, e))
one_input (rows ∷ []) e = refl
one_input (rows ∷ more ∷ inputs) e = absurd (omega (arith, e))

two_inputs : (inputs : List (List Row)) → length inputs ≡ 2 → inputs ≡ input_at inputs 0 ∷ input_at inputs 1 ∷ []
two_inputs [] e = absurd (omega (arith, e))
two_inputs (rows ∷ []) e = absurd (omega (arith, e))
two_inputs (rows ∷ others ∷ []) e = refl
two_inputs (rows ∷ others ∷ more ∷ inputs) e = absurd (omega (arith, e))

abbrev pub JoinsAreHeads : Type 0
JoinsAreHeads = (keys : List (ℕ × ℕ)) (left_width right_width : ℕ) (join : JoinKind) (left right : List Row)
    → head_rows (join_head keys left_width right_width join) (left ∷ right ∷ []) ≡ joined keys left_width right_width left right join

module _ (widths : List ℕ) (inputs : List (List Row)) where
  row_by_row : (op : Op) → IsTrue (is_unary op) → IsTrue (is_row_wise op) → takes op (length inputs) ≡ true
      → (bag_of no_files op (input_bags widths inputs)).rows ≡ flat_map (each_row op) (all_rows inputs)
  row_by_row op unary wise number =
      node_applies no_files op (input_bags widths inputs) unary (ap (takes op) (long widths inputs) ∙ number)
      ∙ ap (applied op) (rows_are widths inputs)
      ∙ row_each op (all_rows inputs) wise

  pub head_is : JoinsAreHeads → (op : Op) → reads op (length inputs) ≡ true → (head_bag op (input_bags widths inputs)).rows ≡ head_rows (op_head op widths) inputs
  head_is joins (Source table columns) number = rows_are widths inputs ∙ sym (passed (all_rows inputs))
  head_is joins (Filter test) number = row_by_row (Filter test) refl refl number
  head_is joins (Project exprs) number = row_by_row (Project exprs) refl refl number
  head_is joins (Explode column separator) number = row_by_row (Explode column separator) refl refl number
  head_is joins Union number = row_by_row Union refl refl number
  head_is joins (Aggregate keys aggs) number = ap (aggregated keys aggs) (rows_at widths inputs 0)
  head_is joins Distinct number = ap one_of_each (rows_at widths inputs 0)
  head_is joins (Join join keys) number =
      let two = same_number (length inputs) 2 number in
      let bags = input_bags widths inputs in
      (λ i. joined keys (width_at widths inputs 0 (omega (arith, two)) i) (width_at widths inputs 1 (omega (arith, two)) i) (rows_at widths inputs 0 i) (rows_at widths inputs 1 i) join)
      ∙ sym (joins keys (get_or widths 0 0) (get_or widths 1 0) join (input_at inputs 0) (input_at inputs 1))
      ∙ ap (head_rows (join_head keys (get_or widths 0 0) (get_or widths 1 0) join)) (sym (two_inputs inputs two))
  head_is joins (Sink name) number =
      let one = one_input inputs (same_number (length inputs) 1 number) in
      rows_at widths inputs 0
      ∙ sym (append-nil (input_at inputs 0))
      ∙ ap all_rows (sym one)
      ∙ sym (passed (all_rows inputs))
