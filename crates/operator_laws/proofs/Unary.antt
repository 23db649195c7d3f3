-- The unary operators go by bags, and some row by row.
use Rattle.std.proofs.Common.{◌≡◌, ℕ, List, [], ◌∷◌, ◌++◌, length, map, get_or, IsTrue, refl, sym, ◌∙◌, ap, arith, eqb-true}
use Rattle.std.proofs.lemmas.List.{map-append, append-nil}
use Rattle.std.proofs.lemmas.List.Elements.{filter-append}
use Rattle.std.proofs.lemmas.List.Concat.{flat_map-append}
use Rattle.std.specs.List.{flat_map}
use Rattle.std.specs.Prelude.{nat_eq}
use Rattle.row_core.specs.Bags.{SameBag}
use Rattle.row_core.specs.Exprs.{value_at, truth_of, is_yes}
use Rattle.row_core.specs.Values.{text_of}
use Rattle.row_core.specs.declared.value.Value.TheVariants.{Null}
use Rattle.bag_laws.specs.Rows.{OneRow as Row}
use Rattle.bag_laws.proofs.Laws.{SameBag-filter, SameBag-map, SameBag-flat_map, SameBag-one_of_each}
use Rattle.plan_model.specs.Checks.{takes}
use Rattle.plan_model.specs.Operators.{with_pieces}
use Rattle.plan_model.specs.Plans.{Bag, bag_of, bag_at}
use Rattle.plan_model.specs.declared.op.Op.{Op}
use Rattle.plan_model.specs.declared.op.Op.TheVariants.{Source, Filter, Project, Explode, Union, Aggregate, Distinct, Join, Sink}
use Rattle.operator_laws.specs.Applied.{applied}
use Rattle.plan_model.specs.Operators.{is_unary, is_row_wise}
use Rattle.operator_laws.proofs.Aggregates.{aggregated_keyed}

pub applied_same : (op : Op) (rows others : List Row) → SameBag rows others → SameBag (applied op rows) (applied op others)
applied_same (Source table columns) rows others same = same
applied_same (Filter test) rows others same = SameBag-filter (λ row. is_yes (truth_of row test)) rows others same
applied_same (Project exprs) rows others same = SameBag-map (λ row. map (value_at row) exprs) rows others same
applied_same (Explode column separator) rows others same = SameBag-flat_map (λ row. with_pieces column separator row (text_of (get_or row column Null))) rows others same
applied_same Union rows others same = same
applied_same (Aggregate keys aggs) rows others same = (aggregated_keyed keys aggs).same rows others same
applied_same Distinct rows others same = SameBag-one_of_each rows others same
applied_same (Join kind keys) rows others same = same
applied_same (Sink name) rows others same = same

pub row_sum : (op : Op) (rows others : List Row) → IsTrue (is_row_wise op) → applied op (rows ++ others) ≡ applied op rows ++ applied op others
row_sum (Source table columns) rows others holds = cc
row_sum (Filter test) rows others holds = filter-append (λ row. is_yes (truth_of row test)) rows others
row_sum (Project exprs) rows others holds = map-append (λ (row : Row). map (value_at row) exprs) rows others
row_sum (Explode column separator) rows others holds = flat_map-append (λ row. with_pieces column separator row (text_of (get_or row column Null))) rows others
row_sum Union rows others holds = refl
row_sum (Aggregate keys aggs) rows others holds = cc
row_sum Distinct rows others holds = cc
row_sum (Join kind keys) rows others holds = cc
row_sum (Sink name) rows others holds = cc

none : (op : Op) → IsTrue (is_row_wise op) → applied op [] ≡ []
none (Source table columns) holds = refl
none (Filter test) holds = refl
none (Project exprs) holds = refl
none (Explode column separator) holds = refl
none Union holds = refl
none (Aggregate keys aggs) holds = refl
none Distinct holds = refl
none (Join kind keys) holds = refl
none (Sink name) holds = refl

pub row_each : (op : Op) (rows : List Row) → IsTrue (is_row_wise op) → applied op rows ≡ flat_map (λ row. applied op (row ∷ [])) rows
row_each op [] holds = none op holds
row_each op (row ∷ rows) holds = row_sum op (row ∷ []) rows holds ∙ ap (λ (more : List Row). applied op (row ∷ []) ++ more) (row_each op rows holds)

-- an operator with one input
one : (f : List Row → List Row) (inputs : List Bag) → length inputs ≡ 1 → f (bag_at inputs 0).rows ≡ f (flat_map (λ bag. bag.rows) inputs)
one f [] is = absurd (omega arith)
one f (bag ∷ []) is = ap f (sym (append-nil bag.rows))
one f (bag ∷ other ∷ inputs) is = absurd (omega arith)

one_input : (inputs : List Bag) → IsTrue (nat_eq (length inputs) 1) → length inputs ≡ 1
one_input inputs holds = eqb-true (length inputs) 1 holds

pub node_applies : (files : List ℕ → List (List ℕ)) (op : Op) (inputs : List Bag) → IsTrue (is_unary op) → IsTrue (takes op (length inputs))
    → (bag_of files op inputs).rows ≡ applied op (flat_map (λ bag. bag.rows) inputs)
node_applies files (Source table columns) inputs holds takes = cc
node_applies files (Filter test) inputs holds takes = one (applied (Filter test)) inputs (one_input inputs takes)
node_applies files (Project exprs) inputs holds takes = one (applied (Project exprs)) inputs (one_input inputs takes)
node_applies files (Explode column separator) inputs holds takes = one (applied (Explode column separator)) inputs (one_input inputs takes)
node_applies files Union inputs holds takes = refl
node_applies files (Aggregate keys aggs) inputs holds takes = one (applied (Aggregate keys aggs)) inputs (one_input inputs takes)
node_applies files Distinct inputs holds takes = one (applied Distinct) inputs (one_input inputs takes)
node_applies files (Join kind keys) inputs holds takes = cc
node_applies files (Sink name) inputs holds takes = cc
