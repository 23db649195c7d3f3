-- Equal bags have the same lines.
use Rattle.std.proofs.Common.{◌≡◌, ℕ, suc, true, List, [], ◌∷◌, ◌++◌, length, map, refl, sym, ◌∙◌, ap, cond, arith}
use Rattle.std.proofs.lemmas.List.Sorted.{IsPermutation-map, sum_by-IsPermutation}
use Rattle.std.specs.Prelude.{codes}
use Rattle.std.specs.Cmp.Lexicographic.{slice_cmp}
use Rattle.std.specs.List.{flat_map}
use Rattle.std.specs.List.Sorted.{IsPermutation}
use Rattle.std.specs.Ordering.{is_eq, nat_cmp}
use Rattle.row_core.specs.Bags.{SameBag, ascending}
use Rattle.bag_laws.proofs.Laws.{bytes_strict, permutation_of_same, ascending-same, count_is}
use Rattle.bag_laws.specs.Rows.{OneRow as Row}
use Rattle.plan_model.specs.Checks.{is_sink}
use Rattle.plan_model.specs.Plans.{Bag, bag_at, sink_section, sink_sections}
use Rattle.plan_model.specs.Sinks.{line_less, line_of, sorted_lines}
use Rattle.plan_model.specs.declared.node.Node.{Node}
use Rattle.plan_model.specs.declared.op.Op.{Op}
use Rattle.plan_model.specs.declared.op.Op.TheVariants.{Source, Filter, Project, Explode, Union, Aggregate, Distinct, Join, Sink}
use Rattle.plan_model.specs.Nodes.{sink_at}

ascending_moved : (lines others : List (List ℕ)) → IsPermutation lines others → ascending line_less lines ≡ ascending line_less others
ascending_moved lines others moved = ascending-same line_less (λ a b. is_eq (slice_cmp nat_cmp a b)) bytes_strict lines others
    (λ line. sym (count_is line_less (λ a b. is_eq (slice_cmp nat_cmp a b)) bytes_strict line lines)
    ∙ sym (sum_by-IsPermutation (λ other. cond {A = ℕ} (is_eq (slice_cmp nat_cmp line other)) 1 0) lines others moved)
    ∙ count_is line_less (λ a b. is_eq (slice_cmp nat_cmp a b)) bytes_strict line others)

pub lines_same : (rows others : List Row) → SameBag rows others → sorted_lines rows ≡ sorted_lines others
lines_same rows others same =
    ap (λ (lines : List (List ℕ)). flat_map (λ line. line) lines)
    (ascending_moved (map line_of rows) (map line_of others) (IsPermutation-map line_of rows others (permutation_of_same rows others same)))

pub section_same : (op : Op) (bag other : Bag) → SameBag bag.rows other.rows → sink_section op bag ≡ sink_section op other
section_same (Source table columns) bag other same = refl
section_same (Filter test) bag other same = refl
section_same (Project exprs) bag other same = refl
section_same (Explode column separator) bag other same = refl
section_same Union bag other same = refl
section_same (Aggregate keys aggs) bag other same = refl
section_same Distinct bag other same = refl
section_same (Join kind keys) bag other same = refl
section_same (Sink name) bag other same = ap (λ (lines : List ℕ). codes "sink " ++ name ++ (10 ∷ lines)) (lines_same bag.rows other.rows same)

section_if : (op : Op) (bag other : Bag) → (is_sink op ≡ true → SameBag bag.rows other.rows) → sink_section op bag ≡ sink_section op other
section_if (Source table columns) bag other same = refl
section_if (Filter test) bag other same = refl
section_if (Project exprs) bag other same = refl
section_if (Explode column separator) bag other same = refl
section_if Union bag other same = refl
section_if (Aggregate keys aggs) bag other same = refl
section_if Distinct bag other same = refl
section_if (Join kind keys) bag other same = refl
section_if (Sink name) bag other same = section_same (Sink name) bag other (same refl)

pub texts_same : (nodes : List Node) (bags others : List Bag) → length bags ≡ length others
    → ((place : ℕ) → sink_at nodes place ≡ true → SameBag (bag_at bags place).rows (bag_at others place).rows)
    → sink_sections nodes bags ≡ sink_sections nodes others
texts_same [] bags others long same = refl
texts_same (node ∷ nodes) [] [] long same = refl
texts_same (node ∷ nodes) [] (other ∷ others) long same = absurd (omega arith)
texts_same (node ∷ nodes) (bag ∷ bags) [] long same = absurd (omega arith)
texts_same (node ∷ nodes) (bag ∷ bags) (other ∷ others) long same =
    λ i. section_if node.op bag other (same 0) i ++ texts_same nodes bags others (omega (arith, long)) (λ place. same (suc place)) i
