-- Bags that are alike, and what operators give on them.
use Rattle.std.proofs.Common.{◌≡◌, ℕ, zero, suc, ◌≤◌, true, false, All, IsTrue, List, [], ◌∷◌, length, refl, sym, ◌∙◌, ap, subst}
use Rattle.std.specs.List.{AllByRecursion}
use Rattle.std.proofs.lemmas.Bool.{false≢true}
use Rattle.std.proofs.lemmas.List.{append-nil, length-map}
use Rattle.std.proofs.lemmas.List.Elements.{All-nil, All-cons}
use Rattle.std.proofs.lemmas.List.Sorted.{All-permutation}
use Rattle.row_core.specs.Bags.{SameBag}
use Rattle.row_core.specs.Encoding.{ValueFits}
use Rattle.bag_laws.specs.Rows.{OneRow as Row}
use Rattle.bag_laws.proofs.Laws.{permutation_of_same, same_on, same_refl, same_sym}
use Rattle.operator_laws.specs.Applied.{applied}
use Rattle.operator_laws.specs.Texts.{ConstantsFit, ValuesFit}
use Rattle.operator_laws.proofs.Laws.{node_applies, node_fits}
use Rattle.plan_model.specs.Checks.{columns_fit, takes, widths_agree}
use Rattle.plan_model.specs.Nodes.{Alike, HasItsWidth, IsGood, bag_widths}
use Rattle.plan_model.specs.Operators.{is_sink, is_unary}
use Rattle.plan_model.specs.Plans.{Bag, bag_at, bag_of, empty_bag}
use Rattle.plan_model.specs.Widths.{width_of}
use Rattle.plan_model.specs.declared.op.Op.{Op}
use Rattle.plan_model.specs.declared.op.Op.TheVariants.{Source, Filter, Project, Explode, Union, Aggregate, Distinct, Join, Sink}
use Rattle.plan_model.proofs.Laws.{bag_wide, bag_width}
use Rattle.vertex_laws.specs.VertexRows.{no_files}
use Rattle.task_body.specs.Plans.{IsEncodable}

-- ---- an equivalence

pub alike_itself : (bag : Bag) → Alike bag bag
alike_itself bag = record { width = refl; rows = same_refl bag.rows }

pub alike_on : (a b c : Bag) → Alike a b → Alike b c → Alike a c
alike_on a b c ab bc = record { width = ab.width ∙ bc.width; rows = same_on ab.rows bc.rows }

pub alike_back : (a b : Bag) → Alike a b → Alike b a
alike_back a b ab = record { width = sym ab.width; rows = same_sym ab.rows }

-- of one bag and of two, place by place
pub one_alike : (a c : Bag) → Alike a c → (place : ℕ) → Alike (bag_at (a ∷ []) place) (bag_at (c ∷ []) place)
one_alike a c one zero = one
one_alike a c one (suc place) = alike_itself empty_bag

pub two_alike : (a b c d : Bag) → Alike a c → Alike b d → (place : ℕ) → Alike (bag_at (a ∷ b ∷ []) place) (bag_at (c ∷ d ∷ []) place)
two_alike a b c d one two zero = one
two_alike a b c d one two (suc zero) = two
two_alike a b c d one two (suc (suc place)) = alike_itself empty_bag

-- ---- what holds of each row

all_same : (P : Row → Type 0) (xs ys : List Row) → SameBag xs ys → All P xs → All P ys
all_same P xs ys same all = All-permutation P xs ys (permutation_of_same xs ys same) all

pub encodable_alike : (a b : Bag) → Alike a b → IsEncodable a → IsEncodable b
encodable_alike a b ab fit = record {
  narrow = subst (λ (n : ℕ). n ≤ 256) ab.width fit.narrow;
  wide = subst (λ (n : ℕ). All (λ row. length row ≡ n) b.rows) ab.width (all_same (λ row. length row ≡ a.width) a.rows b.rows ab.rows fit.wide);
  fit = all_same (λ row. AllByRecursion ValueFits row) a.rows b.rows ab.rows fit.fit;
}

-- ---- good operators

-- an operator is good on bags of the same widths
pub good_again : (op : Op) (inputs others : List Bag) → IsGood op inputs → bag_widths others ≡ bag_widths inputs → All HasItsWidth others → IsGood op others
good_again op inputs others good same wide = record {
  number = subst (λ (n : ℕ). IsTrue (takes op n)) (sym (length-map inputs (λ (bag : Bag). bag.width)) ∙ ap length (sym same) ∙ length-map others (λ (bag : Bag). bag.width)) good.number;
  columns = subst (λ (ws : List ℕ). IsTrue (columns_fit op ws)) (sym same) good.columns;
  agree = subst (λ (ws : List ℕ). IsTrue (widths_agree op ws)) (sym same) good.agree;
  narrow = subst (λ (ws : List ℕ). All (λ width. width ≤ 256) ws) (sym same) good.narrow;
  wide = subst (λ (ws : List ℕ). width_of op ws ≤ 256) (sym same) good.wide;
  fit = wide;
}

pub one_good : (op : Op) (a c : Bag) → IsGood op (a ∷ []) → Alike c a → IsEncodable c → IsGood op (c ∷ [])
one_good op a c good same fit =
    good_again op (a ∷ []) (c ∷ []) good (ap (λ (n : ℕ). n ∷ []) same.width) (All-cons HasItsWidth c [] fit.wide (All-nil HasItsWidth))

pub two_good : (op : Op) (a b c d : Bag) → IsGood op (a ∷ b ∷ []) → Alike c a → Alike d b → IsEncodable c → IsEncodable d → IsGood op (c ∷ d ∷ [])
two_good op a b c d good one two first second =
    good_again op (a ∷ b ∷ []) (c ∷ d ∷ []) good (λ i. one.width i ∷ two.width i ∷ [])
    (All-cons HasItsWidth c (d ∷ []) first.wide (All-cons HasItsWidth d [] second.wide (All-nil HasItsWidth)))

-- what a good operator gives of rows that can be encoded can be encoded
pub given_fits : (op : Op) (inputs : List Bag) (given : Bag) → IsGood op inputs → ConstantsFit op → All (λ bag. ValuesFit bag.rows) inputs → Alike given (bag_of no_files op inputs) → IsEncodable given
given_fits op inputs given good constants fit same =
    let bag = bag_of no_files op inputs in
    encodable_alike bag given (alike_back given bag same) (record {
      narrow = subst (λ (n : ℕ). n ≤ 256) (sym (bag_width no_files op inputs)) good.wide;
      wide = bag_wide no_files op inputs good;
      fit = node_fits no_files op inputs constants fit;
    })

pub one_fits : (batch : Bag) → IsEncodable batch → All (λ (bag : Bag). ValuesFit bag.rows) (batch ∷ [])
one_fits batch fit = All-cons (λ (bag : Bag). ValuesFit bag.rows) batch [] fit.fit (All-nil (λ (bag : Bag). ValuesFit bag.rows))

pub two_fit : (left right : Bag) → IsEncodable left → IsEncodable right → All (λ (bag : Bag). ValuesFit bag.rows) (left ∷ right ∷ [])
two_fit left right first second = All-cons (λ (bag : Bag). ValuesFit bag.rows) left (right ∷ []) first.fit (one_fits right second)

-- ---- operators on one input

pub unary_of : (op : Op) → takes op 1 ≡ true → is_sink op ≡ false → is_unary op ≡ true
unary_of (Source table columns) one other = absurd (false≢true one)
unary_of (Filter test) one other = refl
unary_of (Project exprs) one other = refl
unary_of (Explode column separator) one other = refl
unary_of Union one other = absurd (false≢true one)
unary_of (Aggregate keys aggs) one other = refl
unary_of Distinct one other = refl
unary_of (Join kind keys) one other = absurd (false≢true one)
unary_of (Sink name) one other = absurd (false≢true (sym other))

pub sink_alike : (op : Op) (batch : Bag) → is_sink op ≡ true → Alike batch (bag_of no_files op (batch ∷ []))
sink_alike (Source table columns) batch is = absurd (false≢true is)
sink_alike (Filter test) batch is = absurd (false≢true is)
sink_alike (Project exprs) batch is = absurd (false≢true is)
sink_alike (Explode column separator) batch is = absurd (false≢true is)
sink_alike Union batch is = absurd (false≢true is)
sink_alike (Aggregate keys aggs) batch is = absurd (false≢true is)
sink_alike Distinct batch is = absurd (false≢true is)
sink_alike (Join kind keys) batch is = absurd (false≢true is)
sink_alike (Sink name) batch is = alike_itself batch

pub applied_alike : (op : Op) (batch : Bag) (width : ℕ) (rows : List Row) → IsGood op (batch ∷ []) → is_unary op ≡ true → width ≡ width_of op (batch.width ∷ []) → SameBag rows (applied op batch.rows)
    → Alike (record { width = width; rows = rows }) (bag_of no_files op (batch ∷ []))
applied_alike op batch width rows good one wide same = record {
  width = wide ∙ sym (bag_width no_files op (batch ∷ []));
  rows = subst (λ (all : List Row). SameBag rows all)
      (ap (applied op) (sym (append-nil batch.rows)) ∙ sym (node_applies no_files op (batch ∷ []) one good.number)) same;
}

-- it finds its columns in each row
pub columns_found : (op : Op) (batch : Bag) → IsGood op (batch ∷ []) → HasItsWidth batch → All (λ row. IsTrue (columns_fit op (length row ∷ []))) batch.rows
columns_found op batch good wide k d lt = ap (λ (n : ℕ). columns_fit op (n ∷ [])) (wide k d lt) ∙ good.columns
