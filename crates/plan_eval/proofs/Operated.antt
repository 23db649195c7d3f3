-- What an operator gives on the rows of its inputs is the definition's bag.
use Rattle.std.proofs.Common.{◌≡◌, ℕ, true, List, [], ◌∷◌, length, get_or, All, IsTrue, refl, sym, subst, ◌∙◌, ap, arith, eqb-true}
use Rattle.std.proofs.lemmas.List.{append-nil}
use Rattle.row_core.specs.Bags.{SameBag}
use Rattle.row_core.specs.declared.bytes.Bytes.{Bytes}
use Rattle.bag_laws.specs.Rows.{OneRow as Row}
use Rattle.operator_laws.proofs.Laws.{node_applies}
use Rattle.operator_laws.specs.Applied.{applied}
use Rattle.plan_model.proofs.Laws.{wide_at}
use Rattle.plan_model.specs.Checks.{takes, columns_fit}
use Rattle.plan_model.specs.Nodes.{IsGood}
use Rattle.plan_model.specs.Operators.{is_unary}
use Rattle.plan_model.specs.Plans.{Bag}
use Rattle.plan_model.specs.Widths.{width_of}
use Rattle.plan_model.specs.declared.join_kind.JoinKind.{JoinKind}
use Rattle.plan_model.specs.declared.key_pairs.KeyPairs.{KeyPairs}
use Rattle.plan_model.specs.declared.schema.Schema.{Schema}
use Rattle.plan_model.specs.declared.op.Op.{Op}
use Rattle.plan_model.specs.declared.op.Op.TheVariants.{Source, Filter, Project, Explode, Union, Aggregate, Distinct, Join, Sink}
use Rattle.plan_eval.specs.Evaluated.{IsOutput, bag_with}

-- a good operator finds its columns in each row of its input
pub columns_found : (op : Op) (bag : Bag) → IsGood op (bag ∷ []) → All (λ row. IsTrue (columns_fit op (length row ∷ []))) bag.rows
columns_found op bag good k d lt = ap (λ (n : ℕ). columns_fit op (n ∷ [])) (wide_at (bag ∷ []) good.fit 0 k d lt) ∙ good.columns

-- rows that an operator on one input gives
pub output_of : (files : List ℕ → List (List ℕ)) (op : Op) (bag : Bag) (width : ℕ) (rows : List Row) → is_unary op ≡ true → IsGood op (bag ∷ []) → width ≡ width_of op (bag.width ∷ [])
    → SameBag rows (applied op bag.rows) → IsOutput files op (bag ∷ []) (bag_with width rows)
output_of files op bag width rows one good wide same = record {
  width = wide;
  rows = λ gives. subst (λ (all : List Row). SameBag rows all)
      (ap (applied op) (sym (append-nil bag.rows)) ∙ sym (node_applies files op (bag ∷ []) one good.number)) same;
}

-- what is neither a source, nor a join, nor a sink
pub unary_else : (op : Op) → ((table : Bytes) (columns : Schema) → op ≡ Source table columns → ⊥) → ((kind : JoinKind) (keys : KeyPairs) → op ≡ Join kind keys → ⊥)
    → ((name : Bytes) → op ≡ Sink name → ⊥) → is_unary op ≡ true
unary_else (Source table columns) source join sink = absurd (source table columns refl)
unary_else (Filter test) source join sink = refl
unary_else (Project exprs) source join sink = refl
unary_else (Explode column separator) source join sink = refl
unary_else Union source join sink = refl
unary_else (Aggregate keys aggs) source join sink = refl
unary_else Distinct source join sink = refl
unary_else (Join kind keys) source join sink = absurd (join kind keys refl)
unary_else (Sink name) source join sink = absurd (sink name refl)

-- ---- the inputs of an operator

pub one_input : (inputs : List ℕ) → length inputs ≡ 1 → get_or inputs 0 0 ∷ [] ≡ inputs
one_input [] long = absurd (omega (arith, long))
one_input (x ∷ []) long = refl
one_input (x ∷ y ∷ rest) long = absurd (omega (arith, long))

pub two_inputs : (inputs : List ℕ) → length inputs ≡ 2 → get_or inputs 0 0 ∷ get_or inputs 1 0 ∷ [] ≡ inputs
two_inputs [] long = absurd (omega (arith, long))
two_inputs (x ∷ []) long = absurd (omega (arith, long))
two_inputs (x ∷ y ∷ []) long = refl
two_inputs (x ∷ y ∷ z ∷ rest) long = absurd (omega (arith, long))

-- all but sources, unions and joins take one input
pub takes_one_else : (op : Op) (n : ℕ) → ((table : Bytes) (columns : Schema) → op ≡ Source table columns → ⊥) → (op ≡ Union → ⊥)
    → ((kind : JoinKind) (keys : KeyPairs) → op ≡ Join kind keys → ⊥) → IsTrue (takes op n) → n ≡ 1
takes_one_else (Source table columns) n source union join takes = absurd (source table columns refl)
takes_one_else (Filter test) n source union join takes = eqb-true n 1 takes
takes_one_else (Project exprs) n source union join takes = eqb-true n 1 takes
takes_one_else (Explode column separator) n source union join takes = eqb-true n 1 takes
takes_one_else Union n source union join takes = absurd (union refl)
takes_one_else (Aggregate keys aggs) n source union join takes = eqb-true n 1 takes
takes_one_else Distinct n source union join takes = eqb-true n 1 takes
takes_one_else (Join kind keys) n source union join takes = absurd (join kind keys refl)
takes_one_else (Sink name) n source union join takes = eqb-true n 1 takes
