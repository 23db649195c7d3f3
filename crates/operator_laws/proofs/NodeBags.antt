-- Equal bags of a node's inputs give equal bags of the node.
use Rattle.std.proofs.Common.{ℕ, suc, List, [], ◌∷◌, refl, subst}
use Rattle.std.specs.List.{flat_map}
use Rattle.row_core.specs.Bags.{SameBag}
use Rattle.bag_laws.specs.Rows.{OneRow as Row}
use Rattle.bag_laws.proofs.Laws.{same_refl, SameBag-append}
use Rattle.plan_model.specs.Joins.{joined}
use Rattle.plan_model.specs.Plans.{Bag, bag_at, bag_of, join_width}
use Rattle.plan_model.specs.declared.op.Op.{Op}
use Rattle.plan_model.specs.declared.op.Op.TheVariants.{Source, Filter, Project, Explode, Union, Aggregate, Distinct, Join, Sink}
use Rattle.plan_model.specs.Nodes.{Alike}
use Rattle.operator_laws.proofs.Unary.{applied_same}
use Rattle.operator_laws.proofs.Joins.{joined_same}

alike_itself : (bag : Bag) → Alike bag bag
alike_itself bag = record { width = refl; rows = same_refl bag.rows }

union_same : (inputs others : List Bag) → ((place : ℕ) → Alike (bag_at inputs place) (bag_at others place))
    → SameBag (flat_map (λ bag. bag.rows) inputs) (flat_map (λ bag. bag.rows) others)
union_same [] [] alike = same_refl []
union_same [] (other ∷ others) alike =
    SameBag-append [] [] other.rows (flat_map (λ bag. bag.rows) others) (alike 0).rows (union_same [] others (λ place. alike (suc place)))
union_same (bag ∷ inputs) [] alike =
    SameBag-append bag.rows (flat_map (λ bag. bag.rows) inputs) [] [] (alike 0).rows (union_same inputs [] (λ place. alike (suc place)))
union_same (bag ∷ inputs) (other ∷ others) alike =
    SameBag-append bag.rows (flat_map (λ bag. bag.rows) inputs) other.rows (flat_map (λ bag. bag.rows) others) (alike 0).rows
    (union_same inputs others (λ place. alike (suc place)))

pub bags_same : (files : List ℕ → List (List ℕ)) (op : Op) (inputs others : List Bag) → ((place : ℕ) → Alike (bag_at inputs place) (bag_at others place))
    → Alike (bag_of files op inputs) (bag_of files op others)
bags_same files (Source table columns) inputs others alike = alike_itself (bag_of files (Source table columns) inputs)
bags_same files (Filter test) inputs others alike = record { width = (alike 0).width; rows = applied_same (Filter test) (bag_at inputs 0).rows (bag_at others 0).rows (alike 0).rows }
bags_same files (Project exprs) inputs others alike = record { width = refl; rows = applied_same (Project exprs) (bag_at inputs 0).rows (bag_at others 0).rows (alike 0).rows }
bags_same files (Explode column separator) inputs others alike =
    record { width = (alike 0).width; rows = applied_same (Explode column separator) (bag_at inputs 0).rows (bag_at others 0).rows (alike 0).rows }
bags_same files Union inputs others alike = record { width = (alike 0).width; rows = union_same inputs others alike }
bags_same files (Aggregate keys aggs) inputs others alike = record { width = refl; rows = applied_same (Aggregate keys aggs) (bag_at inputs 0).rows (bag_at others 0).rows (alike 0).rows }
bags_same files Distinct inputs others alike = record { width = (alike 0).width; rows = applied_same Distinct (bag_at inputs 0).rows (bag_at others 0).rows (alike 0).rows }
bags_same files (Join kind keys) inputs others alike =
    let left = bag_at inputs 0 in
    let right = bag_at inputs 1 in
    let left' = bag_at others 0 in
    let right' = bag_at others 1 in
    record {
      width = λ i. join_width kind ((alike 0).width i) ((alike 1).width i);
      rows = subst (λ (rows : List Row). SameBag (joined keys left.width right.width left.rows right.rows kind) rows)
          (λ i. joined keys ((alike 0).width i) ((alike 1).width i) left'.rows right'.rows kind)
          (joined_same kind keys left.width right.width left.rows left'.rows right.rows right'.rows (alike 0).rows (alike 1).rows);
    }
bags_same files (Sink name) inputs others alike = alike 0
