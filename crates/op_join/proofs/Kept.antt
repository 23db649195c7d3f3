-- What a row gives goes by the bag of its matches.
use Rattle.std.proofs.Common.{◌≡◌, ℕ, Bool, List, [], ◌∷◌, ◌++◌, map, refl, sym, subst, ap, ◌∙◌, append_assoc}
use Rattle.std.proofs.lemmas.List.Elements.{filter_agree}
use Rattle.std.specs.List.{filter, flat_map}
use Rattle.row_core.specs.Bags.{SameBag}
use Rattle.bag_laws.proofs.Laws.{same_refl, same_flat_map}
use Rattle.bag_laws.proofs.Laws.{SameBag-filter, SameBag-map}
use Rattle.bag_laws.specs.Rows.{OneRow as Row}
use Rattle.plan_model.specs.Joins.{nulls}
use Rattle.operator_laws.proofs.Laws.{padded_same, matched_same, unmatched_same}
use Rattle.op_join.specs.Keys.{keys_match}
use Rattle.op_join.specs.Sides.{output, outputs}
use Rattle.op_join.specs.declared.rule.Rule.{Rule}
use Rattle.op_join.specs.declared.rule.Rule.TheVariants.{Pairs, PairsOrPadded, MirroredOrPadded, PaddedIfUnmatched, RowIfMatched, RowIfUnmatched}

pub output_same : (rule : Rule) (padding : Row) (row : Row) (xs ys : List Row) → SameBag xs ys → SameBag (output rule padding row xs) (output rule padding row ys)
output_same Pairs padding row xs ys same = SameBag-map (λ other. row ++ other) xs ys same
output_same PairsOrPadded padding row xs ys same =
    padded_same (row ++ padding) (map (λ other. row ++ other) xs) (map (λ other. row ++ other) ys) (SameBag-map (λ other. row ++ other) xs ys same)
output_same MirroredOrPadded padding row xs ys same =
    padded_same (padding ++ row) (map (λ other. other ++ row) xs) (map (λ other. other ++ row) ys) (SameBag-map (λ other. other ++ row) xs ys same)
output_same PaddedIfUnmatched padding row xs ys same = unmatched_same (padding ++ row) xs ys same
output_same RowIfMatched padding row xs ys same = matched_same row xs ys same
output_same RowIfUnmatched padding row xs ys same = unmatched_same row xs ys same

pub outputs_same : (rule : Rule) (padding : Row) (test : Row → Row → Bool) (rows rows' others others' : List Row) → SameBag rows rows' → SameBag others others'
    → SameBag (outputs rule padding test rows others) (outputs rule padding test rows' others')
outputs_same rule padding test rows rows' others others' same same' =
    same_flat_map (λ row. output rule padding row (filter (test row) others)) (λ row. output rule padding row (filter (test row) others')) rows rows'
    (λ row. output_same rule padding row (filter (test row) others) (filter (test row) others') (SameBag-filter (test row) others others' same')) same

pub outputs_agree : (rule : Rule) (padding : Row) (test also : Row → Row → Bool) → ((row other : Row) → test row other ≡ also row other) → (rows others : List Row)
    → outputs rule padding test rows others ≡ outputs rule padding also rows others
outputs_agree rule padding test also agree [] others = refl
outputs_agree rule padding test also agree (row ∷ rows) others =
    λ i. output rule padding row (filter_agree (test row) (also row) (agree row) others i) ++ outputs_agree rule padding test also agree rows others i

-- what a probe gives is what the join gives, where its rows are the other side's in some order
module _ (rule : Rule) (padding : Row) (width : ℕ) (padded : padding ≡ nulls width) (columns others columns' others' : List ℕ) (own : columns ≡ columns') (its : others ≡ others')
    (test : Row → Row → Bool) (agree : (row other : Row) → keys_match columns' others' row other ≡ test row other) (sorted other_rows : List Row) (same : SameBag sorted other_rows) where
  pub probed : (rows : List Row) → SameBag (outputs rule padding (keys_match columns others) rows sorted) (outputs rule (nulls width) test rows other_rows)
  probed rows =
      subst (λ (made : List Row). SameBag made (outputs rule (nulls width) test rows other_rows))
      (sym ((λ i. outputs rule (padded i) (keys_match (own i) (its i)) rows sorted) ∙ outputs_agree rule (nulls width) (keys_match columns' others') test agree rows sorted))
      (outputs_same rule (nulls width) test rows rows sorted other_rows (same_refl rows) same)

-- what the rows give of which one more was moved
pub outputs_more : (f : Row → List Row) (made made' : List Row) (row : Row) (rows rest : List Row) → rows ≡ row ∷ rest → made' ≡ made ++ f row
    → made' ++ flat_map f rest ≡ made ++ flat_map f rows
outputs_more f made made' row rows rest steps now =
    ap (λ (m : List Row). m ++ flat_map f rest) now ∙ append_assoc made (f row) (flat_map f rest) ∙ ap (λ (l : List Row). made ++ flat_map f l) (sym steps)
