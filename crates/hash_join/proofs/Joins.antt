-- Joins as what the rows of one side give with their matches on the other.
use Rattle.std.proofs.Common.{◌≡◌, ℕ, Bool, true, false, List, [], ◌∷◌, ◌++◌, map, IsTrue, refl, sym, ap, subst, ◌∙◌, if◌then◌else◌}
use Rattle.std.specs.Prelude.{filter}
use Rattle.std.specs.List.{flat_map}
use Rattle.row_core.specs.Bags.{SameBag}
use Rattle.bag_laws.specs.Rows.{OneRow as Row}
use Rattle.bag_laws.proofs.Laws.{same_refl}
use Rattle.operator_laws.proofs.Laws.{right_each}
use Rattle.plan_model.specs.Joins.{joined, matches}
use Rattle.plan_model.specs.Operators.{repeats_left, repeats_right}
use Rattle.plan_model.specs.declared.join_kind.JoinKind.{JoinKind}
use Rattle.plan_model.specs.declared.join_kind.JoinKind.TheVariants as kind
use Rattle.plan_model.specs.declared.side.Side.TheVariants.{Left, Right}
use Rattle.hash_join.specs.Keys.{columns_on}
use Rattle.hash_join.specs.Rules.{gives, probed, rule_of}
use Rattle.hash_join.specs.declared.rules.Rule.{Rule}
use Rattle.hash_join.specs.declared.rules.Rule.TheVariants.{Pairs, PairsOrPadded, PaddedIfUnmatched, RowIfMatched, RowIfUnmatched}
use Rattle.hash_join.proofs.Matching.{left_matches, right_matches}

-- what left rows give, by the join's own test
by_left : (rule : Rule) (keys : List (ℕ × ℕ)) (width : ℕ) (left right : List Row)
    → flat_map (λ row. gives rule Left width row (filter (λ other. matches keys row other) right)) left ≡ probed rule Left width (columns_on Left keys) (columns_on Right keys) right left
by_left rule keys width left right = sym (λ i. flat_map (λ row. gives rule Left width row (filter (λ other. left_matches keys row other i) right)) left)

by_right : (rule : Rule) (keys : List (ℕ × ℕ)) (width : ℕ) (left right : List Row)
    → flat_map (λ row. gives rule Right width row (filter (λ other. matches keys other row) left)) right ≡ probed rule Right width (columns_on Right keys) (columns_on Left keys) left right
by_right rule keys width left right = sym (λ i. flat_map (λ row. gives rule Right width row (filter (λ other. right_matches keys row other i) left)) right)

pub left_probed : (join : JoinKind) (keys : List (ℕ × ℕ)) (lw rw : ℕ) (left right : List Row) → IsTrue (repeats_right join)
    → joined keys lw rw left right join ≡ probed (rule_of join Left) Left rw (columns_on Left keys) (columns_on Right keys) right left
left_probed kind.Inner keys lw rw left right repeats = by_left Pairs keys rw left right
left_probed kind.Left keys lw rw left right repeats = by_left PairsOrPadded keys rw left right
left_probed kind.Right keys lw rw left right repeats = cc
left_probed kind.Full keys lw rw left right repeats = cc
left_probed kind.Semi keys lw rw left right repeats = by_left RowIfMatched keys rw left right
left_probed kind.Anti keys lw rw left right repeats = by_left RowIfUnmatched keys rw left right

-- the inner join of one right row, found from the right
from_right : (keys : List (ℕ × ℕ)) (row : Row) (left : List Row)
    → flat_map (λ first. map (λ other. first ++ other) (filter (λ other. matches keys first other) (row ∷ []))) left ≡ map (λ other. other ++ row) (filter (λ other. matches keys other row) left)
from_right keys row [] = refl
from_right keys row (first ∷ left) = by (matches keys first row) (from_right keys row left)
  where
    by : (b : Bool) → flat_map (λ first. map (λ other. first ++ other) (filter (λ other. matches keys first other) (row ∷ []))) left ≡ map (λ other. other ++ row) (filter (λ other. matches keys other row) left)
        → map (λ other. first ++ other) (if b then row ∷ [] else []) ++ flat_map (λ first. map (λ other. first ++ other) (filter (λ other. matches keys first other) (row ∷ []))) left
        ≡ map (λ other. other ++ row) (if b then first ∷ filter (λ other. matches keys other row) left else filter (λ other. matches keys other row) left)
    by true rest = ap (λ (l : List Row). (first ++ row) ∷ l) rest
    by false rest = rest

pub right_probed : (join : JoinKind) (keys : List (ℕ × ℕ)) (lw rw : ℕ) (left right : List Row) → IsTrue (repeats_left join)
    → SameBag (joined keys lw rw left right join) (probed (rule_of join Right) Right lw (columns_on Right keys) (columns_on Left keys) left right)
right_probed kind.Inner keys lw rw left right repeats =
    subst (λ (rows : List Row). SameBag (joined keys lw rw left right kind.Inner) rows)
    ((λ i. flat_map (λ row. from_right keys row left i) right) ∙ by_right Pairs keys lw left right)
    (right_each kind.Inner keys lw rw left right repeats)
right_probed kind.Left keys lw rw left right repeats = cc
right_probed kind.Right keys lw rw left right repeats =
    subst (λ (rows : List Row). SameBag (joined keys lw rw left right kind.Right) rows) (by_right PairsOrPadded keys lw left right) (same_refl (joined keys lw rw left right kind.Right))
right_probed kind.Full keys lw rw left right repeats = cc
right_probed kind.Semi keys lw rw left right repeats = cc
right_probed kind.Anti keys lw rw left right repeats = cc

pub full_probed : (keys : List (ℕ × ℕ)) (lw rw : ℕ) (left right : List Row)
    → joined keys lw rw left right kind.Full
    ≡ probed (rule_of kind.Full Left) Left rw (columns_on Left keys) (columns_on Right keys) right left ++ probed (rule_of kind.Full Right) Right lw (columns_on Right keys) (columns_on Left keys) left right
full_probed keys lw rw left right = λ i. by_left PairsOrPadded keys rw left right i ++ by_right PaddedIfUnmatched keys lw left right i
