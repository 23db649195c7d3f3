-- The operators of a plan as heads, and its joins as links.
use Rattle.std.specs.Prelude.{ℕ, List, [], ◌∷◌, ◌++◌, map}
use Rattle.row_core.specs.Bags.{one_of_each}
use Rattle.row_core.specs.Values.{same_row}
use Rattle.plan_model.specs.Operators.{key_of, aggregated}
use Rattle.plan_model.specs.Joins.{matches, nulls, or_padded, if_matched, if_unmatched, joined}
use Rattle.plan_model.specs.declared.agg.Agg.{Agg}
use Rattle.plan_model.specs.declared.join_kind.JoinKind.{JoinKind}
use Rattle.plan_model.specs.declared.join_kind.JoinKind.TheVariants as kind
use Rattle.rect_cover.specs.declared.shape_kind.ShapeKind.{ShapeKind}
use Rattle.rect_cover.specs.declared.shape_kind.ShapeKind.TheVariants.{LeftDriven, RightDriven}
use Rattle.rect_cover.specs.declared.shape_kind.ShapeKind.TheVariants.{Inner, Full}
use Rattle.rect_cover.specs.Heads.{Gives}
use Rattle.rect_cover.specs.Vertices.{Head, by_key, by_left, by_right, by_pair, by_both}
use Rattle.rect_cover.specs.Vertices.{Link, widened}

-- rows with equal keys meet
abbrev pub aggregate_head : List ℕ → List Agg → Head
aggregate_head keys aggs =
    by_key (λ a b. same_row (key_of keys a) (key_of keys b)) (aggregated keys aggs)

-- equal rows meet
abbrev pub distinct_head : Head
distinct_head = by_key same_row one_of_each

-- a left row with its matches, or with Nulls in their place
abbrev pub left_gives : ℕ → Gives
left_gives right_width row matched =
    or_padded (row ++ nulls right_width) (map (λ other. row ++ other) matched)

-- a right row with its matches, or with Nulls in their place
abbrev pub right_gives : ℕ → Gives
right_gives left_width row matched =
    or_padded (nulls left_width ++ row) (map (λ other. other ++ row) matched)

-- a right row without a match, with Nulls for the left
abbrev pub right_alone : ℕ → Gives
right_alone left_width row matched = if_unmatched (nulls left_width ++ row) matched

abbrev pub join_head : List (ℕ × ℕ) → ℕ → ℕ → JoinKind → Head
join_head keys left_width right_width kind.Inner =
    by_pair (matches keys) (λ left right. left ++ right)
join_head keys left_width right_width kind.Left = by_left (matches keys) (left_gives right_width)
join_head keys left_width right_width kind.Right =
    by_right (matches keys) (right_gives left_width)
join_head keys left_width right_width kind.Full =
    by_both (matches keys) (left_gives right_width) (right_alone left_width)
join_head keys left_width right_width kind.Semi = by_left (matches keys) if_matched
join_head keys left_width right_width kind.Anti = by_left (matches keys) if_unmatched

-- what a cover of a join demands, by its kind
abbrev pub join_shape : JoinKind → ShapeKind
join_shape kind.Inner = Inner
join_shape kind.Right = RightDriven
join_shape kind.Full = Full
join_shape _ = LeftDriven

-- a join that is chained to its left side, which is its probe side
abbrev pub right_built : List (ℕ × ℕ) → ℕ → ℕ → JoinKind → Link
right_built keys left_width right_width kind =
    widened (λ build row. joined keys left_width right_width (row ∷ []) build kind)

-- a join that is chained to its right side, which is its probe side
abbrev pub left_built : List (ℕ × ℕ) → ℕ → ℕ → JoinKind → Link
left_built keys left_width right_width kind =
    widened (λ build row. joined keys left_width right_width build (row ∷ []) kind)
