-- A join's head gives what the join means, and goes by the bags of its sides.
use Rattle.std.proofs.Common.{◌≡◌, ℕ, List, [], ◌∷◌, ◌++◌, map, refl}
use Rattle.bag_laws.specs.Rows.{OneRow as Row}
use Rattle.bag_laws.proofs.Laws.{SameBag-map}
use Rattle.operator_laws.proofs.Laws.{padded_same, matched_same, unmatched_same}
use Rattle.plan_model.specs.Joins.{nulls, joined}
use Rattle.plan_model.specs.declared.join_kind.JoinKind.{JoinKind}
use Rattle.plan_model.specs.declared.join_kind.JoinKind.TheVariants as kind
use Rattle.rect_cover.specs.Heads.{GivesBags}
use Rattle.rect_cover.specs.Operators.{left_gives, right_gives, join_head}
use Rattle.rect_cover.specs.Vertices.{GoesByBags, head_rows}

left_gives-bags : (right_width : ℕ) → GivesBags (left_gives right_width)
left_gives-bags right_width = record {
  same = λ row matched others same.
      padded_same (row ++ nulls right_width) (map (λ other. row ++ other) matched) (map (λ other. row ++ other) others) (SameBag-map (λ other. row ++ other) matched others same);
}

right_gives-bags : (left_width : ℕ) → GivesBags (right_gives left_width)
right_gives-bags left_width = record {
  same = λ row matched others same.
      padded_same (nulls left_width ++ row) (map (λ other. other ++ row) matched) (map (λ other. other ++ row) others) (SameBag-map (λ other. other ++ row) matched others same);
}

pub joins_by_bags : (keys : List (ℕ × ℕ)) (left_width right_width : ℕ) (kind : JoinKind) → GoesByBags (join_head keys left_width right_width kind)
joins_by_bags keys left_width right_width kind.Inner = tt
joins_by_bags keys left_width right_width kind.Left = left_gives-bags right_width
joins_by_bags keys left_width right_width kind.Right = right_gives-bags left_width
joins_by_bags keys left_width right_width kind.Full = (left_gives-bags right_width, record { same = λ row matched others same. unmatched_same (nulls left_width ++ row) matched others same })
joins_by_bags keys left_width right_width kind.Semi = record { same = λ row matched others same. matched_same row matched others same }
joins_by_bags keys left_width right_width kind.Anti = record { same = λ row matched others same. unmatched_same row matched others same }

pub join_is_head : (keys : List (ℕ × ℕ)) (left_width right_width : ℕ) (kind : JoinKind) (left right : List Row)
    → head_rows (join_head keys left_width right_width kind) (left ∷ right ∷ []) ≡ joined keys left_width right_width left right kind
join_is_head keys left_width right_width kind.Inner left right = refl
join_is_head keys left_width right_width kind.Left left right = refl
join_is_head keys left_width right_width kind.Right left right = refl
join_is_head keys left_width right_width kind.Full left right = refl
join_is_head keys left_width right_width kind.Semi left right = refl
join_is_head keys left_width right_width kind.Anti left right = refl
