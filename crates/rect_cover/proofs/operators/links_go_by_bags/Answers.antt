use Rattle.std.proofs.Common.{[], ◌∷◌}
use Rattle.bag_laws.proofs.Laws.{same_refl}
use Rattle.operator_laws.proofs.Laws.{joined_same}
use Rattle.rect_cover.proofs.operators.links_go_by_bags.Goals as goal

pub returns : goal.returns
returns c = λ keys left_width right_width kind. (
  λ rows others same row. joined_same kind keys left_width right_width (row ∷ []) (row ∷ []) rows others (same_refl (row ∷ [])) same,
  (λ rows others same row. joined_same kind keys left_width right_width rows others (row ∷ []) (row ∷ []) same (same_refl (row ∷ [])), tt),
)
