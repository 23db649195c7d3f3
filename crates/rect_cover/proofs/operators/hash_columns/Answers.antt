use Rattle.std.proofs.Common.{ℕ, ◌%◌, ◌∙◌, ap}
use Rattle.row_core.specs.Values.{same_row}
use Rattle.bag_laws.specs.Rows.{OneRow as Row}
use Rattle.bag_laws.proofs.Laws.{same_row_is}
use Rattle.plan_model.specs.Operators.{key_of}
use Rattle.plan_model.specs.Joins.{matches}
use Rattle.operator_laws.specs.Applied.{left_columns, right_columns}
use Rattle.operator_laws.proofs.Laws.{matching_keys}
use Rattle.rect_cover.proofs.Places.{matches_of_places, meets_of_places}
use Rattle.rect_cover.proofs.operators.hash_columns.Goals as goal

pub returns-clause-aggregate : goal.returns-clause-aggregate
returns-clause-aggregate c = λ hash keys input stand.
    meets_of_places (λ a b. same_row (key_of keys a) (key_of keys b)) (λ row. hash (key_of keys row) % input.grid.cells) input
    (λ a b same. ap (λ (key : Row). hash key % input.grid.cells) (same_row_is (key_of keys a) (key_of keys b) same)) stand

pub returns-clause-distinct : goal.returns-clause-distinct
returns-clause-distinct c = λ hash input stand.
    meets_of_places same_row (λ row. hash row % input.grid.cells) input (λ a b same. ap (λ (row : Row). hash row % input.grid.cells) (same_row_is a b same)) stand

pub returns-clause-join : goal.returns-clause-join
returns-clause-join c = λ hash keys left right cells stand stand_right.
    matches_of_places (matches keys) (λ row. hash (key_of (left_columns keys) row) % left.grid.cells) (λ row. hash (key_of (right_columns keys) row) % right.grid.cells) left right
    (λ a b same. ap (λ (key : Row). hash key % left.grid.cells) (matching_keys keys a b same) ∙ ap (λ (n : ℕ). hash (key_of (right_columns keys) b) % n) cells)
    stand stand_right
