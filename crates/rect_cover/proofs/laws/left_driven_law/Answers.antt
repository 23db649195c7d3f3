use Rattle.rect_cover.proofs.Sides.{left_driven}
use Rattle.rect_cover.proofs.laws.left_driven_law.Goals as goal

pub returns : goal.returns
returns c = λ left right subtasks demand matches gives bags in_column. left_driven matches gives bags left.grid right.grid 0 1 left.rows right.rows in_column subtasks demand
