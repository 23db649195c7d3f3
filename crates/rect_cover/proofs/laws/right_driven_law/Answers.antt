use Rattle.rect_cover.proofs.Fulls.{right_driven}
use Rattle.rect_cover.proofs.laws.right_driven_law.Goals as goal

pub returns : goal.returns
returns c = λ left right subtasks demand matches gives bags in_column. right_driven matches gives bags left.grid right.grid 0 1 left.rows right.rows in_column subtasks demand
