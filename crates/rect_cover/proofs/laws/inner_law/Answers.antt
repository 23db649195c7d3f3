use Rattle.rect_cover.proofs.Sides.{inner_pairs}
use Rattle.rect_cover.proofs.laws.inner_law.Goals as goal

pub returns : goal.returns
returns c = λ left right subtasks demand matches pair in_column. inner_pairs matches pair left.grid right.grid 0 1 left.rows right.rows in_column subtasks demand
