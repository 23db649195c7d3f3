use Rattle.rect_cover.proofs.Fulls.{full_columns}
use Rattle.rect_cover.proofs.laws.full_law.Goals as goal

pub returns : goal.returns
returns c = λ left right subtasks demand matches gives lonely bags lonely_bags in_column.
    full_columns matches gives lonely bags lonely_bags left.grid right.grid 0 1 left.rows right.rows in_column subtasks demand
