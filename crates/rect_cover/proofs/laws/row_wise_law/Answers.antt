use Rattle.rect_cover.proofs.Sides.{row_wise}
use Rattle.rect_cover.proofs.laws.row_wise_law.Goals as goal

pub returns : goal.returns
returns c = λ grids subtasks demand input grid here rows. row_wise grid input rows subtasks (demand.each input grid here)
