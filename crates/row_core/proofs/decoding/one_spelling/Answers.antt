use Rattle.row_core.proofs.Fronts.{row_front, rows_same}
use Rattle.row_core.proofs.decoding.one_spelling.Goals as goal

pub returns-clause-rows : goal.returns-clause-rows
returns-clause-rows c = λ a b fit_a fit_b same. rows_same a b fit_a fit_b same

pub returns-clause-row : goal.returns-clause-row
returns-clause-row c = λ a b x y fit_a fit_b same. row_front a b x y fit_a fit_b same
