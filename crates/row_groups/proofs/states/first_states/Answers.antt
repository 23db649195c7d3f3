use Rattle.std.proofs.Common.{[]}
use Rattle.row_groups.proofs.states.first_states.Goals as goal

pub returns : goal.returns
returns c = c.in_ok-add_row.ensures [] c.in_ok-states.ensures
