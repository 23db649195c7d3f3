use Rattle.task_parts.proofs.Sharing.{share_cells}
use Rattle.task_parts.proofs.keys.keys_share_cells.Goals as goal

pub returns : goal.returns
returns c = share_cells
