use Rattle.ready_subtasks.proofs.Marking.{marked_law}
use Rattle.ready_subtasks.proofs.ready_laws.marked_are_ready.Goals as goal

pub returns : goal.returns
returns c = marked_law
