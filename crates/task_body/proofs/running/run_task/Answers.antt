use Rattle.std.proofs.Common.{subst}
use Rattle.task_body.specs.Parts.{Gives}
use Rattle.task_body.specs.declared.task.Task.{Task}
use Rattle.task_body.proofs.running.run_task.Goals as goal

pub invariant_of-result : goal.invariant_of-result
invariant_of-result c = record { given = subst (λ (task : Task). Gives task c.in_ok-edges.edges) c.deref.ensures c.in_ok-edges.ensures }
