use Rattle.task_parts.proofs.ByBags.{by_bags}
use Rattle.task_parts.proofs.bags.tasks_go_by_bags.Goals as goal

pub returns : goal.returns
returns c = by_bags
