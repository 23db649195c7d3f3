use Rattle.std.proofs.Common.{sym, ◌∙◌, ap, List, slice_get}
use Rattle.plan_model.specs.declared.node.Node.{Node}
use Rattle.plan_model.specs.Checks.{plan_faults}
use Rattle.plan_model.proofs.Firsts.{none_is_empty}
use Rattle.plan_model.proofs.checking.check_plan.Goals as goal

pub from_plan-requires-clause-faultless : goal.from_plan-requires-clause-faultless
from_plan-requires-clause-faultless c = none_is_empty (plan_faults c.args.plan) (ap (λ (nodes : List Node). slice_get (plan_faults nodes) 0) (sym c.as_slice.ensures) ∙ sym c.in_ok-fault.ensures ∙ c.in-None.is)
