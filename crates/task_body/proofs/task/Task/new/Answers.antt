use Rattle.std.proofs.Common.{◌≡◌, [], List, ◌∙◌, subst}
use Rattle.plan_model.specs.Checks.{plan_faults}
use Rattle.plan_model.specs.declared.node.Node.{Node}
use Rattle.task_body.proofs.task.Task.new.Goals as goal

pub invariant_of-result-clause-faultless : goal.invariant_of-result-clause-faultless
invariant_of-result-clause-faultless c =
    subst (λ (nodes : List Node). plan_faults nodes ≡ []) (c.nodes-without_a_fault.ensures.same ∙ c.deref.ensures) c.nodes-without_a_fault.ensures.faultless
