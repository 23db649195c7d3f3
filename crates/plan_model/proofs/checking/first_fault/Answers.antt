use Rattle.std.proofs.Common.{◌≡◌, sym, ◌∙◌, [], Option, subst, IfOk}
use Rattle.plan_model.specs.Checks.{told_at, node_kinds, dangling_kinds, same_sink_kinds, no_sink_faults}
use Rattle.plan_model.specs.declared.plan_fault.PlanFault.{PlanFault}
use Rattle.plan_model.proofs.Firsts.{in_first, in_third, in_last}
use Rattle.plan_model.proofs.checking.first_fault.Goals as goal

pub returns-in-Some : goal.returns-in-Some
returns-in-Some c = let nodes = c.args.nodes.now in
    sym (in_first (told_at node_kinds [] nodes) (no_sink_faults nodes) (told_at (dangling_kinds nodes) [] nodes) (told_at same_sink_kinds [] nodes) c.in-Some.fault
    (sym c.in_ok-fault.ensures ∙ c.in-Some.is))

pub returns-in-Some-2 : goal.returns-in-Some-2
returns-in-Some-2 c = let nodes = c.args.nodes.now in
    sym (in_third (told_at node_kinds [] nodes) (no_sink_faults nodes) (told_at (dangling_kinds nodes) [] nodes) (told_at same_sink_kinds [] nodes) c.in-Some-2.fault
    (sym c.in_ok-fault.ensures ∙ c.in_default.is) (sym c.no_sink_fault.ensures ∙ c.in_default-no_sink_fault.is) (sym c.in_ok-fault-2.ensures ∙ c.in-Some-2.is))

pub returns : goal.returns
returns c = let nodes = c.args.nodes.now in
    subst (λ (first : Option PlanFault). IfOk c.same_sink_fault.result (λ fault. fault ≡ first))
    (sym (in_last (told_at node_kinds [] nodes) (no_sink_faults nodes) (told_at (dangling_kinds nodes) [] nodes) (told_at same_sink_kinds [] nodes)
    (sym c.in_ok-fault.ensures ∙ c.in_default.is) (sym c.no_sink_fault.ensures ∙ c.in_default-no_sink_fault.is) (sym c.in_ok-fault-2.ensures ∙ c.in_default-2.is)))
    c.same_sink_fault.ensures
