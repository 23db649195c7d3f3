use Rattle.std.proofs.Common.{ℕ, ◌<◌, ◌^◌, List, length, sym, ◌∙◌, ap, subst, All}
use Rattle.plan_model.specs.Checks.{plan_faults}
use Rattle.plan_model.specs.declared.node.Node.{Node}
use Rattle.graph_model.specs.States.{Given}
use Rattle.event_graph.proofs.Keeping.{kept_started_as}
use Rattle.event_graph.proofs.event_graph.EventGraph.new.Goals as goal

pub invariant_of-result : goal.invariant_of-result
invariant_of-result c =
    let given : Given = record { nodes = c.args.plan; settings = c.args.settings; files = c.in_ok-files.files } in
    let good = ap plan_faults (sym c.nodes-undecided.ensures.same) ∙ c.nodes-undecided.ensures.faultless in
    let few = subst (λ (l : List (List ℕ)). All (λ sizes. length sizes < 2 ^ 32) l) (sym c.in_ok-files.ensures) c.requires.few in
    let count = ap (λ (l : List Node). length l) c.nodes-undecided.ensures.same in
    kept_started_as given c.new-numbers.result (length c.nodes-undecided.result.now) c.new-vertices.result c.from_vec-widened.result c.new-dones.result.items good few count
    c.new-vertices.ensures (c.from_vec-widened.ensures ∙ c.new.ensures.items) c.new-dones.ensures.items
    c.new-numbers.ensures.places c.new-numbers.ensures.subs c.new-numbers.ensures.tasks
