use Rattle.std.proofs.Common.{◌≡◌, List, [], ◌∷◌, ◌++◌, sym, subst}
use Rattle.graph_model.specs.declared.event.Event.{Event}
use Rattle.core_state.specs.Masters.{IsKept}
use Rattle.core_state.proofs.Keeping.{job_with, kept_added}
use Rattle.core_state.proofs.master_state.MasterState.add.Goals as goal

pub invariant_of-self-2 : goal.invariant_of-self-2
invariant_of-self-2 c =
    let m = c.self.inside in
    let new = c.apply.new.graph.job in
    subst (λ (l : List Event). IsKept (job_with m.id m.text new) (m.past.items ++ l) l new.state) (sym c.push_reserved.ensures.items)
    (subst (λ (l : List Event). IsKept (job_with m.id m.text new) (m.past.items ++ (l ++ c.args.event ∷ [])) (l ++ c.args.event ∷ []) new.state) (sym c.reserve.ensures.items)
    (kept_added m.id m.text m.past.items m.buffer.items m.graph.job new c.args.event c.self.invariant c.requires c.in_ok-apply.ensures.ok))
