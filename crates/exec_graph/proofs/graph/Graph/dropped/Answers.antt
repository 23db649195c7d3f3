use Rattle.std.proofs.Common.{[], ◌∷◌, sym, ◌∙◌, subst}
use Rattle.std.proofs.lemmas.Bool.{false≢true}
use Rattle.attempt_names.specs.Attempts.{Attempts}
use Rattle.exec_graph.specs.Kept.{IsKept}
use Rattle.graph_model.specs.declared.sub.Sub.{Sub}
use Rattle.graph_model.specs.States.{sub_of}
use Rattle.ready_subtasks.specs.Marks.{IsDecidedSub}
use Rattle.ready_subtasks.specs.Touches.{IsRefreshed}
use Rattle.exec_graph.proofs.Keeping.{kept_dropped, kept_undropped}
use Rattle.exec_graph.proofs.graph.Graph.dropped.Goals as goal

pub invariant_of-self : goal.invariant_of-self
invariant_of-self c =
    let g = c.self.inside in
    let name = c.args.name in
    let vs = g.job.state.vertices in
    let next = c.refresh.new.ready in
    let fresh = subst (λ (s : Sub). IsRefreshed vs c.drop_name.new.self (s ∷ []) g.ready next) c.of-sub.ensures c.refresh.ensures in
    subst (λ (a : Attempts). IsKept g.job a next) (sym c.drop_name.ensures)
    (kept_dropped g.job g.attempts name g.ready next c.self.invariant (subst (λ (a : Attempts). IsRefreshed vs a (sub_of name ∷ []) g.ready next) c.drop_name.ensures fresh))

pub invariant_of-self-else-has : goal.invariant_of-self-else-has
invariant_of-self-else-has c =
    let g = c.self.inside in
    let name = c.args.name in
    let vs = g.job.state.vertices in
    subst (λ (a : Attempts). IsKept g.job a g.ready) (sym c.drop_name.ensures)
    (kept_undropped g.job g.attempts name g.ready c.self.invariant
    (λ (decided : IsDecidedSub vs (sub_of name)). false≢true (sym c.if-has.false ∙ c.has.ensures.1 (subst (λ (s : Sub). IsDecidedSub vs s) (sym c.of-sub.ensures) decided))))
