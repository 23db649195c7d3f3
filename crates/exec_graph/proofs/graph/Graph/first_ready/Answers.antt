use Rattle.std.proofs.Common.{◌≡◌, List, [], ◌∷◌, IfNone, IfSome, subst}
use Rattle.exec_graph.specs.Graphs.{GraphState}
use Rattle.graph_model.specs.declared.sub.Sub.{Sub}
use Rattle.ready_subtasks.specs.Ready.{ready_subs}
use Rattle.ready_subtasks.proofs.Laws.{marked_law}
use Rattle.exec_graph.proofs.graph.Graph.first_ready.Goals as goal

pub returns-clause-some : goal.returns-clause-some
returns-clause-some c =
    let g = c.self.inside in
    subst (λ (h : GraphState). IfSome c.first.result (λ sub. (rest : List Sub) × (ready_subs h.job.state.vertices h.attempts ≡ sub ∷ rest))) c.self.view_is
    (subst (λ (l : List Sub). IfSome c.first.result (λ sub. (rest : List Sub) × (l ≡ sub ∷ rest))) (marked_law g.job.state.vertices g.attempts g.ready c.self.invariant.ready) c.first.ensures.some)

pub returns-clause-none : goal.returns-clause-none
returns-clause-none c =
    let g = c.self.inside in
    subst (λ (h : GraphState). IfNone c.first.result (ready_subs h.job.state.vertices h.attempts ≡ [])) c.self.view_is
    (subst (λ (l : List Sub). IfNone c.first.result (l ≡ [])) (marked_law g.job.state.vertices g.attempts g.ready c.self.invariant.ready) c.first.ensures.none)
