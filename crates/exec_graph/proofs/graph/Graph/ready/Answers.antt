use Rattle.std.proofs.Common.{◌≡◌, List, IfOk, subst}
use Rattle.exec_graph.specs.Graphs.{GraphState}
use Rattle.graph_model.specs.declared.sub.Sub.{Sub}
use Rattle.ready_subtasks.specs.Ready.{ready_subs}
use Rattle.ready_subtasks.proofs.Laws.{marked_law}
use Rattle.exec_graph.proofs.graph.Graph.ready.Goals as goal

pub returns : goal.returns
returns c =
    let g = c.self.inside in
    subst (λ (h : GraphState). IfOk c.subs.result (λ subs. subs ≡ ready_subs h.job.state.vertices h.attempts)) c.self.view_is
    (subst (λ (l : List Sub). IfOk c.subs.result (λ subs. subs ≡ l)) (marked_law g.job.state.vertices g.attempts g.ready c.self.invariant.ready) c.subs.ensures)
