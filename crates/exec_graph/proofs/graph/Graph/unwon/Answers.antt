use Rattle.std.proofs.Common.{◌≡◌, List, count_by, ◌∙◌, ap, subst}
use Rattle.exec_graph.specs.Counts.{AreAllSubs, is_unwon}
use Rattle.exec_graph.specs.Graphs.{GraphState}
use Rattle.graph_model.specs.declared.sub.Sub.{Sub}
use Rattle.reader_index.specs.Tasks.{undone}
use Rattle.exec_graph.proofs.Counting.{are_all, undone_is}
use Rattle.exec_graph.proofs.graph.Graph.unwon.Goals as goal

pub returns : goal.returns
returns c =
    let numbering = c.numbers.result.now in
    let vs = c.self.inside.job.state.vertices in
    subst (λ (g : GraphState). (subs : List Sub) × AreAllSubs g.job.state.vertices subs × (c.undone.result ≡ count_by (is_unwon g.job.state.vertices) subs)) c.self.view_is
    (numbering.subs, are_all vs numbering c.numbers.ensures, c.undone.ensures ∙ ap undone c.tasks.ensures ∙ undone_is vs numbering c.numbers.ensures)
