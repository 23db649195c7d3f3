use Rattle.std.proofs.Common.{◌≡◌, count_by, sym, ◌∙◌, ap, subst}
use Rattle.exec_graph.specs.Counts.{is_unwon}
use Rattle.exec_graph.specs.Graphs.{GraphState}
use Rattle.graph_model.specs.Reads.{reads_from}
use Rattle.reader_index.specs.Tasks.{missing}
use Rattle.ready_subtasks.specs.Marks.{IsDecidedSub}
use Rattle.exec_graph.proofs.Counting.{missing_is}
use Rattle.exec_graph.proofs.graph.Graph.missing.Goals as goal

pub returns : goal.returns
returns c =
    let numbering = c.numbers-numbers.result.now in
    let decided = subst (λ (g : GraphState). IsDecidedSub g.job.state.vertices c.args.sub) (sym c.self.view_is) c.requires in
    subst (λ (g : GraphState). c.missing.result ≡ count_by (is_unwon g.job.state.vertices) (reads_from g.job.state.vertices c.args.sub)) c.self.view_is
    (c.missing.ensures ∙ ap (missing numbering.tasks) c.number.ensures
    ∙ missing_is c.self.inside.job.state.vertices numbering c.numbers-numbers.ensures c.args.sub decided)
