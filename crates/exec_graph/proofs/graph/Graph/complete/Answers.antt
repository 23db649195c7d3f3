use Rattle.std.proofs.Common.{◌↔◌, IsTrue, subst}
use Rattle.exec_graph.specs.Graphs.{GraphState}
use Rattle.graph_model.specs.Legal.{IsDone}
use Rattle.exec_graph.proofs.graph.Graph.complete.Goals as goal

pub returns : goal.returns
returns c = subst (λ (g : GraphState). IsTrue c.complete.result ↔ IsDone g.job.given g.job.state) c.self.view_is c.complete.ensures
