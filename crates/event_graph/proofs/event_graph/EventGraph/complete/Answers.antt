use Rattle.std.proofs.Common.{nat_eq, subst}
use Rattle.std.specs.Prelude.{◌↔◌, IsTrue}
use Rattle.graph_model.specs.Legal.{IsDone}
use Rattle.event_graph.specs.Graphs.{JobState}
use Rattle.event_graph.proofs.Completing.{complete_else, complete_then}
use Rattle.event_graph.proofs.Jobs.{given_of, state_of}
use Rattle.event_graph.proofs.event_graph.EventGraph.complete.Goals as goal

pub returns-then-self-eq0 : goal.returns-then-self-eq0
returns-then-self-eq0 c =
    let g = c.self.inside in
    subst (λ (job : JobState). IsTrue c.are_won.result ↔ IsDone job.given job.state) c.self.view_is
    (complete_then (given_of g) (state_of g) g.numbers g.undecided c.self.invariant c.if-self-eq0.true c.are_won.result c.are_won.ensures)

pub returns-else-self-eq0 : goal.returns-else-self-eq0
returns-else-self-eq0 c =
    let g = c.self.inside in
    subst (λ (job : JobState). IsTrue (nat_eq g.undecided 0) ↔ IsDone job.given job.state) c.self.view_is
    (complete_else (given_of g) (state_of g) g.numbers g.undecided c.self.invariant c.if-self-eq0.false)
