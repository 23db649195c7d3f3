use Rattle.std.proofs.Common.{List, sym, subst}
use Rattle.std.specs.Prelude.{◌↔◌, IsTrue}
use Rattle.vertex_builder.specs.declared.widening.Widening.{Widening}
use Rattle.graph_model.specs.Legal.{IsOpen, MayWiden}
use Rattle.graph_vertices.specs.Widening.{CanWiden}
use Rattle.graph_vertices.proofs.Laws.{can_widen, may_widen}
use Rattle.event_graph.specs.Graphs.{JobState}
use Rattle.event_graph.proofs.Jobs.{given_of, state_of}
use Rattle.event_graph.proofs.event_graph.EventGraph.may_widen.Goals as goal

pub returns-then-is_open : goal.returns-then-is_open
returns-then-is_open c =
    let g = c.self.inside in
    let node = c.args.node in
    let side = c.args.side in
    let running : IsOpen (given_of g) (state_of g) =
    subst (λ (job : JobState). IsOpen job.given job.state) (sym c.self.view_is) (c.is_open.ensures.running.0 c.if-is_open.true) in
    let can : IsTrue c.can_widen.result ↔ CanWiden g.plan g.widened g.vertices node side =
    subst (λ (l : List Widening). IsTrue c.can_widen.result ↔ CanWiden g.plan l g.vertices node side) c.as_slice-widened.ensures c.can_widen.ensures in
    let may : IsTrue c.can_widen.result ↔ MayWiden (given_of g) (state_of g) node side = (
      λ e. may_widen (given_of g) (state_of g) node side running (can.0 e),
      λ m. can.1 (can_widen (given_of g) (state_of g) node side c.self.invariant.faultless c.self.invariant.valid m),
    ) in
    subst (λ (job : JobState). IsTrue c.can_widen.result ↔ MayWiden job.given job.state node side) c.self.view_is may
