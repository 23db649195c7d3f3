use Rattle.std.proofs.Common.{List, sym, subst}
use Rattle.vertex_builder.specs.declared.widening.Widening.{Widening}
use Rattle.graph_model.specs.Legal.{MayWiden}
use Rattle.event_graph.specs.Graphs.{JobState}
use Rattle.event_graph.specs.Kept.{IsKept}
use Rattle.event_graph.proofs.Jobs.{given_of, state_of}
use Rattle.event_graph.proofs.Keeping.{kept_widened}
use Rattle.event_graph.proofs.event_graph.EventGraph.widened.Goals as goal

pub invariant_of-self : goal.invariant_of-self
invariant_of-self c =
    let g = c.self.inside in
    let node = c.args.node in
    let side = c.args.side in
    let may : MayWiden (given_of g) (state_of g) node side =
    subst (λ (job : JobState). MayWiden job.given job.state node side) (sym c.self.view_is) (c.may_widen.ensures.0 c.if-not-may_widen.false) in
    subst (λ (l : List Widening). IsKept (given_of g) (record (state_of g) { widened = l }) g.numbers g.undecided) (sym c.in_ok-self-inside.ensures)
    (kept_widened (given_of g) (state_of g) g.numbers g.undecided node side c.self.invariant may)
