use Rattle.std.proofs.Common.{◌≡◌, ℕ, ◌+◌, ◌≤◌, List, length, sym, ◌∙◌, ap, subst, Option}
use Rattle.std.specs.Prelude.{IfSome}
use Rattle.vertex_builder.specs.declared.vertex.Vertex.{Vertex}
use Rattle.graph_model.specs.declared.made_vertex.MadeVertex.{MadeVertex}
use Rattle.graph_model.specs.Legal.{IsOpen}
use Rattle.graph_vertices.specs.Making.{IsNext}
use Rattle.event_graph.specs.Graphs.{JobState}
use Rattle.event_graph.proofs.Jobs.{given_of, state_of}
use Rattle.event_graph.proofs.Made.{kept_covered, kept_made_as}
use Rattle.event_graph.proofs.event_graph.EventGraph.made.Goals as goal

pub invariant_of-self-in_err-push : goal.invariant_of-self-in_err-push
invariant_of-self-in_err-push c =
    let g = c.self.inside in
    let more = c.cover.ensures in
    kept_covered (given_of g) (state_of g) g.numbers c.cover.new.self g.undecided c.push.new.self c.self.invariant c.in_err-push.ensures.err more.long more.places more.subs more.tasks

pub invariant_of-self-2 : goal.invariant_of-self-2
invariant_of-self-2 c =
    let g = c.self.inside in
    let nodes = c.args.nodes.now in
    let vertex = c.in-Some.vertex in
    let more = c.cover.ensures in
    let running : IsOpen (given_of g) (state_of g) =
    subst (λ (job : JobState). IsOpen job.given job.state) (sym c.self.view_is) (c.is_open.ensures.running.0 c.if-not-is_open.false) in
    let count : length c.as_slice-count.result.now ≡ length g.vertices = ap (λ (l : List MadeVertex). length l) c.as_slice-count.ensures in
    let is : IsNext g.plan g.widened g.settings.max_parallelism g.vertices nodes vertex =
    subst (λ (o : Option Vertex). IfSome o (IsNext g.plan g.widened g.settings.max_parallelism g.vertices nodes)) c.in-Some.is c.in_ok-next.ensures.some in
    kept_made_as (given_of g) (state_of g) g.numbers c.cover.new.self g.undecided c.args.vertex nodes vertex c.from_vec.result c.push.new.self
    c.self.invariant running (c.if-vertex-count.false ∙ count) is (c.from_vec.ensures ∙ c.new.ensures.items) c.in_ok-push.ensures.ok
    (subst (λ (n : ℕ). n + 1 ≤ length c.cover.new.self.places) count c.in_ok-cover.ensures.ok) more.places more.subs more.tasks
