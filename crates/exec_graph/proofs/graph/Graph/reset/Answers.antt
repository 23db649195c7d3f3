use Rattle.std.proofs.Common.{◌≡◌, List, sym, ◌∙◌, subst}
use Rattle.std.specs.Prelude.{All}
use Rattle.graph_model.specs.declared.sub.Sub.{Sub}
use Rattle.ready_subtasks.specs.Marks.{IsDecidedSub}
use Rattle.ready_subtasks.specs.Touches.{AreTouched, IsRefreshed}
use Rattle.exec_graph.proofs.Keeping.{decided_reset, kept_reset, marked_reset}
use Rattle.exec_graph.proofs.graph.Graph.reset.Goals as goal

pub refresh-requires-clause-decided : goal.refresh-requires-clause-decided
refresh-requires-clause-decided c =
    let g = c.self.inside in
    let subs = c.args.subtasks.now in
    let takes = c.in_ok-reset.ensures.ok in
    let touched = c.in_ok-touched.touched.items in
    let same : c.as_slice.result.now ≡ subs = c.as_slice.ensures ∙ c.closures_are_one.ensures g.job.state.vertices c.args.gone.now c.in_ok-again.again subs c.in_ok-again.ensures takes.legal.closure in
    let are : AreTouched g.job.state.vertices subs touched = subst (λ (l : List Sub). AreTouched g.job.state.vertices l touched) same c.in_ok-touched.ensures in
    subst (λ (l : List Sub). All (IsDecidedSub c.reset.new.self.state.vertices) l) (sym c.as_slice-touched.ensures.value)
    (decided_reset g.job c.reset.new.self c.args.gone.now subs touched takes are)

pub refresh-requires-clause-marked : goal.refresh-requires-clause-marked
refresh-requires-clause-marked c =
    let g = c.self.inside in
    marked_reset g.job c.reset.new.self c.args.gone.now c.args.subtasks.now g.attempts g.ready c.self.invariant c.in_ok-reset.ensures.ok

pub invariant_of-self-2 : goal.invariant_of-self-2
invariant_of-self-2 c =
    let g = c.self.inside in
    let new = c.reset.new.self in
    let subs = c.args.subtasks.now in
    let takes = c.in_ok-reset.ensures.ok in
    let touched = c.in_ok-touched.touched.items in
    let same : c.as_slice.result.now ≡ subs = c.as_slice.ensures ∙ c.closures_are_one.ensures g.job.state.vertices c.args.gone.now c.in_ok-again.again subs c.in_ok-again.ensures takes.legal.closure in
    let are : AreTouched g.job.state.vertices subs touched = subst (λ (l : List Sub). AreTouched g.job.state.vertices l touched) same c.in_ok-touched.ensures in
    let fresh = subst (λ (l : List Sub). IsRefreshed new.state.vertices g.attempts l g.ready c.refresh.new.ready) c.as_slice-touched.ensures.value c.refresh.ensures in
    kept_reset g.job new c.args.gone.now subs touched g.attempts g.ready c.refresh.new.ready c.self.invariant takes are fresh
