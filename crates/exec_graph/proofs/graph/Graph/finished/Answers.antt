use Rattle.std.proofs.Common.{◌≡◌, List, [], ◌∷◌, None, Some, ap, subst}
use Rattle.exec_graph.specs.Graphs.{GraphState}
use Rattle.graph_model.specs.declared.sub.Sub.{Sub}
use Rattle.graph_model.specs.States.{sub_of, winner_name}
use Rattle.graph_vertices.specs.Winning.{IsFirstStale}
use Rattle.ready_subtasks.specs.Touches.{AreTouched, IsRefreshed}
use Rattle.exec_graph.proofs.Keeping.{kept_unchanged, kept_won, unless_won}
use Rattle.exec_graph.proofs.graph.Graph.finished.Goals as goal

pub invariant_of-self-in-Win : goal.invariant_of-self-in-Win
invariant_of-self-in-Win c =
    let g = c.self.inside in
    let new = c.finished.new.self in
    let touched = c.in_ok-touched.touched.items in
    let are = subst (λ (s : Sub). AreTouched g.job.state.vertices (s ∷ []) touched) c.of.ensures c.in_ok-touched.ensures in
    let fresh = subst (λ (l : List Sub). IsRefreshed new.state.vertices g.attempts l g.ready c.refresh.new.ready) c.as_slice-touched.ensures.value c.refresh.ensures in
    kept_won g.job new c.args.name c.args.inputs.now c.args.sizes.now touched g.attempts g.ready c.refresh.new.ready c.self.invariant
    (c.in_ok-verdict.ensures.win c.in-Win.is) are fresh

pub invariant_of-self-in_default : goal.invariant_of-self-in_default
invariant_of-self-in_default c =
    let g = c.self.inside in
    let new = c.finished.new.self in
    let same = unless_won c.in_ok-verdict.verdict (new ≡ g.job) c.in_default.not-Win
    (λ winner is. (c.in_ok-verdict.ensures.double winner is).1) (λ input is. (c.in_ok-verdict.ensures.stale input is).2) in
    kept_unchanged g.job new g.attempts g.ready c.self.invariant same

pub returns : goal.returns
returns c =
    let name = c.args.name in
    let new = c.finished.new.self in
    record {
      win = λ is. absurd (c.in_default.not-Win is);
      double = λ winner is. subst (λ (g : GraphState). (winner_name g.job.state.vertices (sub_of name) ≡ Some winner) × (new ≡ g.job)) c.self.view_is
          (c.in_ok-verdict.ensures.double winner is);
      stale = λ input is. subst
          (λ (g : GraphState). (winner_name g.job.state.vertices (sub_of name) ≡ None) × IsFirstStale g.job.state.vertices c.args.inputs.now input × (new ≡ g.job)) c.self.view_is
          (c.in_ok-verdict.ensures.stale input is);
      same = tt;
      not_cover = tt;
      illegal = tt;
      attempts = ap (λ (g : GraphState). g.attempts) c.self.view_is;
    }
