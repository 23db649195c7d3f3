use Rattle.std.proofs.Common.{◌≡◌}
use Rattle.std.proofs.lemmas.Result.{on_err_weaker, on_ok_weaker}
use Rattle.event_graph.specs.Graphs.{Takes}
use Rattle.graph_model.specs.declared.event.Event.TheVariants.{Made}
use Rattle.exec_graph.proofs.Keeping.{either, kept_made, kept_unchanged}
use Rattle.exec_graph.proofs.graph.Graph.made.Goals as goal

pub invariant_of-self : goal.invariant_of-self
invariant_of-self c =
    let g = c.self.inside in
    let new = c.made.new.self in
    either c.made.result
    (on_ok_weaker c.made.result
    (λ (takes : Takes g.job (Made c.args.vertex c.args.nodes.now) new).
    kept_made g.job new c.args.vertex c.args.nodes.now g.attempts g.ready c.is_kept.ensures.faultless c.is_kept.ensures.valid c.self.invariant takes)
    c.made.ensures.ok)
    (on_err_weaker c.made.result (λ (same : new ≡ g.job). kept_unchanged g.job new g.attempts g.ready c.self.invariant same) c.made.ensures.same)
