use Rattle.std.proofs.Common.{◌≡◌, IsTrue, sym, subst, ap}
use Rattle.std.specs.Prelude.{◌↔◌}
use Rattle.graph_model.specs.Legal.{IsDone}
use Rattle.graph_model.specs.States.{State}
use Rattle.core_model.specs.Cores.{core_state}
use Rattle.core_state.specs.Masters.{Master}
use Rattle.core_state.proofs.master_state.MasterState.complete.Goals as goal

pub returns : goal.returns
returns c =
    let m = c.self.inside in
    subst (λ (x : Master). IsTrue c.complete.result ↔ IsDone x.job.given (core_state x.job x.core)) c.self.view_is
    (subst (λ (s : State). IsTrue c.complete.result ↔ IsDone m.graph.job.given s) (sym c.self.invariant.leads) c.complete.ensures)
