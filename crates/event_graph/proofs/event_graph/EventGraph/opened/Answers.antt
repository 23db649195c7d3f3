use Rattle.graph_model.specs.States.{Given, State}
use Rattle.graph_model.proofs.Laws.{valid_opened}
use Rattle.event_graph.proofs.event_graph.EventGraph.opened.Goals as goal

pub invariant_of-self : goal.invariant_of-self
invariant_of-self c =
    let g = c.self.inside in
    let kept = c.self.invariant in
    let given : Given = record { nodes = g.plan; settings = g.settings; files = g.files } in
    let state : State = record { epoch = g.epoch; vertices = g.vertices; widened = g.widened; dones = g.dones.items; troubles = g.troubles; ended = g.ended } in
    record {
      faultless = kept.faultless;
      few = kept.few;
      valid = valid_opened given state c.args.epoch kept.valid c.if-epoch-self.false;
      numbered = kept.numbered;
      undecided_is = kept.undecided_is;
    }
