-- What the fields of a graph tell.
use Rattle.graph_model.specs.States.{Given, State}
use Rattle.event_graph.specs.declared.event_graph.EventGraph.TheInside.{Inside}

abbrev pub given_of : Inside → Given
given_of g = record { nodes = g.plan; settings = g.settings; files = g.files }

abbrev pub state_of : Inside → State
state_of g = record {
  epoch = g.epoch;
  vertices = g.vertices;
  widened = g.widened;
  dones = g.dones.items;
  troubles = g.troubles;
  ended = g.ended;
}
