use Rattle.event_graph.proofs.Closed.{own_parts}
use Rattle.event_graph.proofs.Jobs.{given_of, state_of}
use Rattle.event_graph.proofs.event_graph.EventGraph.is_closure.Goals as goal

pub is_closure-requires-clause-own : goal.is_closure-requires-clause-own
is_closure-requires-clause-own c = own_parts (given_of c.self.inside) (state_of c.self.inside) c.self.invariant.valid
