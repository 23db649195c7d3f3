-- The laws that proofs of the crates above cite.
pub use Rattle.event_graph.proofs.Asked.{done_is, number_done, number_inside, number_placed, reads_are}
pub use Rattle.event_graph.proofs.Decided.{numbering_decided}
pub use Rattle.event_graph.proofs.Feeding.{fed_is}
pub use Rattle.event_graph.proofs.Numbering.{numbering_made, numbering_put, put_done}
pub use Rattle.event_graph.proofs.Touched.{below_count, inputs_subs, inputs_within, range_more}
