-- The laws that proofs of the crates above cite.
pub use Rattle.graph_vertices.proofs.Looking.{all_won, at_map, maker_first, named_won, same_long, won_in, won_named}
pub use Rattle.graph_vertices.proofs.Wide.{can_widen, may_widen}
