-- The laws that proofs of other crates cite by name, passed on from one place; all else of proofs/ is this crate's own.

-- ---- lists of legal events
pub use Rattle.graph_model.proofs.Folds.{prefix_legal, valid_after, valid_from, valid_law, valid_started, read_law}
-- ---- a small job's events have a fold
pub use Rattle.graph_model.proofs.Examples.{finishes}
-- ---- valid states: inputs are linked, no node is in two vertices
pub use Rattle.graph_model.proofs.Apart.{among_made}
pub use Rattle.graph_model.proofs.Linking.{among_at, begins, link_law, maker_has}
pub use Rattle.graph_model.proofs.Making.{among_complete, stands}
pub use Rattle.graph_model.proofs.Single.{single_law}
-- ---- what an event leaves: of decided vertices all, of others all but winners
pub use Rattle.graph_model.proofs.Deciding.{KeepsFed, edges_on, keeps_decided, won_decided}
pub use Rattle.graph_model.proofs.Making.{keeps_made}
pub use Rattle.graph_model.proofs.Same.{SameNode, SameInput, inputs_edges-same, maker-set, maker-push}
pub use Rattle.graph_model.proofs.Winners.{KeepsReads, same_count, same_node, edges-same, in_range, at_each, reads_at, put-keeps, put-same, put-other, same_sub, cases_sub, without-keeps, without-was, without-other, without-gone}
pub use Rattle.graph_model.proofs.Steps.{valid_opened, valid_reset, valid_same, valid_won}
-- ---- items of lists
pub use Rattle.graph_model.proofs.Items.{get_or-map, in_map, in_nothing, in_one, none_is_some, some_is}
