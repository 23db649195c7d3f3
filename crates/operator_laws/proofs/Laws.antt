-- The laws that proofs of other crates cite by name, passed on from one place; all else of proofs/ is this crate's own.

-- ---- unary operators: by bags, row by row, by keys
pub use Rattle.operator_laws.proofs.Unary.{applied_same, row_sum, row_each, node_applies}
pub use Rattle.operator_laws.proofs.Aggregates.{agg-same, aggregated_keyed}
pub use Rattle.operator_laws.proofs.Distinct.{by_first, by_second}
-- ---- the lesser and the greater of values
pub use Rattle.operator_laws.proofs.ValueOrder.{lesser-assoc, lesser-comm, greater-assoc, greater-comm, greater-null}
-- ---- joins: by bags, row by row of a side; rows that match have one key
pub use Rattle.operator_laws.proofs.Joins.{padded_same, matched_same, unmatched_same, side_same, joined_same}
pub use Rattle.operator_laws.proofs.Joins.{left_none, left_sum, left_each, right_none, right_sum, right_each, matching_keys}
-- ---- nodes and the text of the sinks: by bags
pub use Rattle.operator_laws.proofs.NodeBags.{bags_same}
pub use Rattle.operator_laws.proofs.Sections.{lines_same, section_same, texts_same}
-- ---- values within their limits
pub use Rattle.operator_laws.proofs.Limits.{applied_fits, joined_fits, node_fits, plan_fits, record_fits, rows_within}
