-- The laws that proofs of other crates cite by name, passed on from one place; all else of proofs/ is this crate's own.

-- ---- orders that tell items apart
pub use Rattle.bag_laws.proofs.Sorted.{IsStrict, Below, Ascends, ascends_from, none_below, count_is, ascending-same, false_from}
pub use Rattle.bag_laws.proofs.Orders.{strict_from, bytes_strict, rows_strict, value_total, value_apart, same_row_is}
-- ---- equal bags: an equivalence, sums of lists, the same rows in another order
pub use Rattle.bag_laws.proofs.Alike.{same_refl, same_sym, same_on, append_swap}
pub use Rattle.bag_laws.proofs.Counts.{SameBag-append, SameBag-filter, SameBag-map, SameBag-flat_map, SameBag-one_of_each, ascending_rows}
pub use Rattle.bag_laws.proofs.Alike.{same_flat_map, same_each, flat_map-split, flat_map-joined, flat_map-swap}
pub use Rattle.bag_laws.proofs.Permutations.{permutation_of_same, same_of_permutation}
-- ---- counts of a row, and one of each
pub use Rattle.bag_laws.proofs.Counts.{count-cons, count-append, count-filter, count-one_of_each, same-swapped}
pub use Rattle.bag_laws.proofs.Dedup.{dedup_is}
-- ---- operators that go by keys
pub use Rattle.bag_laws.proofs.Keyed.{each_keyed, grouped_keyed}
-- ---- sums of a number of each item, and equal bags by what they weigh
pub use Rattle.bag_laws.proofs.Totals.{total, total_is, total-append, total-agree, total-where, total-each, total-zero, total-add, total-times, total-scaled}
pub use Rattle.bag_laws.proofs.Totals.{total-map, total-flat_map, total-swap, total-filter}
pub use Rattle.bag_laws.proofs.Counts.{total-same}
pub use Rattle.bag_laws.proofs.Alike.{by_weights, weighs}
