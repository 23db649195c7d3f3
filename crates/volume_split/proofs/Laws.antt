-- The laws that proofs of other crates cite: the greedy groups part the places, and none is empty.
pub use Rattle.volume_split.proofs.Places.{Filled, Parts-greedy, Filled-greedy}
