-- What tasks read once others were added, for proofs of the crates above.
pub use Rattle.reader_index.proofs.Added.{AreReaders, new_reads, old_reads, producers_more, readers_more, same_done}
pub use Rattle.reader_index.proofs.Adding.{tasks_count}
