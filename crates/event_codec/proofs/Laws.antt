-- The laws of events' spellings, which other crates may cite: none begins another's, each has a byte at least, and a block spells one list of events.
pub use Rattle.event_codec.proofs.Stops.{events_same}
pub use Rattle.event_codec.proofs.Tags.{event_free, event_longer}
