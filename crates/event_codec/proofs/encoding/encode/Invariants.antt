use Rattle.std.proofs.Common.{◌≡◌, take}
use Rattle.event_codec.specs.Spelling.{events_bytes, EventsFit}
use Rattle.event_codec.proofs.encoding.encode.Given as goal

abbrev pub invariant-loop-event : goal.invariant-loop-event
invariant-loop-event l = record {
  spelled : l.block ≡ events_bytes (take l.event-index l.event-items);
  fits : EventsFit (take l.event-index l.event-items);
}
