use Rattle.std.specs.List.{flat_map}
use Rattle.row_core.specs.Decoding.{Begins}
use Rattle.event_codec.specs.Reading.{AreMany}
use Rattle.event_codec.proofs.reading.read_items.Given as goal

abbrev pub invariant-loop : goal.invariant-loop
invariant-loop g l = Begins (flat_map g.T.Readable.spell) (AreMany g.T.Readable.fits l.counter) l.bytes l.items.items l.rest
