use Rattle.event_codec.proofs.Listing.{items_lack}
use Rattle.event_codec.proofs.reading.read_items.Goals as goal

pub returns-in_default : goal.returns-in_default
returns-in_default g c = items_lack g.T.Readable.spell g.T.Readable.fits g.met.T.Readable.free c.loop.counter c.args.count c.args.bytes.now c.loop.items.items c.loop.rest.now c.loop.invariant c.loop-test.true (rw c.in_default.is at c.in_ok-item.ensures)
