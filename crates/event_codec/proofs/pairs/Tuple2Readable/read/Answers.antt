use Rattle.std.proofs.Common.{rules}
use Rattle.row_core.specs.Decoding.{Begins}
use Rattle.event_codec.proofs.Pairing.{no_second}
use Rattle.event_codec.proofs.pairs.Tuple2Readable.read.Goals as goal

pub returns-in_default-2 : goal.returns-in_default-2
returns-in_default-2 g c =
    let first : Begins g.A.Readable.spell g.A.Readable.fits c.args.bytes.now c.in-Some.first c.in-Some.rest.now = search rules in
    no_second g.A.Readable.spell g.A.Readable.fits g.B.Readable.spell g.B.Readable.fits g.met.A.Readable.free c.args.bytes.now c.in-Some.rest.now c.in-Some.first first (rw c.in_default-2.is at c.in_ok-second.ensures)
