use Rattle.std.proofs.Common.{rules}
use Rattle.row_core.specs.Decoding.{Begins}
use Rattle.event_codec.specs.Spelling.{word, IsWord}
use Rattle.event_codec.proofs.Listing.{list_behind}
use Rattle.event_codec.proofs.reading.read_list.Goals as goal

pub returns : goal.returns
returns g c =
    let first : Begins word IsWord c.args.bytes.now c.in-Some.count c.in-Some.rest.now = search rules in
    list_behind g.T.Readable.spell g.T.Readable.fits c.in-Some.count c.args.bytes.now c.in-Some.rest.now first c.read_items.result (λ x. x.0.items) (λ x. x.1.now) c.read_items.ensures
