use Rattle.std.proofs.Common.{rules, arith, ◌<◌, length}
use Rattle.row_core.specs.Decoding.{Begins}
use Rattle.event_codec.specs.Spelling.{word, IsWord}
use Rattle.event_codec.proofs.Listing.{text_lacks}
use Rattle.event_codec.proofs.text.BytesReadable.read.Goals as goal

pub returns-then-rest-len : goal.returns-then-rest-len
returns-then-rest-len c =
    let first : Begins word IsWord c.args.bytes.now c.in-Some.len c.in-Some.rest.now = search rules in
    let short : length c.in-Some.rest.now < c.in-Some.len = omega arith in
    text_lacks c.in-Some.len c.args.bytes.now c.in-Some.rest.now first short
