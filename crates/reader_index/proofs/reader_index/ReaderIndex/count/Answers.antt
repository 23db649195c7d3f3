use Rattle.std.proofs.Common.{length, subst}
use Rattle.std.specs.Prelude.{All}
use Rattle.reader_index.specs.Links.{IsInside}
use Rattle.reader_index.specs.Tasks.{Tasks}
use Rattle.reader_index.proofs.reader_index.ReaderIndex.count.Goals as goal

pub returns-clause-inside : goal.returns-clause-inside
returns-clause-inside c =
    let it = c.self.inside.index in
    let linked = c.self.invariant.linked in
    let each : All (IsInside (length it.done.items)) it.links.reads.items = λ k d lt. record { reader = linked.readers_inside k d lt; producer = linked.producers_inside k d lt } in
    subst (λ (tasks : Tasks). All (IsInside (length tasks.done)) tasks.reads) c.self.view_is each
