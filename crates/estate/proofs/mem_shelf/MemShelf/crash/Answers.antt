use Rattle.std.proofs.Common.{◌∙◌, ap, get_or, length, List, arith}
use Rattle.estate.specs.declared.shelved.Shelved.{Shelved}
use Rattle.estate.proofs.Shelving.{fresh_recalled}
use Rattle.estate.proofs.mem_shelf.MemShelf.crash.Goals as goal

pub recall-requires : goal.recall-requires
recall-requires c =
    let parts = c.args.self.now.parts.items in
    let value = c.deref-part-items.ensures.value in
    let item = c.part-item.result in
    fresh_recalled c.args.moment parts c.loop-part.made.parts.items c.loop-part.part-index item c.args.self.now.distinct (omega (arith, ap (λ (l : List Shelved). length l) value, c.loop-part-test.true))
    (c.part-item.is ∙ ap (λ (l : List Shelved). get_or l c.loop-part.part-index item) value) c.loop-part.invariant
