use Rattle.std.proofs.Common.{◌+◌, ℕ, List, sym, subst}
use Rattle.reader_index.specs.Links.{AreLinked}
use Rattle.reader_index.proofs.Linking.{producer_more}
use Rattle.reader_index.proofs.links.Links.add_task.Goals as goal

pub returns-clause-linked : goal.returns-clause-linked
returns-clause-linked c =
    let n = c.args.reader in
    let reads = c.loop-place.self.reads.items in
    let earlier = c.loop-place.self.earlier.items in
    subst (λ (l : List ℕ). AreLinked (n + 1) (n + 1) reads earlier l) (sym c.push_reserved.ensures.items)
    (producer_more n reads earlier c.loop-place.self.last.items c.loop-place.invariant.0)
