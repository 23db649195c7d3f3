use Rattle.std.proofs.Common.{rules, sym, ◌∙◌}
use Rattle.std.proofs.lemmas.Slice.Zip.{zip_end}
use Rattle.row_core.proofs.RowOrder.{ended}
use Rattle.row_core.proofs.row.cmp_values.Goals as goal

pub returns : goal.returns
returns c =
    let place = zip_end c.args.a.now c.args.b.now c.loop-x.yielded _ c.loop-x.x-iterator c.next.new.self c.next.result (search rules) (search rules) c.loop-x.yielded_by c.in-None.is c.next.ensures.steps in
    c.cmp.ensures ∙ sym (ended c.args.a.now c.args.b.now _ place) ∙ sym c.loop-x.invariant
