use Rattle.std.proofs.Common.{ℕ, set, true, sym, ap, subst, ◌∙◌}
use Rattle.event_graph.specs.Numbers.{number_of}
use Rattle.recover_core.specs.Gone.{Notes}
use Rattle.recover_core.proofs.Marking.{note_present}
use Rattle.recover_core.proofs.gone.note_held.Goals as goal

pub returns-then-is_present : goal.returns-then-is_present
returns-then-is_present c =
    let vertices = c.args.vertices.now in
    let numbering = c.args.numbers.now in
    let marks = c.args.marks.now.items in
    let number = c.number-number.ensures ∙ ap (number_of numbering) c.of.ensures in
    subst (λ (n : ℕ). Notes vertices numbering c.args.name marks (set marks n true)) (sym number)
    (note_present vertices numbering c.requires.numbered c.requires.own c.args.name marks (c.is_present.ensures.0 c.if-is_present.true) c.requires.len)
