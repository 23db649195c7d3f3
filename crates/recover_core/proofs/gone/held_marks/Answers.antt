use Rattle.std.proofs.lemmas.List.{get_or_default}
use Rattle.recover_core.proofs.Marking.{held_more}
use Rattle.recover_core.proofs.gone.held_marks.Goals as goal

pub loop-place-preserved : goal.loop-place-preserved
loop-place-preserved c =
    held_more c.args.vertices.now c.args.numbers.now c.requires.numbered c.args.names.now c.loop-place.place _ c.loop-place.marks.items c.note_held.new.marks.items c.loop-place-test.true
    (get_or_default c.args.names.now c.loop-place.place _ _ c.loop-place-test.true) c.loop-place.invariant c.note_held.ensures
