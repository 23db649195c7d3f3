use Rattle.std.proofs.Common.{refl, arith}
use Rattle.region_closure.proofs.lost.note_lost.Goals as goal

pub overflow_add-number : goal.overflow_add-number
overflow_add-number c = let has = c.requires.numbered (c.if-not-is_present.ensures.0 refl) in omega (arith, has)
