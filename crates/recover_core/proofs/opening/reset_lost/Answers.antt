use Rattle.std.proofs.Common.{length, refl, ap, arith}
use Rattle.recover_core.proofs.Lengths.{reset_length}
use Rattle.recover_core.proofs.opening.reset_lost.Goals as goal

pub overflow_add-asked-2 : goal.overflow_add-asked-2
overflow_add-asked-2 c = omega (arith, c.from.ensures, c.reset_len.ensures.few)

pub returns-in-Ok-clause-reset : goal.returns-in-Ok-clause-reset
returns-in-Ok-clause-reset c =
    let size = reset_length c.in_ok-gone.gone c.in_ok-subtasks.subtasks in
    let len = c.reset_len.ensures.len in
    let top = c.from-2.ensures in record {
      gone = c.in_ok-gone.gone;
      subs = c.in_ok-subtasks.subtasks;
      are = c.in_ok-gone.ensures;
      closure = c.in_ok-subtasks.ensures;
      some = λ none. absurd (omega (arith, c.in-Ok.ensures.ok.legal.some, ap length none));
      is = refl;
      takes = c.in-Ok.ensures.ok;
      attempts = c.in-Ok.ensures.attempts;
      short = (omega (arith, size, len, top, c.if-asked-from.false), omega (arith, size, len, top, c.if-asked-from.false));
    }
