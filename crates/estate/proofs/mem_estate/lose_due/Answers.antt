use Rattle.std.proofs.Common.{inl, inr, ⊎_elim, List, refl, sym, subst, arith}
use Rattle.std.proofs.lemmas.List.{take_more}
use Rattle.estate.specs.declared.loss.Loss.{Loss}
use Rattle.estate.specs.Calls.{LosesDue}
use Rattle.estate.specs.Shelf.{held_in}
use Rattle.estate.proofs.Laws.{rose_later, rose_earlier}
use Rattle.estate.proofs.Losing.{loses_then, loses_none}
use Rattle.estate.proofs.Due.{none_due, both_due}
use Rattle.estate.proofs.mem_estate.lose_due.Goals as goal

pub loop-loss-init : goal.loop-loss-init
loop-loss-init c = record { loses = loses_none c.args.since _ _ refl; later = omega arith; lost = λ name has. inl has; due = none_due c.args.call _ _ refl }

pub loop-loss-preserved : goal.loop-loss-preserved
loop-loss-preserved c = record {
  loses = loses_then c.args.since _ _ _ c.loop-loss.invariant.loses c.lose_if_due.ensures.loses;
  later = omega (arith, c.loop-loss.invariant.later, c.lose_if_due.ensures.later);
  lost = λ name has.
      ⊎_elim
      (λ still. ⊎_elim (λ now. inl now) (λ rose. inr (rose_later _ _ _ c.loop-loss.invariant.later rose)) (c.lose_if_due.ensures.lost name still))
      (λ rose. inr (rose_earlier _ _ _ rose c.lose_if_due.ensures.later))
      (c.loop-loss.invariant.lost name has);
  due =
      let none : Loss = record { call = 0; name = record { vertex = 0; subtask = 0; epoch = 0; attempt = 0 } } in
      subst (λ (l : List Loss). LosesDue l c.args.call (held_in c.args.shelf.now.parts.items) (held_in c.lose_if_due.new.shelf.parts.items))
      (sym (take_more c.args.losing.now c.loop-loss.loss-index none c.loop-loss-test.true))
      (both_due _ _ c.args.call _ _ _ c.loop-loss.invariant.due c.lose_if_due.ensures.due c.lose_if_due.ensures.fewer);
}
