use Rattle.std.proofs.Common.{rules, inl, inr, Contains, subst, sym, refl, List}
use Rattle.estate.specs.declared.shelved.Shelved.{Shelved}
use Rattle.estate.specs.Shelf.{held_in}
use Rattle.estate.proofs.Losing.{loses_from, loses_none, loses_fewer}
use Rattle.estate.proofs.Due.{one_due, other_due}
use Rattle.estate.proofs.Calling.{rose_by}
use Rattle.estate.proofs.mem_estate.lose_if_due.Goals as goal

pub returns-then-loss-call-clause-loses : goal.returns-then-loss-call-clause-loses
returns-then-loss-call-clause-loses c = loses_none c.args.since _ _ refl

pub returns-then-loss-call-clause-lost : goal.returns-then-loss-call-clause-lost
returns-then-loss-call-clause-lost c = λ name has. inl has

pub returns-then-lose-clause-loses : goal.returns-then-lose-clause-loses
returns-then-lose-clause-loses c = loses_from c.args.loss.now.name c.args.since c.args.shelf.now.parts.items c.lose.new.self.parts.items (c.lose.ensures.lost c.if-lose.true)

pub returns-then-lose-clause-lost : goal.returns-then-lose-clause-lost
returns-then-lose-clause-lost c = λ name has. inr (rose_by c.args.losses.now c.saturating_add.result c.saturating_add.ensures)

pub returns-else-lose-clause-loses : goal.returns-else-lose-clause-loses
returns-else-lose-clause-loses c = loses_none c.args.since _ _ (c.lose.ensures.same c.if-lose.false)

pub returns-else-lose-clause-lost : goal.returns-else-lose-clause-lost
returns-else-lose-clause-lost c = λ name has. inl (subst (λ (l : List Shelved). Contains (held_in l) name) (sym (c.lose.ensures.same c.if-lose.false)) has)

pub returns-then-loss-call-clause-due : goal.returns-then-loss-call-clause-due
returns-then-loss-call-clause-due c = other_due c.args.loss.now c.args.call _ _ (search rules) refl

pub returns-then-loss-call-clause-fewer : goal.returns-then-loss-call-clause-fewer
returns-then-loss-call-clause-fewer c = λ name has. has

pub returns-then-lose-clause-due : goal.returns-then-lose-clause-due
returns-then-lose-clause-due c = one_due c.args.loss.now c.args.call _ _ (search rules) c.lose.ensures.gone c.lose.ensures.others

pub returns-then-lose-clause-fewer : goal.returns-then-lose-clause-fewer
returns-then-lose-clause-fewer c = loses_fewer c.args.loss.now.name c.args.since _ _ (c.lose.ensures.lost c.if-lose.true)

pub returns-else-lose-clause-due : goal.returns-else-lose-clause-due
returns-else-lose-clause-due c = one_due c.args.loss.now c.args.call _ _ (search rules) c.lose.ensures.gone c.lose.ensures.others

pub returns-else-lose-clause-fewer : goal.returns-else-lose-clause-fewer
returns-else-lose-clause-fewer c = λ name has. subst (λ (l : List Shelved). Contains (held_in l) name) (c.lose.ensures.same c.if-lose.false) has
