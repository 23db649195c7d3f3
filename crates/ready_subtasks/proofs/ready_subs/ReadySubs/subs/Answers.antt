use Rattle.std.proofs.Common.{All, sym, ◌∙◌, subst}
use Rattle.ready_subtasks.proofs.Marking.{IsSmallPair, pairs_small}
use Rattle.ready_subtasks.proofs.ready_subs.ReadySubs.subs.Goals as goal

pub subs_of_pairs-requires-clause-groups : goal.subs_of_pairs-requires-clause-groups
subs_of_pairs-requires-clause-groups c = λ k d lt.
    (subst (All IsSmallPair) (sym (c.as_slice.ensures.value ∙ c.in_ok-pairs.ensures)) (pairs_small c.self.inside.pairs c.self.invariant) k d lt).0

pub subs_of_pairs-requires-clause-numbers : goal.subs_of_pairs-requires-clause-numbers
subs_of_pairs-requires-clause-numbers c = λ k d lt.
    (subst (All IsSmallPair) (sym (c.as_slice.ensures.value ∙ c.in_ok-pairs.ensures)) (pairs_small c.self.inside.pairs c.self.invariant) k d lt).1
