use Rattle.std.proofs.Common.{◌≡◌, ◌<◌, true, [], length, ◌∙◌, subst, arith}
use Rattle.std.proofs.lemmas.List.{get_or_default}
use Rattle.number_set.specs.Members.{IsEmpty, is_marked}
use Rattle.number_set.specs.Pairs.{group_at}
use Rattle.number_set.proofs.Below.{marked_within}
use Rattle.number_set.proofs.Pairing.{not_empty}
use Rattle.number_set.proofs.pair_set.PairSet.first.Goals as goal

pub returns-in_err-number-clause-none : goal.returns-in_err-number-clause-none
returns-in_err-number-clause-none c =
    let groups = c.self.inside.groups.items in
    let filled = c.self.inside.filled in
    let group = c.in_ok-group.group in
    let marked : is_marked filled group ≡ true = c.in_ok-group.ensures.some.is in
    let within = marked_within filled group marked in
    let len = c.self.invariant.len in
    let inside : group < length groups = omega (arith, within, len) in
    let is : c.index.result.now ≡ group_at groups group = c.index.ensures ∙ get_or_default groups group c.index.result.now [] inside in
    let here : IsEmpty (group_at groups group) = subst IsEmpty is c.in_err-number.ensures.none in
    absurd (not_empty groups filled group c.self.invariant marked here)
