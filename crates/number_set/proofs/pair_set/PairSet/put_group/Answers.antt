use Rattle.std.proofs.Common.{◌≡◌, ℕ, ◌<◌, true, false, List, Bool, length, set, sym, ◌∙◌, subst}
use Rattle.number_set.specs.Members.{IsEmpty, is_marked}
use Rattle.number_set.specs.Pairs.{TellsGroups}
use Rattle.number_set.proofs.Pairing.{tells_set, some_first, none_first}
use Rattle.number_set.proofs.pair_set.PairSet.put_group.Goals as goal

pub invariant_of-self : goal.invariant_of-self
invariant_of-self c =
    let groups = c.self.inside.groups.items in
    let filled = c.self.inside.filled in
    let group = c.args.group in
    let marks = c.args.numbers in
    let mark = c.is_some-filled.result in
    let inside = subst (λ (l : List (List Bool)). group < length l) (sym c.self.view_is) c.requires in
    let some : (n : ℕ) → is_marked marks n ≡ true → mark ≡ true = λ n is. c.is_some-filled.ensures ∙ some_first marks c.first.result c.first.ensures.none n is in
    let none : IsEmpty marks → mark ≡ false = λ nothing. c.is_some-filled.ensures ∙ none_first marks c.first.result c.first.ensures.some nothing in
    subst (λ (l : List Bool). TellsGroups (set groups group marks) l) (sym c.set.ensures)
    (tells_set groups filled marks group mark c.self.invariant inside some none)
