use Rattle.std.proofs.Common.{◌≡◌, ℕ, ◌<◌, ◌≤◌, ◌++◌, List, Bool, [], ◌∷◌, get_or, length, map, take, sym, ◌∙◌, ap, subst, arith}
use Rattle.std.specs.List.{flat_map}
use Rattle.std.proofs.lemmas.List.{flat_map_more, get_or_default, take_all, take_more}
use Rattle.number_set.specs.Members.{members}
use Rattle.number_set.specs.Pairs.{pair_of, pairs, pairs_at}
use Rattle.number_set.specs.declared.pair.Pair.{Pair}
use Rattle.number_set.proofs.Pairing.{all_pairs, members_within}
use Rattle.number_set.proofs.pair_set.PairSet.pairs.Goals as goal

pub index-requires : goal.index-requires
index-requires c =
    let groups = c.self.inside.groups.items in
    let filled = c.self.inside.filled in
    let place = c.loop-place.place in
    let items = c.in_ok-filled.filled.items in
    let group = c.index-group.result.now in
    let lt : place < length items = omega arith in
    let at : group ≡ get_or (members filled) place group = c.index-group.ensures ∙ ap (λ (l : List ℕ). get_or l place group) c.in_ok-filled.ensures in
    let within = members_within groups filled c.self.invariant place group (subst (λ (l : List ℕ). place < length l) c.in_ok-filled.ensures lt) in
    omega (arith, at, within)

pub loop-place-preserved : goal.loop-place-preserved
loop-place-preserved c =
    let groups = c.self.inside.groups.items in
    let filled = c.self.inside.filled in
    let place = c.loop-place.place in
    let items = c.in_ok-filled.filled.items in
    let group = c.index-group.result.now in
    let lt : place < length items = omega arith in
    let at : group ≡ get_or (members filled) place group = c.index-group.ensures ∙ ap (λ (l : List ℕ). get_or l place group) c.in_ok-filled.ensures in
    let within = members_within groups filled c.self.invariant place group (subst (λ (l : List ℕ). place < length l) c.in_ok-filled.ensures lt) in
    let inside : group < length groups = omega (arith, at, within) in
    let own = c.index.ensures ∙ get_or_default groups group c.index.result.now [] inside in
    c.in_ok-push_pairs.ensures
    ∙ ap (λ (l : List Bool). c.loop-place.found.items ++ map (pair_of group) (members l)) own
    ∙ ap (λ (l : List Pair). l ++ pairs_at groups group) c.loop-place.invariant
    ∙ flat_map_more (pairs_at groups) [] (take place items) group
    ∙ ap (λ (n : ℕ). flat_map (pairs_at groups) (take place items ++ n ∷ [])) c.index-group.ensures
    ∙ ap (flat_map (pairs_at groups)) (sym (take_more items place group lt))

pub returns : goal.returns
returns c =
    let groups = c.self.inside.groups.items in
    let filled = c.self.inside.filled in
    let items = c.in_ok-filled.filled.items in
    let le : length items ≤ c.loop-place.place = omega arith in
    c.loop-place.invariant
    ∙ ap (flat_map (pairs_at groups)) (take_all c.loop-place.place items le ∙ c.in_ok-filled.ensures)
    ∙ all_pairs groups filled c.self.invariant
    ∙ ap pairs c.self.view_is
