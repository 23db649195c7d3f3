use Rattle.std.proofs.Common.{ℕ, ◌+◌, ◌*◌, List, [], ◌∷◌, ◌++◌, get_or, take, sym, ◌∙◌, ap, append_assoc}
use Rattle.std.specs.Prelude.{if◌then◌else◌}
use Rattle.std.specs.List.{flat_map}
use Rattle.std.proofs.lemmas.List.{flat_map_more, take_more}
use Rattle.number_set.specs.Levels.{marked_below}
use Rattle.number_set.specs.Members.{is_marked}
use Rattle.number_set.proofs.levels.spread.Goals as goal

pub loop-place-preserved : goal.loop-place-preserved
loop-place-preserved c =
    let below = c.args.below.now in
    let above = c.args.above.now in
    let i = c.loop-place.place in
    let f = marked_below below in
    let at = get_or above i 0 in
    let place_if = λ (n : ℕ). if is_marked below n then n ∷ [] else [] in
    c.in_ok-push_marked-2.ensures
    ∙ ap (λ (l : List ℕ). l ++ place_if (2 * at + 1)) c.in_ok-push_marked.ensures
    ∙ append_assoc c.loop-place.found.items (place_if (2 * at)) (place_if (2 * at + 1))
    ∙ ap (λ (l : List ℕ). l ++ f at) c.loop-place.invariant
    ∙ flat_map_more f [] (take i above) at
    ∙ ap (flat_map f) (sym (take_more above i 0 c.loop-place-test.true))
