use Rattle.std.proofs.Common.{◌≡◌, ◌+◌, ◌/◌, ◌<◌, List, Bool, [], length, set, sym, ◌∙◌, ap, subst, arith}
use Rattle.std.proofs.lemmas.List.{get_or_default}
use Rattle.number_set.specs.Levels.{level_at}
use Rattle.number_set.proofs.Rising.{IsUnderway, underway_first, underway_more}
use Rattle.number_set.proofs.levels.set_mark.Goals as goal

pub loop-above-init : goal.loop-above-init
loop-above-init c =
    let old = c.args.levels.now.items in
    let place = c.args.place in
    let mark = c.args.mark in
    let is : c.set.new.self ≡ set (level_at old 0) place mark =
    c.set.ensures ∙ ap (λ (l : List Bool). set l place mark) (c.index_mut.ensures.value ∙ get_or_default old 0 c.index_mut.result.now [] c.requires.levels.some) in
    subst (λ (l : List Bool). IsUnderway old (set old 0 l) place mark 1 place) (sym is) (underway_first old place mark c.requires.levels c.requires.inside)

pub loop-above-preserved : goal.loop-above-preserved
loop-above-preserved c =
    let old = c.args.levels.now.items in
    let now = c.loop-above.levels.items in
    let inside : c.loop-above.above < length now = omega arith in
    subst (λ (items : List (List Bool)). IsUnderway old items c.args.place c.args.mark (c.loop-above.above + 1) (c.loop-above.at / 2)) (sym c.renew.ensures)
    (underway_more old now c.args.place c.args.mark c.loop-above.above c.loop-above.at c.requires.levels c.loop-above.invariant inside)
