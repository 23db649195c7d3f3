use Rattle.std.proofs.Common.{◌+◌, ◌*◌, ◌/◌, ◌%◌, ◌≤◌, List, Bool, [], ◌∷◌, ◌++◌, sym, ◌∙◌, ap, subst, arith}
use Rattle.number_set.proofs.Growing.{IsGrowing, growing_more}
use Rattle.number_set.proofs.levels.new_levels.Goals as goal

pub loop-size-preserved : goal.loop-size-preserved
loop-size-preserved c =
    let levels = c.loop-size.levels.items in
    let size = c.loop-size.size in
    let next = size / 2 + size % 2 in
    let half : size ≤ 2 * next = omega arith in
    let few : 2 * next ≤ size + 1 = omega arith in
    let is = c.in_ok-push-2.ensures.items ∙ ap (λ (marks : List Bool). levels ++ marks ∷ []) c.in_ok-new-2.ensures.marks in
    subst (λ (items : List (List Bool)). IsGrowing items c.args.count c.args.mark next) (sym is) (growing_more levels c.args.count c.args.mark size next c.loop-size.invariant half few)
