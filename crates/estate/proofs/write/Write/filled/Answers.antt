use Rattle.std.proofs.Common.{◌++◌, ◌∷◌, [], ℕ, List, map, ◌∙◌, ap, sym, arith}
use Rattle.std.proofs.lemmas.List.{take_more, map-append}
use Rattle.estate.proofs.write.Write.filled.Goals as goal

pub loop-preserved : goal.loop-preserved
loop-preserved c =
    let items = c.as_slice-items.result.now in
    c.in_ok-push.ensures.ok ∙ ap (λ (l : List ℕ). l ++ 255 ∷ []) c.loop.invariant
    ∙ sym (ap (λ (l : List ℕ). map (λ _. 255) l) (take_more items c.loop.index 0 (omega arith)) ∙ map-append _ _ _)
