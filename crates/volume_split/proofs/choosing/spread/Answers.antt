use Rattle.std.proofs.Common.{◌∷◌, ◌++◌, [], arith, sym, ◌∙◌}
use Rattle.std.proofs.lemmas.List.FromFn.{map-range_with_len_more}
use Rattle.volume_split.specs.Groups.{even_group}
use Rattle.volume_split.proofs.choosing.spread.Goals as goal

pub loop-k-preserved : goal.loop-k-preserved
loop-k-preserved c =
    c.in_ok-push.ensures.items
    ∙ (λ i. c.loop-k.invariant i ++ record { start = c.share.ensures i; end = c.share-in-loop-k.ensures i } ∷ [])
    ∙ sym (map-range_with_len_more (even_group c.args.n c.args.m) 0 c.loop-k.k c.loop-k.k (omega arith))
