use Rattle.std.proofs.Common.{◌≡◌, fold, max, take}
use Rattle.event_graph.proofs.producing.greatest_end.Given as goal

abbrev pub invariant-loop-rect : goal.invariant-loop-rect
invariant-loop-rect l = l.end ≡ fold (λ end rect. max end rect.p1) 0 (take l.rect-index l.rects)
