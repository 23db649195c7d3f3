use Rattle.std.proofs.Common.{◌≡◌, fold, min, take}
use Rattle.event_graph.proofs.producing.least_start.Given as goal

abbrev pub invariant-loop-rect : goal.invariant-loop-rect
invariant-loop-rect l = l.least ≡ fold (λ least rect. min least rect.p0) l.count (take l.rect-index l.rects)
