use Rattle.std.proofs.Common.{ℕ, ◌≤◌, sym, subst, All}
use Rattle.rect_cover.specs.declared.rect.Rect.{Rect}
use Rattle.event_graph.proofs.Spans.{least_below, least_within}
use Rattle.event_graph.proofs.Touched.{none_below}
use Rattle.event_graph.proofs.producing.least_producer.Goals as goal

pub returns-clause-within : goal.returns-clause-within
returns-clause-within c = subst (λ (n : ℕ). n ≤ c.args.count) (sym c.least_start.ensures) (least_within c.args.rects.now c.args.count)

pub returns-clause-none : goal.returns-clause-none
returns-clause-none c =
    let rects = c.args.rects.now in
    let all = subst (λ (n : ℕ). All (λ (rect : Rect). n ≤ rect.p0) rects) (sym c.least_start.ensures) (least_below rects c.args.count) in
    λ p lt. none_below rects c.least_start.result p all lt
