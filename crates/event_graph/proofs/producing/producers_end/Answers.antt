use Rattle.std.proofs.Common.{ℕ, ◌≤◌, ◌<◌, min, sym, subst, arith, All}
use Rattle.rect_cover.specs.declared.rect.Rect.{Rect}
use Rattle.event_graph.proofs.Spans.{ends_within}
use Rattle.event_graph.proofs.Touched.{none_past}
use Rattle.event_graph.proofs.producing.producers_end.Goals as goal

pub returns-clause-none : goal.returns-clause-none
returns-clause-none c =
    let rects = c.args.rects.now in
    let end = c.greatest_end.result in
    let all = subst (λ (n : ℕ). All (λ (rect : Rect). rect.p1 ≤ n) rects) (sym c.greatest_end.ensures) (ends_within rects 0) in
    λ p le lt. none_past rects end p all (past end c.args.count p (subst (λ (n : ℕ). n ≤ p) c.min.ensures le) lt)
  where
    past : (end count p : ℕ) → min end count ≤ p → p < count → end ≤ p
    past end count p le lt = omega (arith, le, lt)
