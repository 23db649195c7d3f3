use Rattle.std.proofs.Common.{Bool, ap, ◌≡◌, ◌∙◌, sym, ℕ, List, ◌+◌, ◌-◌, ◌++◌, append_assoc, [], ◌∷◌, map, arith}
use Rattle.std.specs.Prelude.{if◌then◌else◌}
use Rattle.std.proofs.lemmas.List.{append-nil}
use Rattle.graph_model.specs.Reads.{touched, touches_producer}
use Rattle.event_graph.proofs.Touched.{touched_more, touched_none, touched_to}
use Rattle.event_graph.proofs.producing.push_touched.Goals as goal

pub loop-producer-init : goal.loop-producer-init
loop-producer-init c =
    let rects = c.args.rects.now in
    let first = c.args.first in
    let old = c.args.list.now.items in
    let none = touched_none rects c.least_producer-producer.result c.least_producer-producer.ensures.none in
    record {
      list = sym (ap (λ (l : List ℕ). old ++ map (λ (p : ℕ). first + p) l) none ∙ append-nil old);
      within = c.least_producer-producer.ensures.within;
    }

pub loop-producer-preserved : goal.loop-producer-preserved
loop-producer-preserved c =
    let n = c.loop-producer.producer in
    let rects = c.args.rects.now in
    let first = c.args.first in
    let one : List ℕ = if touches_producer rects n then (first + n) ∷ [] else [] in
    let old = c.args.list.now.items in
    let before = map (λ (p : ℕ). first + p) (touched rects n) in
    record {
      list = c.in_ok-push_if.ensures ∙ ap (λ (b : Bool). c.loop-producer.list.items ++ (if b then (first + n) ∷ [] else [])) c.touches.ensures
          ∙ ap (λ (l : List ℕ). l ++ one) c.loop-producer.invariant.list ∙ append_assoc old before one ∙ ap (λ (l : List ℕ). old ++ l) (sym (touched_more first rects n));
      within = omega (arith, c.loop-producer-test.true, c.producers_end-producer-end.ensures.within);
    }

pub returns : goal.returns
returns c =
    let n = c.loop-producer.producer in
    let rects = c.args.rects.now in
    let first = c.args.first in
    let count = c.args.count in
    let d = count - n in
    let to : n + d ≡ count = omega (arith, c.loop-producer.invariant.within) in
    let past = touched_to rects n d (λ p le lt. c.producers_end-producer-end.ensures.none p (omega (arith, le, c.loop-producer-test.false)) (omega (arith, lt, to))) in
    c.loop-producer.invariant.list ∙ ap (λ (l : List ℕ). c.args.list.now.items ++ map (λ (p : ℕ). first + p) l) (sym past ∙ ap (touched rects) to)
