use Rattle.std.proofs.Common.{ℕ, Bool, List, not, sym, ◌∙◌, ap, arith}
use Rattle.std.specs.List.{list_all}
use Rattle.vertex_builder.specs.declared.edge.Edge.{Edge}
use Rattle.vertex_builder.specs.Edges.{edges_into, is_chained}
use Rattle.vertex_builder.proofs.Chaining.{chained_at, head_at, unchained_next}
use Rattle.vertex_builder.proofs.links.Links.is_head.Goals as goal

pub returns-then-is_chained : goal.returns-then-is_chained
returns-then-is_chained c =
    let nodes = c.args.self.now in
    let widened = c.args.widened.now in
    let inputs = c.as_slice-inputs.result.now in
    let k = c.loop-place.place in
    let p : Edge → Bool = λ edge. not (is_chained nodes widened edge) in
    let fails = ap not (sym c.is_chained.ensures ∙ c.if-is_chained.true) in
    let whole = chained_at p c.args.node 0 k k inputs c.loop-place-test.true (omega arith) fails in
    sym (head_at nodes widened c.args.node c.node.result.now c.node.ensures.at
    ∙ ap (λ (ins : List ℕ). list_all p (edges_into c.args.node 0 ins)) (sym c.as_slice-inputs.ensures) ∙ whole)

pub loop-place-preserved : goal.loop-place-preserved
loop-place-preserved c =
    let nodes = c.args.self.now in
    let widened = c.args.widened.now in
    let p : Edge → Bool = λ edge. not (is_chained nodes widened edge) in
    unchained_next p c.args.node c.loop-place.place c.as_slice-inputs.result.now c.loop-place-test.true c.loop-place.invariant
    (ap not (sym c.is_chained.ensures ∙ c.if-is_chained.false))
