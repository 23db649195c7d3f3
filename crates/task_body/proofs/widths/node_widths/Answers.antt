use Rattle.std.proofs.Common.{◌≡◌, ℕ, ◌≤◌, List, [], ◌∷◌, ◌++◌, All, take, sym, ◌∙◌, ap, subst, arith}
use Rattle.std.proofs.lemmas.List.Elements.{All-push}
use Rattle.plan_model.specs.Widths.{width_of, widths_of, input_widths}
use Rattle.plan_model.proofs.Laws.{good_node, node_read, widths_of-next}
use Rattle.task_body.proofs.widths.node_widths.Goals as goal

narrow_at : (width other : ℕ) → width ≡ other → other ≤ 256 → width ≤ 256
narrow_at width other e le = omega (arith, e, le)

width_is : (c : goal.After-widths-in-loop-node-2-1) → c.width-width.result ≡ width_of c.node-item.result.op (input_widths (widths_of (take c.loop-node.node-index c.args.nodes.now)) c.node-item.result.inputs)
width_is c = c.width-width.ensures ∙ ap (width_of c.node-item.result.op) (c.as_slice-in-loop-node.ensures.value ∙ c.in_ok-inputs.ensures.widths
    ∙ ap (λ (widths : List ℕ). input_widths widths c.node-item.result.inputs) (c.as_slice.ensures.value ∙ c.loop-node.invariant.widths))

pub overflow_cast-width : goal.overflow_cast-width
overflow_cast-width c =
    let nodes = c.args.nodes.now in
    let k = c.loop-node.node-index in
    let node = c.node-item.result in
    let good = good_node nodes k node c.requires (node_read nodes k node c.loop-node-test.true c.node-item.is) in
    let le = narrow_at c.width-width.result (width_of node.op (input_widths (widths_of (take k nodes)) node.inputs)) (width_is c) good.narrow in
    omega (arith, le)

pub loop-node-preserved : goal.loop-node-preserved
loop-node-preserved c =
    let nodes = c.args.nodes.now in
    let k = c.loop-node.node-index in
    let node = c.node-item.result in
    let before = widths_of (take k nodes) in
    let inputs = c.as_slice-in-loop-node.ensures.value ∙ c.in_ok-inputs.ensures.widths ∙ ap (λ (widths : List ℕ). input_widths widths node.inputs) (c.as_slice.ensures.value ∙ c.loop-node.invariant.widths) in
    let width = c.width-width.ensures ∙ ap (width_of node.op) inputs in
    let good = good_node nodes k node c.requires (node_read nodes k node c.loop-node-test.true c.node-item.is) in
    let pushed = c.in_ok-push.ensures.items in
    record {
      widths = pushed ∙ ap (λ (n : ℕ). c.loop-node.widths.items ++ n ∷ []) width
          ∙ ap (λ (widths : List ℕ). widths ++ width_of node.op (input_widths before node.inputs) ∷ []) c.loop-node.invariant.widths
          ∙ sym (widths_of-next nodes k node c.loop-node-test.true c.node-item.is);
      narrow = subst (λ (widths : List ℕ). All (λ width. width ≤ 256) widths) (sym pushed)
          (All-push (λ width. width ≤ 256) c.loop-node.widths.items c.width-width.result c.loop-node.invariant.narrow (narrow_at c.width-width.result (width_of node.op (input_widths before node.inputs)) width good.narrow));
    }
