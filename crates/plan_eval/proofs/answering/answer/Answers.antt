use Rattle.std.proofs.Common.{◌≡◌, ℕ, ◌+◌, ◌<◌, List, [], ◌∷◌, ◌++◌, length, map, nat_lt, get_or, take, true, slice_index_or, sym, ap, subst, ◌∙◌}
use Rattle.std.proofs.lemmas.List.{take_more, take_all}
use Rattle.plan_model.proofs.Laws.{good_node, node_read}
use Rattle.plan_model.specs.Nodes.{IsGoodNode}
use Rattle.plan_model.specs.Plans.{Bag, bag_at, committed_text, sink_section}
use Rattle.plan_model.specs.declared.node.Node.{Node}
use Rattle.plan_eval.specs.Evaluated.{Stays}
use Rattle.plan_eval.specs.Tables.{files_of}
use Rattle.plan_eval.specs.Takers.{AreLast}
use Rattle.plan_eval.proofs.Steps.{IsEvaluated, earlier, good, text_more, one_more, none_evaluated, long_found}
use Rattle.plan_eval.proofs.Taken.{taken_here}
use Rattle.plan_eval.proofs.answering.answer.Goals as goal

one_taken : (nodes : List Node) (k : ℕ) (node : Node) → k < length nodes → node ≡ slice_index_or nodes k node → take (k + 1) nodes ≡ take k nodes ++ node ∷ []
one_taken nodes k node lt is = take_more nodes k node lt ∙ ap (λ (n : Node). take k nodes ++ n ∷ []) (sym is)

pub run-requires : goal.run-requires
run-requires c =
    let nodes = c.nodes-nodes.result.now in
    let k = c.loop-node.node-index in
    let node = c.node-item.result in
    let e = c.loop-node.evaluation in
    let here = c.loop-node.invariant in
    let sound : IsGoodNode (take k nodes) node =
    good_node nodes k node c.nodes-nodes.ensures.faultless (node_read nodes k node c.loop-node-test.true c.node-item.is) in
    let taken = taken_here nodes e.last.items k node here.last c.loop-node-test.true c.node-item.is sound in
    record {
      earlier = earlier (files_of c.args.tables.now) e.last.items (take k nodes) e.outputs.items here.evaluated node sound taken;
      good = good (files_of c.args.tables.now) e.last.items (take k nodes) e.outputs.items here.evaluated node sound taken;
    }

pub loop-node-preserved : goal.loop-node-preserved
loop-node-preserved c =
    let files = files_of c.args.tables.now in
    let nodes = c.nodes-nodes.result.now in
    let k = c.loop-node.node-index in
    let before = take k nodes in
    let node = c.node-item.result in
    let e = c.loop-node.evaluation in
    let last = e.last.items in
    let bags = e.outputs.items in
    let left = c.run.new.self in
    let stays = left.outputs.items in
    let lt = c.loop-node-test.true in
    let here = c.loop-node.invariant in
    let so_far = here.evaluated in
    let sound : IsGoodNode before node = good_node nodes k node c.nodes-nodes.ensures.faultless (node_read nodes k node lt c.node-item.is) in
    let taken = taken_here nodes last k node here.last lt c.node-item.is sound in
    let more : take (k + 1) nodes ≡ before ++ node ∷ [] = one_taken nodes k node lt c.node-item.is in
    let ran = c.in_ok-output.ensures in
    let bag = c.in_ok-output.output in
    let same_last = c.in_ok-push.ensures.last ∙ ran.kept.last in
    let kept : Stays (λ place. nat_lt (length before) (get_or last place 0) ≡ true) bags stays =
    subst (λ (n : ℕ). Stays (λ place. nat_lt n (get_or last place 0) ≡ true) bags stays) (long_found files last before bags so_far) ran.kept.outputs in
    record {
      last = subst (λ (last : List ℕ). AreLast nodes last) (sym same_last) here.last;
      evaluated = subst (λ (last : List ℕ). IsEvaluated files last (take (k + 1) nodes) c.push.new.self.outputs.items) (sym same_last)
          (subst (λ (nodes : List Node). IsEvaluated files last nodes c.push.new.self.outputs.items) (sym more)
          (subst (λ (bags : List Bag). IsEvaluated files last (before ++ node ∷ []) bags) (sym c.in_ok-push.ensures.outputs)
          (one_more files last before bags so_far node sound taken bag ran.output.width ran.output.rows stays kept)));
      written = c.in_ok-push.ensures.text ∙ ran.text
          ∙ (λ i. here.written i ++ sink_section node.op (bag_at (map (bag_at bags) node.inputs) 0))
          ∙ sym (text_more files last before bags so_far node sound taken)
          ∙ ap (committed_text files) (sym more);
    }

pub loop-node-init : goal.loop-node-init
loop-node-init c = record {
  last = c.in_ok-evaluation.ensures.last;
  evaluated = subst (λ (bags : List Bag). IsEvaluated (files_of c.args.tables.now) c.in_ok-evaluation.evaluation.last.items [] bags) (sym c.in_ok-evaluation.ensures.outputs)
      (none_evaluated (files_of c.args.tables.now) c.in_ok-evaluation.evaluation.last.items);
  written = c.in_ok-evaluation.ensures.text;
}

pub returns : goal.returns
returns c =
    c.into_text.ensures ∙ c.loop-node.invariant.written
    ∙ ap (committed_text (files_of c.args.tables.now)) (take_all c.loop-node.node-index c.nodes-nodes.result.now c.loop-node-test.false ∙ c.nodes-nodes.ensures.same)
