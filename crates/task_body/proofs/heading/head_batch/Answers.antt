use Rattle.std.proofs.Common.{IfOk, ◌≡◌, List, true, false, map, take, get_or, sym, ◌∙◌, ap, subst}
use Rattle.std.specs.Arc.{arc_value}
use Rattle.std.proofs.lemmas.Result.{IfOk-weaker}
use Rattle.operator_laws.specs.Texts.{ConstantsFit}
use Rattle.plan_model.specs.Nodes.{Alike, IsGood}
use Rattle.plan_model.specs.Operators.{is_source}
use Rattle.plan_model.specs.Plans.{Bag, bag_of}
use Rattle.plan_model.specs.declared.op.Op.{Op}
use Rattle.vertex_builder.specs.Vertices.{head_of}
use Rattle.vertex_laws.specs.VertexRows.{head_count, no_files, op_at}
use Rattle.task_body.specs.Inputs.{ReadsFiles, input_bag}
use Rattle.task_body.specs.TaskRows.{task_head}
use Rattle.task_body.specs.declared.task_input.TaskInput.{TaskInput}
use Rattle.task_body.proofs.Heads.{ReadsOne, head_constants, head_good, head_is, one_head, reads_one}
use Rattle.task_body.proofs.Inputs.{not_source, one_item}
use Rattle.task_body.proofs.heading.head_batch.Goals as goal

-- what a source reads
reads : (c : goal.After-index-heads-0) → ReadsOne c.args.task.now c.index-heads-0.result
reads c =
    let task = c.args.task.now in
    let source : is_source (op_at (arc_value task.plan) (head_of task.vertex)) ≡ true = ap is_source (sym c.head_op-op.ensures ∙ c.in-Source.is) in
    let heads = take (head_count (arc_value task.plan) task.vertex) task.inputs.items in
    let is = subst (λ (l : List TaskInput). c.index-heads-0.result ≡ get_or l 0 c.index-heads-0.result) c.head_inputs-heads.ensures c.index-heads-0.is in
    reads_one task source c.index-heads-0.result (one_item heads c.index-heads-0.result (one_head task source) is)

pub read_input-requires-clause-files : goal.read_input-requires-clause-files
read_input-requires-clause-files c = subst (λ (o : Op). ReadsFiles o c.index-heads-0.result.width) (sym c.head_op-op.ensures) (reads c).files

pub read_input-requires-clause-narrow : goal.read_input-requires-clause-narrow
read_input-requires-clause-narrow c = (reads c).narrow

pub returns-in-Source-clause-given : goal.returns-in-Source-clause-given
returns-in-Source-clause-given c =
    let task = c.args.task.now in
    let source : is_source (op_at (arc_value task.plan) (head_of task.vertex)) ≡ true = ap is_source (sym c.head_op-op.ensures ∙ c.in-Source.is) in
    let heads = take (head_count (arc_value task.plan) task.vertex) task.inputs.items in
    let first = c.index-heads-0.result in
    let is = subst (λ (l : List TaskInput). first ≡ get_or l 0 first) c.head_inputs-heads.ensures c.index-heads-0.is in
    let one = reads_one task source first (one_item heads first (one_head task source) is) in
    IfOk-weaker c.read_input.result (λ batch. Alike batch (input_bag c.head_op-op.result.now first)) (λ batch. Alike batch (task_head task))
    (λ batch here. one.given batch (subst (λ (o : Op). Alike batch (input_bag o first)) c.head_op-op.ensures here)) c.read_input.ensures.read

pub operate-requires : goal.operate-requires
operate-requires c =
    let task = c.args.task.now in
    let op = op_at (arc_value task.plan) (head_of task.vertex) in
    let heads = take (head_count (arc_value task.plan) task.vertex) task.inputs.items in
    let other : is_source c.head_op-op.result.now ≡ false = not_source c.head_op-op.result.now c.in_default.not-Source in
    let plain : is_source op ≡ false = ap is_source (sym c.head_op-op.ensures) ∙ other in
    record {
      reads = other;
      good = subst (λ (l : List TaskInput). IsGood c.head_op-op.result.now (map (input_bag c.head_op-op.result.now) l)) (sym c.head_inputs-heads.ensures)
          (subst (λ (o : Op). IsGood o (map (input_bag o) heads)) (sym c.head_op-op.ensures) (head_good task plain));
      constants = subst ConstantsFit (sym c.head_op-op.ensures) (head_constants task);
    }

pub returns-in_default : goal.returns-in_default
returns-in_default c =
    let task = c.args.task.now in
    let op = op_at (arc_value task.plan) (head_of task.vertex) in
    let heads = take (head_count (arc_value task.plan) task.vertex) task.inputs.items in
    let plain : is_source op ≡ false = ap is_source (sym c.head_op-op.ensures) ∙ not_source c.head_op-op.result.now c.in_default.not-Source in
    let read = bag_of no_files c.head_op-op.result.now (map (input_bag c.head_op-op.result.now) c.head_inputs-heads.result.now) in
    let is : read ≡ task_head task =
    ap (λ (l : List TaskInput). bag_of no_files c.head_op-op.result.now (map (input_bag c.head_op-op.result.now) l)) c.head_inputs-heads.ensures
    ∙ ap (λ (o : Op). bag_of no_files o (map (input_bag o) heads)) c.head_op-op.ensures ∙ sym (head_is task plain) in
    record {
      given = subst (λ (bag : Bag). IfOk c.operate.result (λ batch. Alike batch bag)) is c.operate.ensures.given;
      fit = c.operate.ensures.fit;
    }
