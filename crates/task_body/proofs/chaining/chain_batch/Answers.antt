use Rattle.std.proofs.Common.{◌≡◌, ◌<◌, ℕ, List, Option, IsTrue, length, get_or, drop, sym, ◌∙◌, ap, subst}
use Rattle.std.specs.Arc.{arc_value}
use Rattle.std.proofs.lemmas.Option.{slice_get_within}
use Rattle.operator_laws.specs.Texts.{ConstantsFit}
use Rattle.plan_model.specs.Nodes.{Alike, IsGood}
use Rattle.plan_model.specs.Plans.{bag_of}
use Rattle.plan_model.specs.declared.node.Node.{Node}
use Rattle.plan_model.specs.declared.op.Op.{Op}
use Rattle.plan_model.specs.declared.side.Side.{Side}
use Rattle.vertex_builder.specs.Edges.{build_side, is_join}
use Rattle.vertex_builder.specs.declared.vertex.Vertex.{Vertex}
use Rattle.vertex_laws.specs.VertexRows.{no_files, op_at, taken_bags}
use Rattle.task_body.specs.Inputs.{build_read, builds_behind}
use Rattle.task_body.specs.declared.task_input.TaskInput.{TaskInput}
use Rattle.task_body.proofs.Chains.{IsAt, begins, ends, next_is, on_is}
use Rattle.task_body.proofs.chaining.chain_batch.Goals as goal

pub loop-chain-init : goal.loop-chain-init
loop-chain-init c =
    let task = c.args.task.now in
    let chain : c.as_slice-chain.result.now ≡ task.vertex.nodes = c.as_slice-chain.ensures ∙ ap (λ (v : Vertex). v.nodes) c.vertex.ensures in
    subst (λ (l : List ℕ). IsAt task c.args.head l c.build_inputs-builds.result.now) (sym chain)
    (subst (λ (l : List TaskInput). IsAt task c.args.head task.vertex.nodes l) (sym c.build_inputs-builds.ensures) (begins task c.args.head c.requires.given c.requires.fit))

pub op_at-op-requires : goal.op_at-op-requires
op_at-op-requires c =
    let task = c.args.task.now in
    let next = next_is task c.loop-chain.batch c.loop-chain.chain.now c.loop-chain.builds.now c.loop-chain.invariant c.loop-chain-test.true in
    subst (λ (l : List Node). get_or c.loop-chain.chain.now 1 0 < length l) (sym (c.nodes-nodes.ensures.same ∙ c.plan.ensures))
    (slice_get_within (arc_value task.plan) (get_or c.loop-chain.chain.now 1 0) next.it next.at)

pub build_side-side-requires : goal.build_side-side-requires
build_side-side-requires c =
    let task = c.args.task.now in
    let next = next_is task c.loop-chain.batch c.loop-chain.chain.now c.loop-chain.builds.now c.loop-chain.invariant c.loop-chain-test.true in
    subst (λ (l : List Node). get_or c.loop-chain.chain.now 1 0 < length l) (sym (c.nodes-nodes.ensures.same ∙ c.plan.ensures))
    (slice_get_within (arc_value task.plan) (get_or c.loop-chain.chain.now 1 0) next.it next.at)

pub link-requires : goal.link-requires
link-requires c =
    let task = c.args.task.now in
    let node = get_or c.loop-chain.chain.now 1 0 in
    let batch = c.loop-chain.batch in
    let builds = c.loop-chain.builds.now in
    let next = next_is task batch c.loop-chain.chain.now builds c.loop-chain.invariant c.loop-chain-test.true in
    let nodes : c.nodes-nodes.result.now ≡ arc_value task.plan = c.nodes-nodes.ensures.same ∙ c.plan.ensures in
    let wide : c.as_slice-widened.result.now ≡ task.widened = c.as_slice-widened.ensures ∙ c.widened.ensures in
    let op : op_at (arc_value task.plan) node ≡ c.op_at-op.result.now = sym (c.op_at-op.ensures ∙ ap (λ (l : List Node). op_at l node) nodes) in
    let side : build_side (arc_value task.plan) task.widened node ≡ c.build_side-side.result =
    sym (c.build_side-side.ensures ∙ (λ i. build_side (nodes i) (wide i) node)) in
    record {
      joins = λ build e. subst (λ (o : Op). IsTrue (is_join o)) op (next.joins build (side ∙ e));
      built = λ build e. next.built build (side ∙ e);
      good = subst (λ (o : Op). IsGood o (taken_bags c.build_side-side.result batch (build_read o builds))) op
          (subst (λ (s : Option Side). IsGood (op_at (arc_value task.plan) node) (taken_bags s batch (build_read (op_at (arc_value task.plan) node) builds))) side next.good);
      constants = subst ConstantsFit op next.constants;
      fit = c.loop-chain.invariant.fit;
    }

pub loop-chain-preserved : goal.loop-chain-preserved
loop-chain-preserved c =
    let task = c.args.task.now in
    let chain = c.loop-chain.chain.now in
    let node = get_or chain 1 0 in
    let batch = c.loop-chain.batch in
    let builds = c.loop-chain.builds.now in
    let given = c.in_ok-batch.batch in
    let nodes : c.nodes-nodes.result.now ≡ arc_value task.plan = c.nodes-nodes.ensures.same ∙ c.plan.ensures in
    let wide : c.as_slice-widened.result.now ≡ task.widened = c.as_slice-widened.ensures ∙ c.widened.ensures in
    let op : c.op_at-op.result.now ≡ op_at (arc_value task.plan) node = c.op_at-op.ensures ∙ ap (λ (l : List Node). op_at l node) nodes in
    let side : c.build_side-side.result ≡ build_side (arc_value task.plan) task.widened node = c.build_side-side.ensures ∙ (λ i. build_side (nodes i) (wide i) node) in
    let same = subst (λ (o : Op). Alike given (bag_of no_files o (taken_bags c.build_side-side.result batch (build_read o builds)))) op c.in_ok-batch.ensures.given in
    let at_side = subst (λ (s : Option Side). Alike given (bag_of no_files (op_at (arc_value task.plan) node) (taken_bags s batch (build_read (op_at (arc_value task.plan) node) builds)))) side same in
    let next = on_is task batch chain builds given c.loop-chain.invariant c.loop-chain-test.true at_side c.in_ok-batch.ensures.fit in
    let left : builds_behind (build_side (arc_value task.plan) task.widened node) builds ≡ c.builds_behind-builds.result.now =
    sym (c.builds_behind-builds.ensures ∙ ap (λ (s : Option Side). builds_behind s builds) side) in
    subst (λ (l : List ℕ). IsAt task given l c.builds_behind-builds.result.now) (sym c.behind_first-chain.ensures)
    (subst (λ (l : List TaskInput). IsAt task given (drop 1 chain) l) left next)

pub returns : goal.returns
returns c =
    let at = c.loop-chain.invariant in
    let end = ends c.args.task.now c.loop-chain.batch c.loop-chain.chain.now c.loop-chain.builds.now at c.loop-chain-test.false in
    record { rows = end.0; width = end.1; fit = at.fit }
