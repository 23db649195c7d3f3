use Rattle.std.proofs.Common.{Some, Option, sym, subst}
use Rattle.std.proofs.lemmas.Result.{IfOk-weaker}
use Rattle.operator_laws.proofs.Laws.{bags_same}
use Rattle.plan_model.specs.Nodes.{Alike}
use Rattle.plan_model.specs.Plans.{Bag, bag_of}
use Rattle.plan_model.specs.declared.side.Side.{Side}
use Rattle.task_body.specs.Inputs.{build_read, input_bag}
use Rattle.vertex_laws.specs.VertexRows.{no_files, taken_bags}
use Rattle.task_body.proofs.Alike.{alike_itself, alike_on}
use Rattle.task_body.proofs.Chains.{taken_alike}
use Rattle.task_body.proofs.Inputs.{first_read}
use Rattle.task_body.proofs.chaining.link.Goals as goal

pub returns-in_ok-build-in-Some-clause-given : goal.returns-in_ok-build-in-Some-clause-given
returns-in_ok-build-in-Some-clause-given c =
    let op = c.args.op.now in
    let batch = c.args.batch in
    let side = c.in-Some.side in
    let build = c.in_ok-build-in-Some.build in
    let first = c.index-builds-0.result in
    let read = bag_of no_files op (taken_bags (Some side) batch build) in
    let meant = bag_of no_files op (taken_bags c.args.side batch (build_read op c.args.builds.now)) in
    let same = bags_same no_files op (taken_bags (Some side) batch build) (taken_bags (Some side) batch (input_bag op first))
    (taken_alike (Some side) batch batch build (input_bag op first) (alike_itself batch) c.in_ok-build-in-Some.ensures.read) in
    let is = first_read op c.args.builds.now first (c.requires.built side c.in-Some.is) c.index-builds-0.is in
    let at_side = subst (λ (o : Option Side). Alike read (bag_of no_files op (taken_bags o batch (input_bag op first)))) (sym c.in-Some.is) same in
    let whole : Alike read meant = subst (λ (b : Bag). Alike read (bag_of no_files op (taken_bags c.args.side batch b))) (sym is) at_side in
    IfOk-weaker c.join_to.result (λ given. Alike given read) (λ given. Alike given meant) (λ given here. alike_on given read meant here whole) c.join_to.ensures.given
