use Rattle.std.proofs.Common.{[], ◌∷◌, List, length, map, sym, ◌∙◌, subst}
use Rattle.std.proofs.lemmas.List.{length-map}
use Rattle.std.proofs.lemmas.Result.{IfOk-weaker}
use Rattle.operator_laws.proofs.Laws.{bags_same}
use Rattle.plan_model.specs.Nodes.{Alike}
use Rattle.plan_model.specs.Plans.{bag_of}
use Rattle.plan_model.specs.declared.op.Op.{Op}
use Rattle.plan_model.specs.declared.op.Op.TheVariants.{Join}
use Rattle.task_body.specs.Inputs.{input_bag}
use Rattle.task_body.specs.declared.task_input.TaskInput.{TaskInput}
use Rattle.vertex_laws.specs.VertexRows.{no_files}
use Rattle.task_body.proofs.Alike.{alike_on, one_alike, two_alike}
use Rattle.task_body.proofs.Inputs.{one_item, takes_one, takes_two, two_items}
use Rattle.task_body.proofs.operating.operate.Goals as goal

pub returns-in_ok-right-in-Join-clause-given : goal.returns-in_ok-right-in-Join-clause-given
returns-in_ok-right-in-Join-clause-given c =
    let op = c.args.op.now in
    let inputs = c.args.inputs.now in
    let a = c.index-inputs-0.result in
    let b = c.index-inputs-1.result in
    let left = c.in_ok-left-in-Join.left in
    let right = c.in_ok-right-in-Join.right in
    let two = sym (length-map inputs (input_bag op)) ∙ takes_two op c.in-Join.kind c.in-Join.keys (length (map (input_bag op) inputs)) c.in-Join.is c.requires.good.number in
    let are = two_items inputs a b two c.index-inputs-0.is c.index-inputs-1.is in
    let same = bags_same no_files op (left ∷ right ∷ []) (input_bag op a ∷ input_bag op b ∷ [])
    (two_alike left right (input_bag op a) (input_bag op b) c.in_ok-left-in-Join.ensures.read c.in_ok-right-in-Join.ensures.read) in
    let whole = subst (λ (l : List TaskInput). Alike (bag_of no_files op (left ∷ right ∷ [])) (bag_of no_files op (map (input_bag op) l))) (sym are) same in
    IfOk-weaker c.join.result (λ batch. Alike batch (bag_of no_files (Join c.in-Join.kind c.in-Join.keys) (left ∷ right ∷ []))) (λ batch. Alike batch (bag_of no_files op (map (input_bag op) inputs)))
    (λ batch given. alike_on batch (bag_of no_files op (left ∷ right ∷ [])) (bag_of no_files op (map (input_bag op) inputs))
    (subst (λ (o : Op). Alike batch (bag_of no_files o (left ∷ right ∷ []))) (sym c.in-Join.is) given) whole) c.join.ensures.given

pub returns-in_ok-read_input-in_default : goal.returns-in_ok-read_input-in_default
returns-in_ok-read_input-in_default c =
    let op = c.args.op.now in
    let inputs = c.args.inputs.now in
    let a = c.index-inputs-0-in_default.result in
    let read = c.in_ok-read_input-in_default.field-0 in
    let one = sym (length-map inputs (input_bag op)) ∙ takes_one op (length (map (input_bag op) inputs)) c.requires.reads c.in_default.not-Union c.in_default.not-Join c.requires.good.number in
    let are = one_item inputs a one c.index-inputs-0-in_default.is in
    let same = bags_same no_files op (read ∷ []) (input_bag op a ∷ []) (one_alike read (input_bag op a) c.in_ok-read_input-in_default.ensures.read) in
    let whole = subst (λ (l : List TaskInput). Alike (bag_of no_files op (read ∷ [])) (bag_of no_files op (map (input_bag op) l))) (sym are) same in
    record {
      given = IfOk-weaker c.apply.result (λ batch. Alike batch (bag_of no_files op (read ∷ []))) (λ batch. Alike batch (bag_of no_files op (map (input_bag op) inputs)))
          (λ batch given. alike_on batch (bag_of no_files op (read ∷ [])) (bag_of no_files op (map (input_bag op) inputs)) given whole) c.apply.ensures.given;
      fit = c.apply.ensures.fit;
    }
