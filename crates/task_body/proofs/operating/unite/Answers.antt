use Rattle.std.proofs.Common.{◌≡◌, ◌<◌, ℕ, List, [], length, map, get_or, sym, ◌∙◌, ap, subst}
use Rattle.std.specs.List.{flat_map}
use Rattle.std.proofs.lemmas.List.{length-map}
use Rattle.bag_laws.specs.Rows.{OneRow as Row}
use Rattle.row_core.specs.Bags.{SameBag}
use Rattle.operator_laws.specs.Texts.{ConstantsFit}
use Rattle.plan_model.specs.Nodes.{Alike, IsGood}
use Rattle.plan_model.specs.Operators.{is_source}
use Rattle.plan_model.specs.Plans.{Bag, bag_of}
use Rattle.plan_model.specs.declared.op.Op.{Op}
use Rattle.plan_model.specs.declared.op.Op.TheVariants.{Union}
use Rattle.task_body.specs.Inputs.{input_bag, input_rows}
use Rattle.task_body.specs.declared.task_input.TaskInput.{TaskInput}
use Rattle.vertex_laws.specs.VertexRows.{no_files}
use Rattle.task_body.proofs.Alike.{given_fits}
use Rattle.task_body.proofs.Inputs.{bags_fit, takes_some, union_widths, united}
use Rattle.task_body.proofs.operating.unite.Goals as goal

given_is : (op : Op) (inputs : List TaskInput) (first : TaskInput) (rows read : List Row) → op ≡ Union → IsGood op (map (input_bag op) inputs) → first ≡ get_or inputs 0 first → rows ≡ read
    → SameBag read (flat_map (input_rows op) inputs) → Alike (record { width = (get_or inputs 0 first).width; rows = rows }) (bag_of no_files op (map (input_bag op) inputs))
given_is op inputs first rows read union good is rows_are same =
    let some : 0 < length inputs = subst (λ (n : ℕ). 0 < n) (length-map inputs (input_bag op)) (takes_some op (length (map (input_bag op) inputs)) union good.number) in
    subst (λ (i : TaskInput). Alike (record { width = i.width; rows = rows }) (bag_of no_files op (map (input_bag op) inputs))) is
    (united op inputs first rows union some is (subst (λ (l : List Row). SameBag l (flat_map (input_rows op) inputs)) (sym rows_are) same))

pub push_inputs-requires-clause-widths : goal.push_inputs-requires-clause-widths
push_inputs-requires-clause-widths c = λ k d lt.
    union_widths c.args.op.now c.args.inputs.now c.index-inputs-0.result c.requires.union c.requires.good c.index-inputs-0.is k d lt
    ∙ ap (λ (i : TaskInput). i.width) c.index-inputs-0.is ∙ sym c.new-buffer.ensures.width

pub into_rows-rows-requires : goal.into_rows-rows-requires
into_rows-rows-requires c =
    let (read, (same, taken)) = c.in_ok-push_inputs.ensures.takes in
    (read, taken [] c.new-buffer.ensures.none)

pub returns-clause-given : goal.returns-clause-given
returns-clause-given c =
    let (read, (same, taken)) = c.in_ok-push_inputs.ensures.takes in
    given_is c.args.op.now c.args.inputs.now c.index-inputs-0.result c.into_rows-rows.result read c.requires.union c.requires.good c.index-inputs-0.is
    (c.into_rows-rows.ensures.rows read (taken [] c.new-buffer.ensures.none)) same

pub returns-clause-fit : goal.returns-clause-fit
returns-clause-fit c =
    let op = c.args.op.now in
    let inputs = c.args.inputs.now in
    let (read, (same, taken)) = c.in_ok-push_inputs.ensures.takes in
    let given : Bag = record { width = (get_or inputs 0 c.index-inputs-0.result).width; rows = c.into_rows-rows.result } in
    given_fits op (map (input_bag op) inputs) given c.requires.good (subst ConstantsFit (sym c.requires.union) tt)
    (bags_fit op (ap is_source c.requires.union) inputs c.requires.good.narrow)
    (given_is op inputs c.index-inputs-0.result c.into_rows-rows.result read c.requires.union c.requires.good c.index-inputs-0.is (c.into_rows-rows.ensures.rows read (taken [] c.new-buffer.ensures.none)) same)
