use Rattle.std.proofs.Common.{◌≡◌, List, [], refl, sym, subst}
use Rattle.bag_laws.specs.Rows.{OneRow as Row}
use Rattle.plan_model.specs.Nodes.{Alike}
use Rattle.plan_model.specs.Plans.{Bag}
use Rattle.plan_model.specs.declared.op.Op.{Op}
use Rattle.row_core.specs.Bags.{SameBag}
use Rattle.task_body.specs.Inputs.{input_bag, input_rows}
use Rattle.task_body.specs.declared.task_input.TaskInput.{TaskInput}
use Rattle.task_body.proofs.Alike.{alike_back, encodable_alike}
use Rattle.task_body.proofs.Inputs.{input_fits}
use Rattle.task_body.proofs.reading.read_input.Goals as goal

read_is : (op : Op) (input : TaskInput) (rows read : List Row) → rows ≡ read → SameBag read (input_rows op input) → Alike (record { width = input.width; rows = rows }) (input_bag op input)
read_is op input rows read is same = record { width = refl; rows = subst (λ (l : List Row). SameBag l (input_rows op input)) (sym is) same }

pub into_rows-rows-requires : goal.into_rows-rows-requires
into_rows-rows-requires c =
    let (read, (same, taken)) = c.in_ok-push_input.ensures.takes in
    (read, taken [] c.new-buffer.ensures.none)

pub returns-clause-read : goal.returns-clause-read
returns-clause-read c =
    let (read, (same, taken)) = c.in_ok-push_input.ensures.takes in
    read_is c.args.op.now c.args.input.now c.into_rows-rows.result read (c.into_rows-rows.ensures.rows read (taken [] c.new-buffer.ensures.none)) same

pub returns-clause-fit : goal.returns-clause-fit
returns-clause-fit c =
    let op = c.args.op.now in
    let input = c.args.input.now in
    let (read, (same, taken)) = c.in_ok-push_input.ensures.takes in
    let batch : Bag = record { width = input.width; rows = c.into_rows-rows.result } in
    let is = read_is op input c.into_rows-rows.result read (c.into_rows-rows.ensures.rows read (taken [] c.new-buffer.ensures.none)) same in
    encodable_alike (input_bag op input) batch (alike_back batch (input_bag op input) is) (input_fits op input c.requires.files c.requires.narrow)
