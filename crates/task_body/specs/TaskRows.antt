-- The rows of a task.
use Rattle.std.specs.Arc.{arc_value}
use Rattle.std.specs.Prelude.{ℕ, List, get_or, take}
use Rattle.bag_laws.specs.Rows.{OneRow as Row}
use Rattle.plan_model.specs.Plans.{Bag}
use Rattle.plan_model.specs.Widths.{widths_of}
use Rattle.vertex_builder.specs.Vertices.{head_of, last_of}
use Rattle.vertex_laws.specs.VertexRows.{head_bag, head_count, input_bags, op_at, vertex_rows, widths_at}
use Rattle.task_body.specs.Inputs.{rows_read}
use Rattle.task_body.specs.declared.task.Task.{Task}

-- what it reads at each input of its vertex
abbrev pub task_inputs : Task → List (List Row)
task_inputs task = rows_read (arc_value task.plan) task.vertex.inputs task.inputs.items

-- what its chain gives of them
abbrev pub task_rows : Task → List Row
task_rows task = vertex_rows (arc_value task.plan) task.widened task.vertex (task_inputs task)

-- how many values these rows have
abbrev pub task_width : Task → ℕ
task_width task = get_or (widths_of (arc_value task.plan)) (last_of task.vertex) 0

-- what its head gives
abbrev pub task_head : Task → Bag
task_head task =
    let nodes = arc_value task.plan in
    let head = head_of task.vertex in
    head_bag (op_at nodes head)
    (input_bags (widths_at nodes head) (take (head_count nodes task.vertex) (task_inputs task)))
