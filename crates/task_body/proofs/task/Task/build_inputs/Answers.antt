use Rattle.std.proofs.Common.{◌≡◌, ℕ, length, drop, ◌∙◌, ap, arith}
use Rattle.std.specs.Arc.{arc_value}
use Rattle.vertex_builder.proofs.Laws.{heads_counted}
use Rattle.vertex_builder.specs.Vertices.{head_input_count}
use Rattle.vertex_laws.specs.VertexRows.{head_count}
use Rattle.task_body.specs.declared.task.Task.{Task}
use Rattle.task_body.proofs.Heads.{count_within}
use Rattle.task_body.proofs.task.Task.build_inputs.Goals as goal

counted : (task : Task) (count : ℕ) → count ≡ head_input_count task.vertex → count ≡ head_count (arc_value task.plan) task.vertex
counted task count is = is ∙ heads_counted (arc_value task.plan) task.widened task.max_parallelism task.vertex task.faultless task.is

pub split_at-requires : goal.split_at-requires
split_at-requires c =
    let task = c.args.self.now in
    let count = counted task c.head_input_count-count.result c.head_input_count-count.ensures in
    let within = count_within task in
    let long = ap length c.as_slice.ensures.value in
    omega arith

pub returns : goal.returns
returns c =
    let task = c.args.self.now in
    let count = counted task c.head_input_count-count.result c.head_input_count-count.ensures in
    c.split_at.ensures.back ∙ (λ i. drop (count i) (c.as_slice.ensures.value i))
