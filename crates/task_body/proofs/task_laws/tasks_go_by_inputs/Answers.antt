use Rattle.vertex_laws.specs.VertexRows.{vertex_rows}
use Rattle.task_body.proofs.task_laws.tasks_go_by_inputs.Goals as goal

pub returns : goal.returns
returns c = λ nodes widened vertex attempt read others part same may.
    c.tasks_go_by_bags.ensures attempt vertex.outputs (vertex_rows nodes widened vertex read) (vertex_rows nodes widened vertex others) part
    (c.vertex_rows_go_by_bags.ensures nodes widened vertex read others same) may
