use Rattle.vertex_builder.proofs.Laws.{vertices_stay}
use Rattle.vertex_builder.proofs.inputs.vertices_stay.Goals as goal

pub returns : goal.returns
returns c = vertices_stay
