use Rattle.rect_cover.proofs.Vertices.{vertex_law}
use Rattle.rect_cover.proofs.laws.vertex_law.Goals as goal

pub returns : goal.returns
returns c = vertex_law
