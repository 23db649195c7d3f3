use Rattle.vertex_laws.proofs.SameBags.{vertex_same}
use Rattle.vertex_laws.proofs.bags.vertex_rows_go_by_bags.Goals as goal

pub returns : goal.returns
returns c = vertex_same
