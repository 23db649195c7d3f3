use Rattle.rect_cover.specs.Vertices.{linked}
use Rattle.rect_cover.proofs.Areas.{reading-same}
use Rattle.rect_cover.proofs.Chains.{chained-same}
use Rattle.rect_cover.proofs.Vertices.{head_rows-same, linked-same}
use Rattle.rect_cover.proofs.laws.vertices_go_by_bags.Goals as goal

pub returns : goal.returns
returns c = record {
  heads = head_rows-same;
  chains = λ links wide others rows more bags same same_rows. chained-same (linked links wide) (linked links others) (linked-same links wide others bags same) same_rows;
  cells = reading-same;
}
