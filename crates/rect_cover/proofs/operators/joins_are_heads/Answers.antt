use Rattle.rect_cover.proofs.Joins.{join_is_head}
use Rattle.rect_cover.proofs.operators.joins_are_heads.Goals as goal

pub returns : goal.returns
returns c = join_is_head
