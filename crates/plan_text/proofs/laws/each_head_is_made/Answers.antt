use Rattle.plan_text.proofs.EachHead.{each_head_is_made}
use Rattle.plan_text.proofs.laws.each_head_is_made.Goals as goal

pub returns : goal.returns
returns c = each_head_is_made
