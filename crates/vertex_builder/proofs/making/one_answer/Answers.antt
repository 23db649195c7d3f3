use Rattle.vertex_builder.proofs.Chains.{one_answer}
use Rattle.vertex_builder.proofs.making.one_answer.Goals as goal

pub returns : goal.returns
returns c = one_answer
