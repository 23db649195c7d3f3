use Rattle.vertex_builder.proofs.Chains.{one_chain}
use Rattle.vertex_builder.proofs.chain.one_chain.Goals as goal

pub returns : goal.returns
returns c = one_chain
