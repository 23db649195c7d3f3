use Rattle.vertex_builder.proofs.Laws.{chains_part}
use Rattle.vertex_builder.proofs.chain.chains_part_the_plan.Goals as goal

pub returns : goal.returns
returns c = chains_part
