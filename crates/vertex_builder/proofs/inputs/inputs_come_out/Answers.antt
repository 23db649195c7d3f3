use Rattle.vertex_builder.proofs.Laws.{inputs_come_out}
use Rattle.vertex_builder.proofs.inputs.inputs_come_out.Goals as goal

pub returns : goal.returns
returns c = inputs_come_out
