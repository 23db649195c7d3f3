use Rattle.plan_model.proofs.Laws as law
use Rattle.plan_model.proofs.node_laws.widths_stand_on_inputs.Goals as goal

pub returns-clause-long : goal.returns-clause-long
returns-clause-long c = law.widths_long

pub returns-clause-next : goal.returns-clause-next
returns-clause-next c = law.widths_next

pub returns-clause-width : goal.returns-clause-width
returns-clause-width c = law.width_here

pub returns-clause-narrow : goal.returns-clause-narrow
returns-clause-narrow c = law.narrow
