use Rattle.plan_model.proofs.Laws as law
use Rattle.plan_model.proofs.node_laws.bags_stand_on_inputs.Goals as goal

pub returns-clause-long : goal.returns-clause-long
returns-clause-long c = law.bags_long

pub returns-clause-widths : goal.returns-clause-widths
returns-clause-widths c = law.bags_widths

pub returns-clause-next : goal.returns-clause-next
returns-clause-next c = law.bags_next

pub returns-clause-bag : goal.returns-clause-bag
returns-clause-bag c = law.bag_here

pub returns-clause-good : goal.returns-clause-good
returns-clause-good c = law.good_inputs
