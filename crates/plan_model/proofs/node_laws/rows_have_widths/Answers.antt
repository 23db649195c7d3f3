use Rattle.plan_model.proofs.Laws as law
use Rattle.plan_model.proofs.node_laws.rows_have_widths.Goals as goal

pub returns-clause-width : goal.returns-clause-width
returns-clause-width c = law.bag_width

pub returns-clause-rows : goal.returns-clause-rows
returns-clause-rows c = law.bag_wide

pub returns-clause-all : goal.returns-clause-all
returns-clause-all c = law.all_wide
