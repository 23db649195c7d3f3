use Rattle.plan_model.proofs.Laws as law
use Rattle.plan_model.proofs.node_laws.good_nodes.Goals as goal

pub returns-clause-faultless : goal.returns-clause-faultless
returns-clause-faultless c = law.no_kinds

pub returns-clause-good : goal.returns-clause-good
returns-clause-good c = law.good_node

pub returns-clause-earlier : goal.returns-clause-earlier
returns-clause-earlier c = law.inputs_earlier

pub returns-clause-few : goal.returns-clause-few
returns-clause-few c = law.few_inputs

pub returns-clause-one : goal.returns-clause-one
returns-clause-one c = law.one_input
