use Rattle.graph_model.specs.Folds.{fold_from}
use Rattle.graph_model.specs.States.{started}
use Rattle.plan_composition.proofs.Sinks.{sink_bag}
use Rattle.plan_composition.proofs.results.sinks_have_bags.Goals as goal

pub returns : goal.returns
returns c given stored events run done node is =
    let state = fold_from given started events in
    let valid = c.folds_are_valid.ensures given events run.accepted run.legal in
    sink_bag given stored state run.accepted valid done (c.vertices_have_bags.ensures given stored events run done) node is
