use Rattle.graph_model.specs.Folds.{fold_from}
use Rattle.graph_model.specs.States.{started}
use Rattle.plan_composition.proofs.Sinks.{sink_text}
use Rattle.plan_composition.proofs.results.sinks_have_the_text.Goals as goal

pub returns : goal.returns
returns c given stored events run done =
    let state = fold_from given started events in
    sink_text given.nodes stored.files stored.parts state.vertices (c.sinks_have_bags.ensures given stored events run done)
