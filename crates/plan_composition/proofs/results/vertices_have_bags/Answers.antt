use Rattle.std.proofs.Common.{length, arith}
use Rattle.graph_model.specs.Folds.{fold_from}
use Rattle.graph_model.specs.States.{started}
use Rattle.plan_composition.proofs.Bridging.{below_bags}
use Rattle.plan_composition.proofs.results.vertices_have_bags.Goals as goal

pub returns : goal.returns
returns c given stored events run done v e lt less =
    let state = fold_from given started events in
    let valid = c.folds_are_valid.ensures given events run.accepted run.legal in
    let true_wins = c.winners_are_true.ensures given stored events run in
    let reads_winners = c.winners_rows_are_read.ensures given events stored.parts run.accepted run.legal in
    below_bags c.vertices_give_bags.ensures.sum c.vertices_go_by_bags.ensures.cells c.vertex_rows_go_by_bags.ensures c.inputs_are_linked.ensures c.nodes_are_in_one_vertex.ensures
    given stored state run.accepted run.sizes valid done true_wins reads_winners (length state.vertices) (omega arith) v e lt less
