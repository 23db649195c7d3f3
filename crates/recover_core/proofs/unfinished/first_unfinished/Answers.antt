use Rattle.std.proofs.Common.{List, length, ap, arith, ◌∙◌}
use Rattle.std.proofs.lemmas.List.{get_or_default}
use Rattle.graph_model.specs.States.{no_vertex, subtasks_at}
use Rattle.graph_model.specs.declared.made_vertex.MadeVertex.{MadeVertex}
use Rattle.recover_core.proofs.unfinished.first_unfinished.Goals as goal

pub overflow_cast-result : goal.overflow_cast-result
overflow_cast-result c =
    let v = c.loop-vertex.vertex in
    let made = c.as_slice-made.result.now in
    let same = ap length c.as_slice.ensures.same ∙ ap (λ (m : MadeVertex). length m.subtasks) (get_or_default made v c.index-made-vertex.result no_vertex c.loop-vertex-test.true) ∙ ap (λ (vs : List MadeVertex). length (subtasks_at vs v)) c.as_slice-made.ensures in
    omega (arith, same, c.in-Some.ensures.within, c.parallelism-count.ensures.count, c.parallelism-count.ensures.number)
