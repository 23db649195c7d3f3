use Rattle.std.proofs.Common.{◌≡◌, List, length, sym, ap, subst, arith, ℕ, ◌∙◌}
use Rattle.estate.specs.declared.part_name.PartName.{PartName}
use Rattle.graph_model.specs.declared.made_vertex.MadeVertex.{MadeVertex}
use Rattle.event_graph.specs.Graphs.{JobState}
use Rattle.core_model.specs.Moves.{AreGone}
use Rattle.recover_core.specs.Gone.{GoneBefore}
use Rattle.recover_core.proofs.Marking.{gone_all, owns}
use Rattle.recover_core.proofs.gone.gone_winners.Goals as goal

pub held_marks-requires-clause-own : goal.held_marks-requires-clause-own
held_marks-requires-clause-own c = owns _ _ c.is_kept.ensures.valid c.vertices-vertices.result.now c.vertices-vertices.ensures

pub gather-requires-clause-own : goal.gather-requires-clause-own
gather-requires-clause-own c = owns _ _ c.is_kept.ensures.valid c.vertices-vertices.result.now c.vertices-vertices.ensures

pub returns : goal.returns
returns c =
    let vertices = c.vertices-vertices.result.now in
    let names = c.as_slice.result.now in
    let gone = c.loop-vertex.gone.items in
    let same = c.vertices-vertices.ensures ∙ ap (λ (j : JobState). j.state.vertices) c.job-job.ensures in
    let all : c.loop-vertex.vertex ≡ length vertices = omega (arith, ap length c.as_slice-vertex-end.ensures) in
    let before = subst (λ (v : ℕ). GoneBefore vertices c.numbers-numbers.result.now c.in_ok-held.held.items (record { vertex = v; subtask = 0 }) gone) all c.loop-vertex.invariant in
    let are = gone_all vertices c.numbers-numbers.result.now names gone c.in_ok-held.held.items c.in_ok-held.ensures before in
    subst (λ (v : List MadeVertex). AreGone v c.args.names.now c.from_vec.result) same
    (subst (λ (n : List PartName). AreGone vertices n c.from_vec.result) c.as_slice.ensures
    (subst (AreGone vertices names) (sym c.from_vec.ensures) are))
