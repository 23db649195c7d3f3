use Rattle.std.proofs.Common.{◌≡◌, ◌<◌, List, length, set, sym, ◌∙◌, ap, subst, arith}
use Rattle.std.specs.Prelude.{count_by}
use Rattle.std.proofs.lemmas.List.{get_or_default, length-set}
use Rattle.graph_model.specs.declared.made_vertex.MadeVertex.{MadeVertex}
use Rattle.graph_model.specs.declared.subtask_state.SubtaskState.{SubtaskState}
use Rattle.graph_model.specs.States.{no_vertex, vertex_at}
use Rattle.graph_vertices.specs.Counts.{is_unwon, unwon_count}
use Rattle.graph_vertices.proofs.Counted.{counts_set}
use Rattle.graph_vertices.proofs.NodeMakers.{makers_set}
use Rattle.graph_vertices.proofs.made_vertices.MadeVertices.set_subtasks.Goals as goal

pub invariant_of-self : goal.invariant_of-self
invariant_of-self c =
    let vs = c.self.inside.items.items in
    let v = c.args.vertex in
    let old = c.index_mut-2.result.now in
    let new : MadeVertex = record { vertex = old.vertex; subtasks = c.args.subtasks } in
    let within : v < length vs = subst (λ (l : List MadeVertex). v < length l) (sym c.self.view_is) c.requires in
    let was : old ≡ vertex_at vs v = c.index_mut-2.ensures.value ∙ get_or_default vs v old no_vertex within in
    let count : c.count_unwon.result ≡ unwon_count new = c.count_unwon.ensures ∙ ap (λ (l : List SubtaskState). count_by is_unwon l) c.as_slice.ensures.same in
    let few = c.self.invariant.0 in (
      omega (arith, few, length-set vs v new),
      makers_set vs c.self.inside.makers v new (ap (λ (m : MadeVertex). m.vertex.nodes) was) c.self.invariant.1,
      ap (set c.self.inside.unwon.items v) count ∙ counts_set vs c.self.inside.unwon.items v new c.self.invariant.2,
    )
