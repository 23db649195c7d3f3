use mir.Val.{bool_byte}
use Rattle.std.proofs.Common.{◌≡◌, ◌<◌, ◌+◌, ◌-◌, ℕ, Bool, true, false, not, cond, List, length, get_or, set, sym, ◌∙◌, ap, subst, arith}
use Rattle.std.specs.Option.{is_some}
use Rattle.std.proofs.lemmas.List.{get_or_default, length-map, length-set}
use Rattle.graph_model.specs.declared.made_vertex.MadeVertex.{MadeVertex}
use Rattle.graph_model.specs.declared.subtask_state.SubtaskState.{SubtaskState}
use Rattle.graph_model.specs.States.{no_subtask, no_vertex, subtasks_at, vertex_at, winner_at, with_winner}
use Rattle.graph_vertices.specs.Counts.{AreCounts, unwon_count}
use Rattle.graph_vertices.proofs.Counted.{counts_put}
use Rattle.graph_vertices.proofs.NodeMakers.{makers_set}
use Rattle.graph_vertices.proofs.made_vertices.MadeVertices.set_winner.Goals as goal

-- a test as a number
counted : (b some : Bool) → some ≡ not b → bool_byte b ≡ cond (not some) 1 0
counted true some is = ap (λ (s : Bool). cond (not s) 1 0) (sym is)
counted false some is = ap (λ (s : Bool). cond (not s) 1 0) (sym is)

pub invariant_of-self : goal.invariant_of-self
invariant_of-self c =
    let vs = c.self.inside.items.items in
    let sub = c.args.sub in
    let v = sub.vertex in
    let k = sub.subtask in
    let winner = c.args.winner in
    let counts = c.self.inside.unwon.items in
    let it = c.index.result.now in
    let old = c.index_mut.result.now in
    let new : MadeVertex = record { vertex = old.vertex; subtasks = c.set_winner.new.self } in
    let within : v < length vs = subst (λ (l : List MadeVertex). v < length l) (sym c.self.view_is) c.requires.vertex in
    let inside : k < length (subtasks_at vs v) = subst (λ (l : List MadeVertex). k < length (subtasks_at l v)) (sym c.self.view_is) c.requires.subtask in
    let was : old ≡ vertex_at vs v = c.index_mut.ensures.value ∙ get_or_default vs v old no_vertex within in
    let is : new ≡ with_winner (vertex_at vs v) k winner =
    ap (λ (l : List SubtaskState). record { vertex = old.vertex; subtasks = l }) c.set_winner.ensures ∙ ap (λ (m : MadeVertex). with_winner m k winner) was in
    let here : c.as_slice-subtasks.result.now ≡ subtasks_at vs v =
    c.as_slice-subtasks.ensures.same ∙ ap (λ (m : MadeVertex). m.subtasks) (c.index.ensures ∙ get_or_default vs v it no_vertex within) in
    let state = c.index-subtasks-subtask.result in
    let before : is_some (winner_at vs sub) ≡ not c.is_none.result =
    sym (ap (λ (l : List SubtaskState). is_some (get_or l k state).winner) here ∙ ap (λ (t : SubtaskState). is_some t.winner) (get_or_default (subtasks_at vs v) k state no_subtask inside)) ∙ c.is_none.ensures in
    let many : v < length counts = omega (arith, within, ap (λ (l : List ℕ). length l) c.self.invariant.2, length-map vs unwon_count) in
    let count : c.index-2.result.now ≡ get_or counts v 0 = c.index-2.ensures ∙ get_or_default counts v c.index-2.result.now 0 many in
    let now = (c.index-2.result.now + c.from-after.result) - c.from-before.result in
    let less : now ≡ (get_or counts v 0 + c.from-after.result) - c.from-before.result = ap (λ (n : ℕ). (n + c.from-after.result) - c.from-before.result) count in
    let put = counts_put vs counts sub winner c.from-before.result c.from-after.result now c.self.invariant.2 inside
    (c.from-before.ensures ∙ counted c.is_none.result (is_some (winner_at vs sub)) before)
    (c.from-after.ensures ∙ counted c.is_none-2.result (is_some winner) c.is_none-2.ensures) less in
    let few = c.self.invariant.0 in (
      omega (arith, few, length-set vs v new),
      makers_set vs c.self.inside.makers v new (ap (λ (m : MadeVertex). m.vertex.nodes) was) c.self.invariant.1,
      subst (λ (m : MadeVertex). AreCounts (set vs v m) (set counts v now)) (sym is) put,
    )
