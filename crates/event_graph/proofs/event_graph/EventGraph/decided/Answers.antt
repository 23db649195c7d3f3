use Rattle.std.proofs.Common.{◌≡◌, ℕ, ◌-◌, ◌<◌, List, length, map, get_or, set, sym, ◌∙◌, ap, subst, arith, All}
use Rattle.vertex_builder.specs.Vertices.{head_input_count, head_inputs, head_of}
use Rattle.vertex_builder.specs.declared.vertex_input.VertexInput.{VertexInput}
use Rattle.vertex_builder.proofs.Laws.{heads_counted}
use Rattle.graph_model.specs.declared.made_vertex.MadeVertex.{MadeVertex}
use Rattle.graph_model.specs.declared.subtask_state.SubtaskState.{SubtaskState}
use Rattle.graph_model.specs.Legal.{IsDecidable}
use Rattle.graph_model.specs.States.{vertex_at}
use Rattle.event_graph.specs.Graphs.{JobState}
use Rattle.event_graph.specs.Numbers.{inputs_numbers}
use Rattle.event_graph.proofs.Jobs.{given_of, state_of}
use Rattle.event_graph.proofs.KeptDecided.{kept_decided_as, lists_within, made_at, may_decide}
use Rattle.event_graph.proofs.Undecided.{undecided_less}
use Rattle.event_graph.proofs.event_graph.EventGraph.decided.Goals as goal

pub shape_of-requires-clause-heads : goal.shape_of-requires-clause-heads
shape_of-requires-clause-heads c =
    let g = c.self.inside in
    let v = c.args.vertex in
    let can : IsDecidable (given_of g) (state_of g) v =
    subst (λ (job : JobState). IsDecidable job.given job.state v) (sym c.self.view_is) (c.is_decidable.ensures.0 c.if-not-is_decidable.false) in
    let at = made_at g.vertices c.as_slice.result.now v c.index-as_slice-vertex.result c.as_slice.ensures can.made in
    let vertex = (vertex_at g.vertices v).vertex in
    subst (λ (m : MadeVertex). head_input_count m.vertex ≡ length (head_inputs g.plan (head_of m.vertex))) (sym at)
    (heads_counted g.plan g.widened g.settings.max_parallelism vertex c.self.invariant.faultless (c.self.invariant.valid.made v can.made).is)

pub decide-requires-clause-inside : goal.decide-requires-clause-inside
decide-requires-clause-inside c =
    let g = c.self.inside in
    subst (λ (l : List (List ℕ)). All (All (λ p. p < length g.numbers.tasks.done)) l) (sym (c.as_slice-2.ensures.value ∙ c.in_ok-lists.ensures))
    (lists_within g.vertices g.numbers c.as_slice-inputs.result.now c.args.assignment.now c.self.invariant.numbered)

pub overflow_sub-self : goal.overflow_sub-self
overflow_sub-self c =
    let g = c.self.inside in
    let v = c.args.vertex in
    let decision = c.args.assignment.now in
    let can : IsDecidable (given_of g) (state_of g) v =
    subst (λ (job : JobState). IsDecidable job.given job.state v) (sym c.self.view_is) (c.is_decidable.ensures.0 c.if-not-is_decidable.false) in
    let at = made_at g.vertices c.as_slice.result.now v c.index-as_slice-vertex.result c.as_slice.ensures can.made in
    let made = get_or c.as_slice.result.now v c.index-as_slice-vertex.result in
    let may = may_decide (given_of g) (state_of g) v decision made c.in_ok-shape.shape can at c.in_ok-shape.ensures (c.covers.ensures.0 c.if-not-covers.false) in
    let less = undecided_less (given_of g) (state_of g) v decision c.self.invariant.faultless c.self.invariant.valid may in
    let was = c.self.invariant.undecided_is in
    let count = ap (λ (l : List ℕ). length l) c.as_slice-nodes.ensures ∙ ap (λ (m : MadeVertex). length m.vertex.nodes) at in
    omega (arith, less, was, count)

pub invariant_of-self-2 : goal.invariant_of-self-2
invariant_of-self-2 c =
    let g = c.self.inside in
    let v = c.args.vertex in
    let decision = c.args.assignment.now in
    let can : IsDecidable (given_of g) (state_of g) v =
    subst (λ (job : JobState). IsDecidable job.given job.state v) (sym c.self.view_is) (c.is_decidable.ensures.0 c.if-not-is_decidable.false) in
    let at = made_at g.vertices c.as_slice.result.now v c.index-as_slice-vertex.result c.as_slice.ensures can.made in
    let made = get_or c.as_slice.result.now v c.index-as_slice-vertex.result in
    let may = may_decide (given_of g) (state_of g) v decision made c.in_ok-shape.shape can at c.in_ok-shape.ensures (c.covers.ensures.0 c.if-not-covers.false) in
    let less = undecided_less (given_of g) (state_of g) v decision c.self.invariant.faultless c.self.invariant.valid may in
    let was = c.self.invariant.undecided_is in
    let count = ap (λ (l : List ℕ). length l) c.as_slice-nodes.ensures ∙ ap (λ (m : MadeVertex). length m.vertex.nodes) at in
    let now = g.undecided - length c.as_slice-nodes.result.now in
    let inputs = c.as_slice-inputs.ensures ∙ ap (λ (m : MadeVertex). m.vertex.inputs) at in
    let lists = c.as_slice-2.ensures.value ∙ c.in_ok-lists.ensures ∙ ap (λ (l : List VertexInput). map (inputs_numbers g.numbers g.vertices l 0) decision) inputs in
    let changed : List SubtaskState → List MadeVertex = λ l. set g.vertices v (record (vertex_at g.vertices v) { subtasks = l }) in
    kept_decided_as (given_of g) (state_of g) g.numbers c.decide.new.self g.undecided now v decision c.set_subtasks.new.self c.as_slice-2.result.now
    c.self.invariant may (omega (arith, less, was, count)) (c.set_subtasks.ensures ∙ ap changed c.in_ok-subtasks.ensures) lists c.in_ok-decide.ensures.ok
