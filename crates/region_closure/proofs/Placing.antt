-- Where the numbers of subtasks stand.
use Rattle.std.proofs.Common.{◌≡◌, ℕ, ◌<◌, ◌≤◌, List, length, sym, ◌∙◌, ap, arith, ⊎_elim}
use Rattle.std.proofs.lemmas.Bool.{cases_lt}
use Rattle.std.proofs.lemmas.List.{get_or_past}
use Rattle.graph_model.specs.declared.made_vertex.MadeVertex.{MadeVertex}
use Rattle.graph_model.specs.declared.sub.Sub.{Sub}
use Rattle.graph_model.specs.Indexes.{sub_at}
use Rattle.graph_model.specs.States.{no_vertex, subtasks_at, vertex_at}
use Rattle.region_closure.specs.Numbers.{ArePlaced, number_of}

-- who has a subtask is a vertex
pub vertex_inside : (vs : List MadeVertex) (sub : Sub) → sub.subtask < length (subtasks_at vs sub.vertex) → sub.vertex < length vs
vertex_inside vs sub has = ⊎_elim
    (λ (lt : sub.vertex < length vs). lt)
    (λ (le : length vs ≤ sub.vertex).
    let none : vertex_at vs sub.vertex ≡ no_vertex = get_or_past vs sub.vertex no_vertex le in
    let few : length (subtasks_at vs sub.vertex) ≡ 0 = ap (λ (made : MadeVertex). length made.subtasks) none in
    absurd (omega (arith, has, few)))
    (cases_lt sub.vertex (length vs))
