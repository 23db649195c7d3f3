-- The head of a vertex is not in an earlier one: what stays, and one vertex more.
use Rattle.std.proofs.Common.{◌≡◌, ℕ, zero, suc, ◌<◌, ◌≤◌, List, [], ◌∷◌, ◌++◌, length, sym, ◌∙◌, ap, subst, arith, false, ⊎_elim}
use Rattle.std.specs.Prelude.{nat_eq}
use Rattle.std.proofs.lemmas.Bool.{cases_lt}
use Rattle.std.proofs.lemmas.List.{length_push, get_or_push, get_or_append_left}
use Rattle.std.proofs.lemmas.List.Folds.{list_any-append}
use Rattle.vertex_builder.specs.Chains.{is_among}
use Rattle.vertex_builder.specs.Vertices.{head_of}
use Rattle.vertex_builder.specs.declared.vertex.Vertex.{Vertex}
use Rattle.vertex_builder.proofs.Laws.{neither_left, neither_right}
use Rattle.graph_model.specs.declared.made_vertex.MadeVertex.{MadeVertex}
use Rattle.graph_model.specs.States.{no_vertex, vertex_at, made_nodes}
use Rattle.graph_model.specs.Valid.{AreApart}

-- vertices that are the same but for their subtasks
pub apart_same : (vs us : List MadeVertex) → length us ≡ length vs → ((u : ℕ) → (vertex_at us u).vertex ≡ (vertex_at vs u).vertex) → AreApart vs → AreApart us
apart_same vs us long same apart u v lt less =
    ap (λ (x : Vertex). is_among x.nodes (head_of (vertex_at us v).vertex)) (same u)
    ∙ ap (λ (x : Vertex). is_among (vertex_at vs u).vertex.nodes (head_of x)) (same v)
    ∙ apart u v lt (subst (λ (n : ℕ). v < n) long less)

-- a node that is not made is in no vertex
pub among_made : (vs : List MadeVertex) (u node : ℕ) → u < length vs → is_among (made_nodes vs) node ≡ false → is_among (vertex_at vs u).vertex.nodes node ≡ false
among_made [] u node lt none = absurd (omega (arith, lt))
among_made (made ∷ vs) zero node lt none =
    neither_left (is_among made.vertex.nodes node) (is_among (made_nodes vs) node) (sym (list_any-append (nat_eq node) made.vertex.nodes (made_nodes vs)) ∙ none)
among_made (made ∷ vs) (suc u) node lt none =
    among_made vs u node (omega (arith, lt)) (neither_right (is_among made.vertex.nodes node) (is_among (made_nodes vs) node) (sym (list_any-append (nat_eq node) made.vertex.nodes (made_nodes vs)) ∙ none))

-- one vertex more, whose head is not made
pub apart_push : (vs : List MadeVertex) (new : MadeVertex) → is_among (made_nodes vs) (head_of new.vertex) ≡ false → AreApart vs → AreApart (vs ++ new ∷ [])
apart_push vs new fresh apart u v lt less =
    let long = length_push vs new in
    let under : u < length vs = omega (arith, lt, less, long) in
    let old : vertex_at (vs ++ new ∷ []) u ≡ vertex_at vs u = get_or_append_left vs (new ∷ []) no_vertex u under in
    let of : MadeVertex → MadeVertex → Type 0 = λ a b. is_among a.vertex.nodes (head_of b.vertex) ≡ false in
    subst (λ (m : MadeVertex). of m (vertex_at (vs ++ new ∷ []) v)) (sym old) (⊎_elim
    (λ (inside : v < length vs). subst (λ (m : MadeVertex). of (vertex_at vs u) m) (sym (get_or_append_left vs (new ∷ []) no_vertex v inside)) (apart u v lt inside))
    (λ (le : length vs ≤ v).
    subst (λ (m : MadeVertex). of (vertex_at vs u) m) (sym (get_or_push vs new no_vertex v (omega (arith, le, less, long)))) (among_made vs u (head_of new.vertex) under fresh))
    (cases_lt v (length vs)))
