-- The lines of vertices are those of their heads.
use Rattle.std.proofs.Common.{◌≡◌, ℕ, suc, ◌+◌, ◌<◌, All, List, [], ◌∷◌, ◌++◌, length, map, take, get_or, refl, sym, ◌∙◌, ap, subst, append_assoc, arith, length-take-le}
use Rattle.std.specs.List.{AllByRecursion}
use Rattle.std.proofs.lemmas.List.{append-nil, take_more, get_or-map}
use Rattle.std.proofs.lemmas.List.Elements.{recursion_from_All}
use Rattle.plan_model.specs.Checks.{plan_faults}
use Rattle.plan_model.specs.Settings.{default_values}
use Rattle.plan_model.specs.declared.node.Node.{Node}
use Rattle.vertex_builder.specs.declared.vertex.Vertex.{Vertex}
use Rattle.vertex_builder.specs.Chains.{chain_of}
use Rattle.vertex_builder.specs.Vertices.{head_of, vertex_of, IsVertex}
use Rattle.vertex_builder.proofs.Laws.{vertex_is}
use Rattle.plan_text.specs.Lines.{vertex_line, vertex_lines}
use Rattle.plan_text.specs.Making.{making_order, vertices_made}

-- ---- one line more

lines_append : (n : ℕ) (vertices others : List Vertex) → vertex_lines n (vertices ++ others) ≡ vertex_lines n vertices ++ vertex_lines (n + length vertices) others
lines_append n [] others = ap (λ (m : ℕ). vertex_lines m others) (omega arith)
lines_append n (vertex ∷ vertices) others =
    let on : n + 1 + length vertices ≡ n + suc (length vertices) = omega arith in
    ap (λ (l : List ℕ). vertex_line n vertex ++ l) (lines_append (n + 1) vertices others ∙ ap (λ (m : ℕ). vertex_lines (n + 1) vertices ++ vertex_lines m others) on)
    ∙ sym (append_assoc (vertex_line n vertex) (vertex_lines (n + 1) vertices) (vertex_lines (n + suc (length vertices)) others))

pub lines_more : (vertices : List Vertex) (k : ℕ) (vertex : Vertex) → k < length vertices → vertex ≡ get_or vertices k vertex → vertex_lines 0 (take (k + 1) vertices) ≡ vertex_lines 0 (take k vertices) ++ vertex_line k vertex
lines_more vertices k vertex lt is =
    let count : 0 + length (take k vertices) ≡ k = omega (arith, length-take-le k vertices (omega (arith, lt))) in
    ap (vertex_lines 0) (take_more vertices k vertex lt ∙ ap (λ (v : Vertex). take k vertices ++ v ∷ []) (sym is))
    ∙ lines_append 0 (take k vertices) (vertex ∷ [])
    ∙ ap (λ (m : ℕ). vertex_lines 0 (take k vertices) ++ vertex_lines m (vertex ∷ [])) count
    ∙ ap (λ (l : List ℕ). vertex_lines 0 (take k vertices) ++ l) (append-nil (vertex_line k vertex))

-- ---- the vertices made

vertices_are : (nodes : List Node) (max_parallelism : ℕ) (vertices : List Vertex) → plan_faults nodes ≡ [] → AllByRecursion (IsVertex nodes [] max_parallelism) vertices → vertices ≡ map (vertex_of nodes [] max_parallelism) (map head_of vertices)
vertices_are nodes max_parallelism [] good all = refl
vertices_are nodes max_parallelism (vertex ∷ vertices) good all =
    (λ i. vertex_is nodes [] max_parallelism vertex good all.0 i ∷ vertices_are nodes max_parallelism vertices good all.1 i)

-- vertices of the heads in the order made are the vertices made
pub in_order : (nodes : List Node) (vertices : List Vertex) → plan_faults nodes ≡ [] → All (IsVertex nodes [] default_values.max_parallelism) vertices → map head_of vertices ≡ making_order nodes [] → vertices ≡ vertices_made nodes
in_order nodes vertices good all heads =
    vertices_are nodes default_values.max_parallelism vertices good (recursion_from_All (IsVertex nodes [] default_values.max_parallelism) vertices all)
    ∙ ap (map (vertex_of nodes [] default_values.max_parallelism)) heads

-- the chain of one vertex
pub chain_at : (nodes : List Node) (max_parallelism : ℕ) (vertices : List Vertex) (k : ℕ) (vertex : Vertex) → plan_faults nodes ≡ [] → All (IsVertex nodes [] max_parallelism) vertices → k < length vertices → vertex ≡ get_or vertices k vertex
    → vertex.nodes ≡ chain_of nodes [] (get_or (map head_of vertices) k 0)
chain_at nodes max_parallelism vertices k vertex good all lt is =
    let item : IsVertex nodes [] max_parallelism vertex = subst (IsVertex nodes [] max_parallelism) (sym is) (all k vertex lt) in
    let head : head_of vertex ≡ get_or (map head_of vertices) k 0 = ap head_of is ∙ sym (get_or-map head_of vertices k vertex 0 lt) in
    ap (λ (v : Vertex). v.nodes) (vertex_is nodes [] max_parallelism vertex good item) ∙ ap (chain_of nodes []) head
