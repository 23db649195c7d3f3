-- The vertex of a chain among those that can be made.
use Rattle.std.proofs.Common.{◌≡◌, ◌≢◌, ℕ, ◌<◌, true, List, length, map, get_or, sym, ◌∙◌, ap, subst, arith, All}
use Rattle.std.specs.Prelude.{Contains, IsTrue}
use Rattle.std.proofs.lemmas.List.{get_or_default, length-map}
use Rattle.std.proofs.lemmas.List.Elements.{All-contains}
use Rattle.plan_model.specs.declared.node.Node.{Node}
use Rattle.vertex_builder.specs.Chains.{is_among, IsChain}
use Rattle.vertex_builder.specs.Vertices.{head_of, makeable_heads, IsVertex}
use Rattle.vertex_builder.specs.declared.vertex.Vertex.{Vertex}
use Rattle.vertex_builder.specs.declared.widening.Widening.{Widening}
use Rattle.vertex_builder.proofs.Laws.{one_chain}
use Rattle.graph_model.specs.States.{no_vertex}
use Rattle.graph_model.proofs.Laws.{among_at, get_or-map, in_map, stands}

among_contained : (numbers : List ℕ) (n : ℕ) → Contains numbers n → is_among numbers n ≡ true
among_contained numbers n has = All-contains (λ m. is_among numbers m ≡ true) numbers n each has
  where
    each : All (λ m. is_among numbers m ≡ true) numbers
    each k d lt = subst (λ m. is_among numbers m ≡ true) (get_or_default numbers k 0 d lt) (among_at numbers k lt)

module _ (nodes : List Node) (widened : List Widening) (made complete : List ℕ) (max_parallelism : ℕ) (vertices : List Vertex) (chain : List ℕ)
    (heads : map head_of vertices ≡ makeable_heads nodes widened made complete) (are : All (IsVertex nodes widened max_parallelism) vertices) where
  pub next_head : (vertex : Vertex) → Contains vertices vertex → vertex.nodes ≡ chain → IsTrue (is_among (makeable_heads nodes widened made complete) (get_or chain 0 0))
  next_head vertex has is =
      let among = among_contained (map head_of vertices) (head_of vertex) (in_map head_of vertices vertex has) in
      ap (λ (l : List ℕ). is_among l (get_or chain 0 0)) (sym heads) ∙ ap (λ (l : List ℕ). is_among (map head_of vertices) (get_or l 0 0)) (sym is) ∙ among

  pub next_is : (vertex : Vertex) → Contains vertices vertex → IsVertex nodes widened max_parallelism vertex
  next_is vertex has = All-contains (IsVertex nodes widened max_parallelism) vertices vertex are has

  pub no_next : All (λ vertex. vertex.nodes ≢ chain) vertices → IsTrue (is_among (makeable_heads nodes widened made complete) (get_or chain 0 0))
      → IsChain nodes widened (get_or chain 0 0) chain → ⊥
  no_next none among is =
      let here : is_among (map head_of vertices) (get_or chain 0 0) ≡ true = ap (λ (l : List ℕ). is_among l (get_or chain 0 0)) heads ∙ among in
      at (stands (map head_of vertices) (get_or chain 0 0) here)
    where
      at : (k : ℕ) × (k < length (map head_of vertices)) × (get_or (map head_of vertices) k 0 ≡ get_or chain 0 0) → ⊥
      at (k, lt, head) =
          let long = length-map vertices head_of in
          let less : k < length vertices = omega (arith, lt, long) in
          let vertex = get_or vertices k no_vertex.vertex in
          let mine : head_of vertex ≡ get_or chain 0 0 = sym (get_or-map head_of vertices k no_vertex.vertex) ∙ head in
          let chains : IsChain nodes widened (get_or chain 0 0) vertex.nodes = subst (λ (n : ℕ). IsChain nodes widened n vertex.nodes) mine (are k no_vertex.vertex less).chain in
          none k no_vertex.vertex less (one_chain nodes widened (get_or chain 0 0) vertex.nodes chain chains is)
