-- How many of a vertex's inputs are its head's.
use Rattle.std.proofs.Common.{◌≡◌, ℕ, ◌==◌, nat_eq, Bool, true, false, cond, List, [], ◌∷◌, ◌++◌, length, map, filter, drop, get_or, Option, Some, None, refl, ◌∙◌, ap, sym, subst, if◌then◌else◌}
use Rattle.std.specs.List.{cons_option, filter_map, AllByRecursion, IsDistinct}
use Rattle.std.specs.Option.{option_map}
use Rattle.std.proofs.lemmas.List.{append-nil}
use Rattle.std.proofs.lemmas.List.Elements.{filter-append, recursion_from_All}
use Rattle.std.proofs.lemmas.Map.Keys.{IsDistinct-head}
use Rattle.plan_model.specs.Checks.{plan_faults}
use Rattle.plan_model.specs.declared.node.Node.{Node}
use Rattle.plan_model.specs.declared.side.Side.{Side}
use Rattle.vertex_builder.specs.Chains.{chain_of}
use Rattle.vertex_builder.specs.Edges.{build_place, build_side, input_edges}
use Rattle.vertex_builder.specs.Vertices.{build_edge, files_input, head_input_count, head_inputs, head_of, inputs_at, is_source_at, vertex_input, IsVertex}
use Rattle.vertex_builder.specs.declared.edge.Edge.{Edge}
use Rattle.vertex_builder.specs.declared.vertex.Vertex.{Vertex}
use Rattle.vertex_builder.specs.declared.vertex_input.VertexInput.{VertexInput}
use Rattle.vertex_builder.specs.declared.widening.Widening.{Widening}
use Rattle.vertex_builder.proofs.Apart.{chain_distinct}
use Rattle.vertex_builder.proofs.Chains.{one_chain}
use Rattle.vertex_builder.proofs.EdgePlaces.{into_edges}
use Rattle.vertex_builder.proofs.Following.{is_chain}
use Rattle.vertex_builder.proofs.Membership.{flipped, same_yes}

all_kept : {X : Type 0} (p : X → Bool) (xs : List X) → AllByRecursion (λ x. p x ≡ true) xs → filter p xs ≡ xs
all_kept p [] each = refl
all_kept {X = X} p (x ∷ xs) each = ap (λ (b : Bool). cond b (x ∷ filter p xs) (filter p xs)) each.0 ∙ ap (λ (l : List X). x ∷ l) (all_kept p xs each.1)

none_kept : {X : Type 0} (p : X → Bool) (xs : List X) → AllByRecursion (λ x. p x ≡ false) xs → filter p xs ≡ []
none_kept p [] each = refl
none_kept p (x ∷ xs) each = ap (λ (b : Bool). cond b (x ∷ filter p xs) (filter p xs)) each.0 ∙ none_kept p xs each.1

-- the first of distinct numbers is none of the others
first_apart : (xs : List ℕ) → IsDistinct nat_eq xs → AllByRecursion (λ q. nat_eq (get_or xs 0 0) q ≡ false) (drop 1 xs)
first_apart [] d = tt
first_apart (x ∷ xs) d = IsDistinct-head nat_eq x xs d

module _ (nodes : List Node) (widened : List Widening) (head : ℕ) where
  at_head : AllByRecursion (λ (input : VertexInput). (input.into == head) ≡ true) (head_inputs nodes head)
  at_head = by (is_source_at nodes head)
    where
      each : (edges : List Edge) → AllByRecursion (λ edge. edge.into ≡ head) edges → AllByRecursion (λ (input : VertexInput). (input.into == head) ≡ true) (map (vertex_input nodes) edges)
      each [] into = tt
      each (edge ∷ edges) into = (ap (λ (n : ℕ). n == head) into.0 ∙ same_yes head, each edges into.1)

      by : (b : Bool) → AllByRecursion (λ (input : VertexInput). (input.into == head) ≡ true) (if b then files_input head ∷ [] else map (vertex_input nodes) (input_edges nodes head))
      by true = (same_yes head, tt)
      by false = each (input_edges nodes head) (recursion_from_All (λ edge. edge.into ≡ head) (input_edges nodes head) (into_edges nodes head))

  behind : (chain : List ℕ) → AllByRecursion (λ q. nat_eq head q ≡ false) chain → AllByRecursion (λ (input : VertexInput). (input.into == head) ≡ false) (map (vertex_input nodes) (filter_map (build_edge nodes widened) chain))
  behind [] apart = tt
  behind (node ∷ chain) apart = at (build_side nodes widened node) (behind chain apart.1)
    where
      edge_of : Side → Edge
      edge_of side = record { from = get_or (inputs_at nodes node) (build_place side) 0; into = node; place = build_place side }

      at : (o : Option Side) → AllByRecursion (λ (input : VertexInput). (input.into == head) ≡ false) (map (vertex_input nodes) (filter_map (build_edge nodes widened) chain))
          → AllByRecursion (λ (input : VertexInput). (input.into == head) ≡ false) (map (vertex_input nodes) (cons_option (option_map edge_of o) (filter_map (build_edge nodes widened) chain)))
      at None rest = rest
      at (Some side) rest = (flipped head node apart.0, rest)

pub counted : (nodes : List Node) (widened : List Widening) (max_parallelism : ℕ) (vertex : Vertex) → plan_faults nodes ≡ [] → IsVertex nodes widened max_parallelism vertex
    → head_input_count vertex ≡ length (head_inputs nodes (head_of vertex))
counted nodes widened max_parallelism vertex good is =
    let head = head_of vertex in
    let chain = one_chain nodes widened head vertex.nodes (chain_of nodes widened head) is.chain (is_chain nodes widened head good) in
    let distinct : IsDistinct nat_eq vertex.nodes = subst (IsDistinct nat_eq) (sym chain) (chain_distinct nodes widened good (length nodes) head) in
    let test : VertexInput → Bool = λ input. input.into == head in
    let builds = map (vertex_input nodes) (filter_map (build_edge nodes widened) (drop 1 vertex.nodes)) in
    ap length (ap (filter test) is.inputs
    ∙ filter-append test (head_inputs nodes head) builds
    ∙ (λ i. all_kept test (head_inputs nodes head) (at_head nodes widened head) i ++ none_kept test builds (behind nodes widened head (drop 1 vertex.nodes) (first_apart vertex.nodes distinct)) i)
    ∙ append-nil (head_inputs nodes head))
