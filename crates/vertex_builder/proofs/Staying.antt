-- A join that is widened leaves the vertices that it is apart from as they are.
use Rattle.std.proofs.Common.{◌≡◌, ℕ, zero, suc, ◌<◌, ◌==◌, nat_eq, Bool, true, false, not, ◌&&◌, ◌||◌, cond, ◌⊎◌, inl, inr, List, [], ◌∷◌, ◌++◌, length, map, find, drop, get_or, Option, Some, None, slice_get, refl, sym, ◌∙◌, ap, arith, if◌then◌else◌}
use Rattle.std.specs.List.{cons_option, filter_map, list_all}
use Rattle.std.specs.Option.{option_map, option_map_or}
use Rattle.std.proofs.lemmas.Bool.{cases_eq, false≢true}
use Rattle.std.proofs.lemmas.Option.{none-some}
use Rattle.plan_model.specs.declared.node.Node.{Node}
use Rattle.plan_model.specs.declared.side.Side.{Side}
use Rattle.vertex_builder.specs.Chains.{is_among}
use Rattle.vertex_builder.specs.Edges.{build_place, build_side, chained_after, consumer_edges, edges_into, edges_of, input_edges, is_chained, is_head, is_join_at, is_probe, may_chain, probe_place, widening_of}
use Rattle.vertex_builder.specs.Inputs.{IsApart, Stays, probe_of}
use Rattle.vertex_builder.specs.Vertices.{build_edge, head_inputs, head_of, inputs_at, vertex_input, IsVertex}
use Rattle.vertex_builder.specs.declared.edge.Edge.{Edge}
use Rattle.vertex_builder.specs.declared.vertex.Vertex.{Vertex}
use Rattle.vertex_builder.specs.declared.widening.Widening.{Widening}
use Rattle.vertex_builder.proofs.Apart.{input_of, in_filtered}
use Rattle.vertex_builder.proofs.Chaining.{no_node}
use Rattle.vertex_builder.proofs.Covered.{goes_into}
use Rattle.vertex_builder.proofs.Membership.{IsIn, either_right, neither_left, neither_right, same_number, same_yes}
use Rattle.std.proofs.lemmas.Option.{slice_get-get_or, slice_get_within}

-- ---- one widening more

other_item : (a b : ℕ) → (a ≡ b → ⊥) → nat_eq a b ≡ false
other_item a b differ = at (nat_eq a b) refl
  where
    at : (c : Bool) → nat_eq a b ≡ c → c ≡ false
    at true e = absurd (differ (same_number a b e))
    at false e = refl

-- of another node
pub of_other : (widened : List Widening) (more : Widening) (node : ℕ) → (more.node ≡ node → ⊥) → widening_of (widened ++ more ∷ []) node ≡ widening_of widened node
of_other [] more node differ = ap (λ (b : Bool). option_map (λ (w : Widening). w.side) (cond b (Some more) None)) (other_item more.node node differ)
of_other (first ∷ widened) more node differ = at (first.node == node) (of_other widened more node differ)
  where
    at : (b : Bool) → option_map (λ (w : Widening). w.side) (find (λ w. w.node == node) (widened ++ more ∷ [])) ≡ option_map (λ (w : Widening). w.side) (find (λ w. w.node == node) widened)
        → option_map (λ (w : Widening). w.side) (cond b (Some first) (find (λ w. w.node == node) (widened ++ more ∷ [])))
        ≡ option_map (λ (w : Widening). w.side) (cond b (Some first) (find (λ w. w.node == node) widened))
    at true rest = refl
    at false rest = rest

-- of a node that has none
pub record IsNew (widened : List Widening) (more : Widening) : Type 0 where
  pub old : widening_of widened more.node ≡ None
  pub now : widening_of (widened ++ more ∷ []) more.node ≡ Some more.side

-- a node that has one keeps it
pub of_same : (widened : List Widening) (more : Widening) → (widening_of (widened ++ more ∷ []) more.node ≡ widening_of widened more.node) ⊎ IsNew widened more
of_same [] more = inr (record { old = refl; now = ap (λ (b : Bool). option_map (λ (w : Widening). w.side) (cond b (Some more) None)) (same_yes more.node) })
of_same (first ∷ widened) more = at (first.node == more.node) refl (of_same widened more)
  where
    of : Bool → List Widening → Option Side
    of b ws = option_map (λ (w : Widening). w.side) (cond b (Some first) (find (λ w. w.node == more.node) ws))

    at : (b : Bool) → (first.node == more.node) ≡ b → (widening_of (widened ++ more ∷ []) more.node ≡ widening_of widened more.node) ⊎ IsNew widened more
        → (widening_of (first ∷ (widened ++ more ∷ [])) more.node ≡ widening_of (first ∷ widened) more.node) ⊎ IsNew (first ∷ widened) more
    at true is rest = inl (ap (λ (b : Bool). of b (widened ++ more ∷ [])) is ∙ sym (ap (λ (b : Bool). of b widened) is))
    at false is (inl kept) = inl (ap (λ (b : Bool). of b (widened ++ more ∷ [])) is ∙ kept ∙ sym (ap (λ (b : Bool). of b widened) is))
    at false is (inr new) = inr (record {
      old = ap (λ (b : Bool). of b widened) is ∙ new.old;
      now = ap (λ (b : Bool). of b (widened ++ more ∷ [])) is ∙ new.now;
    })

pub of_new : (widened : List Widening) (more : Widening) → widening_of widened more.node ≡ None → widening_of (widened ++ more ∷ []) more.node ≡ Some more.side
of_new [] more fresh = ap (λ (b : Bool). option_map (λ (w : Widening). w.side) (cond b (Some more) None)) (same_yes more.node)
of_new (first ∷ widened) more fresh = at (first.node == more.node) fresh (of_new widened more)
  where
    at : (b : Bool) → option_map (λ (w : Widening). w.side) (cond b (Some first) (find (λ w. w.node == more.node) widened)) ≡ None
        → (widening_of widened more.node ≡ None → widening_of (widened ++ more ∷ []) more.node ≡ Some more.side)
        → option_map (λ (w : Widening). w.side) (cond b (Some first) (find (λ w. w.node == more.node) (widened ++ more ∷ []))) ≡ Some more.side
    at true fresh rest = absurd (none-some first.side (sym fresh))
    at false fresh rest = rest fresh

-- ---- tests

differ_of : (a b : ℕ) → nat_eq a b ≡ false → a ≡ b → ⊥
differ_of a b unlike same = false≢true (sym unlike ∙ sym (ap (nat_eq a) same) ∙ same_yes a)

pub at_among : (chain : List ℕ) (k : ℕ) → k < length chain → is_among chain (get_or chain k 0) ≡ true
at_among [] k lt = absurd (omega (arith, lt))
at_among (node ∷ chain) zero lt = ap (λ (b : Bool). b || is_among chain node) (same_yes node)
at_among (node ∷ chain) (suc k) lt = either_right (nat_eq (get_or chain k 0) node) (is_among chain (get_or chain k 0)) (at_among chain k (omega (arith, lt)))

find_same : (p q : Edge → Bool) (edges : List Edge) → ((edge : Edge) → IsIn edge edges → p edge ≡ q edge) → find p edges ≡ find q edges
find_same p q [] same = refl
find_same p q (edge ∷ edges) same =
    (λ i. cond (same edge (inl refl) i) (Some edge) (find_same p q edges (λ e h. same e (inr h)) i))

all_same : (p q : Edge → Bool) (edges : List Edge) → ((edge : Edge) → IsIn edge edges → p edge ≡ q edge) → list_all p edges ≡ list_all q edges
all_same p q [] same = refl
all_same p q (edge ∷ edges) same = (λ i. same edge (inl refl) i && all_same p q edges (λ e h. same e (inr h)) i)

-- ---- what stays

module _ (nodes : List Node) (widened : List Widening) (more : Widening) where
  abbrev new : List Widening
  new = widened ++ more ∷ []

  side_of_other : (node : ℕ) → (more.node ≡ node → ⊥) → build_side nodes new node ≡ build_side nodes widened node
  side_of_other node differ = ap (λ (o : Option Side). if is_join_at nodes node then o else None) (of_other widened more node differ)

  -- whether the edge is a probe side, by the widening of its consumer
  abbrev probes : Edge → Option Side → Bool
  probes edge o = option_map_or (λ side. edge.place == probe_place side) (if is_join_at nodes edge.into then o else None) false

  none_probes : (edge : Edge) → probes edge None ≡ false
  none_probes edge = at (is_join_at nodes edge.into)
    where
      at : (b : Bool) → option_map_or (λ side. edge.place == probe_place side) (cond b None None) false ≡ false
      at true = refl
      at false = refl

  other_probes : (edge : Edge) (side : Side) → (edge.place ≡ probe_place side → ⊥) → probes edge (Some side) ≡ false
  other_probes edge side differ = at (is_join_at nodes edge.into)
    where
      at : (b : Bool) → option_map_or (λ s. edge.place == probe_place s) (cond b (Some side) None) false ≡ false
      at true = other_item edge.place (probe_place side) differ
      at false = refl

  probe_same : (edge : Edge) → IsIn edge (edges_of nodes) → (edge.from ≡ probe_of nodes more → ⊥) → is_probe nodes new edge ≡ is_probe nodes widened edge
  probe_same edge inside differ = by (cases_eq more.node edge.into) (of_same widened more)
    where
      input_is : more.node ≡ edge.into → edge.place ≡ probe_place more.side → edge.from ≡ probe_of nodes more
      input_is same place =
          let input = input_of nodes edge inside in
          let inputs : inputs_at nodes edge.into ≡ (get_or nodes edge.into no_node).inputs = ap (λ (o : Option Node). option_map_or (λ n. n.inputs) o []) (slice_get-get_or nodes edge.into no_node input.within) in
          sym input.item ∙ sym (ap (λ (l : List ℕ). get_or l edge.place 0) inputs)
          ∙ (λ i. get_or (inputs_at nodes (sym same i)) (place i) 0)

      by : (more.node ≡ edge.into) ⊎ (more.node ≡ edge.into → ⊥) → (widening_of new more.node ≡ widening_of widened more.node) ⊎ IsNew widened more → is_probe nodes new edge ≡ is_probe nodes widened edge
      by (inr other) either = ap (λ (o : Option Side). option_map_or (λ side. edge.place == probe_place side) o false) (side_of_other edge.into other)
      by (inl same) (inl kept) = ap (probes edge) (ap (widening_of new) (sym same) ∙ kept ∙ ap (widening_of widened) same)
      by (inl same) (inr is) =
          ap (probes edge) (ap (widening_of new) (sym same) ∙ is.now)
          ∙ other_probes edge more.side (λ place. differ (input_is same place))
          ∙ sym (ap (probes edge) (ap (widening_of widened) (sym same) ∙ is.old) ∙ none_probes edge)

  chained_same : (edge : Edge) → is_probe nodes new edge ≡ is_probe nodes widened edge → is_chained nodes new edge ≡ is_chained nodes widened edge
  chained_same edge same = ap (λ (b : Bool). (length (consumer_edges nodes edge.from) == 1) && (may_chain nodes edge || b)) same

  pub after_same : (node : ℕ) → (node ≡ probe_of nodes more → ⊥) → chained_after nodes new node ≡ chained_after nodes widened node
  after_same node differ =
      ap (option_map (λ (e : Edge). e.into)) (find_same (is_chained nodes new) (is_chained nodes widened) (consumer_edges nodes node) (λ edge h.
      let passed = in_filtered edge (λ (e : Edge). e.from == node) (edges_of nodes) h in
      let from = same_number edge.from node passed.passes in
      chained_same edge (probe_same edge passed.inside (λ is. differ (sym from ∙ is)))))

  builds_same : (chain : List ℕ) → is_among chain more.node ≡ false → filter_map (build_edge nodes new) chain ≡ filter_map (build_edge nodes widened) chain
  builds_same [] apart = refl
  builds_same (node ∷ chain) apart =
      let differ = differ_of more.node node (neither_left (nat_eq more.node node) (is_among chain more.node) apart) in
      let rest = builds_same chain (neither_right (nat_eq more.node node) (is_among chain more.node) apart) in
      let edge_of : Side → Edge = λ side. record { from = get_or (inputs_at nodes node) (build_place side) 0; into = node; place = build_place side } in
      (λ i. cons_option (option_map edge_of (side_of_other node differ i)) (rest i))

  behind_apart : (chain : List ℕ) → is_among chain more.node ≡ false → is_among (drop 1 chain) more.node ≡ false
  behind_apart [] apart = apart
  behind_apart (node ∷ chain) apart = neither_right (nat_eq more.node node) (is_among chain more.node) apart

  head_same : (head : ℕ) → (more.node ≡ head → ⊥) → is_head nodes new head ≡ is_head nodes widened head
  head_same head differ =
      all_same (λ (e : Edge). not (is_chained nodes new e)) (λ (e : Edge). not (is_chained nodes widened e)) (input_edges nodes head) (λ edge h.
      let into = leads_to edge h in
      ap not (chained_same edge (ap (λ (o : Option Side). option_map_or (λ side. edge.place == probe_place side) o false) (side_of_other edge.into (λ is. differ (is ∙ into))))))
    where
      leads_to : (edge : Edge) → IsIn edge (input_edges nodes head) → edge.into ≡ head
      leads_to edge h = at (slice_get nodes head) h
        where
          at : (o : Option Node) → IsIn edge (option_map_or (λ n. edges_into head 0 n.inputs) o []) → edge.into ≡ head
          at None h = absurd h
          at (Some it) h = (goes_into head 0 it.inputs edge h).into

  module _ (max_parallelism : ℕ) (vertex : Vertex) (is : IsVertex nodes widened max_parallelism vertex) (apart : IsApart nodes more vertex) where
    not_probe : (k : ℕ) → k < length vertex.nodes → get_or vertex.nodes k 0 ≡ probe_of nodes more → ⊥
    not_probe k lt is = false≢true (sym apart.probe ∙ ap (is_among vertex.nodes) (sym is) ∙ at_among vertex.nodes k lt)

    not_head : more.node ≡ head_of vertex → ⊥
    not_head same = false≢true (sym apart.join ∙ ap (is_among vertex.nodes) same ∙ at_among vertex.nodes 0 (slice_get_within vertex.nodes 0 (head_of vertex) is.chain.first))

    pub stays : Stays nodes widened more max_parallelism vertex
    stays = record {
      still = record {
        chain = record {
          first = is.chain.first;
          next = λ k lt. is.chain.next k lt ∙ sym (after_same (get_or vertex.nodes k 0) (not_probe k lt));
        };
        inputs = is.inputs ∙ sym (ap (λ (l : List Edge). head_inputs nodes (head_of vertex) ++ map (vertex_input nodes) l) (builds_same (drop 1 vertex.nodes) (behind_apart vertex.nodes apart.join)));
        outputs = is.outputs;
      };
      head = head_same (head_of vertex) not_head;
    }

-- ---- nothing is widened

pub none_built : (nodes : List Node) (chain : List ℕ) → filter_map (build_edge nodes []) chain ≡ []
none_built nodes [] = refl
none_built nodes (node ∷ chain) = (λ i. cons_option (option_map edge_of (either (is_join_at nodes node) None i)) (none_built nodes chain i))
  where
    edge_of : Side → Edge
    edge_of side = record { from = get_or (inputs_at nodes node) (build_place side) 0; into = node; place = build_place side }

    either : (b : Bool) (o : Option Side) → (if b then o else o) ≡ o
    either true o = refl
    either false o = refl
