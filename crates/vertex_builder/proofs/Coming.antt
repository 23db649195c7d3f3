-- What comes in at a vertex goes out of another.
use Rattle.std.proofs.Common.{◌≡◌, ℕ, zero, suc, ◌+◌, ◌-◌, ◌<◌, ◌≤◌, ◌==◌, nat_eq, Bool, true, false, not, ◌&&◌, ◌||◌, cond, inl, inr, List, [], ◌∷◌, ◌++◌, length, map, take, find, drop, get_or, Option, Some, None, slice_get, refl, sym, ◌∙◌, ap, subst, arith, if◌then◌else◌}
use Rattle.std.specs.List.{cons_option, filter_map, AllByRecursion}
use Rattle.std.specs.Option.{option_map, option_map_or}
use Rattle.std.proofs.lemmas.Bool.{false≢true}
use Rattle.std.proofs.lemmas.List.Elements.{All-from_recursion, recursion_from_All}
use Rattle.std.proofs.lemmas.Option.{none-some, slice_get-get_or, slice_get-map, slice_get_within}
use Rattle.plan_model.specs.Checks.{gives_rows, plan_faults}
use Rattle.plan_model.specs.Nodes.{sink_at}
use Rattle.plan_model.specs.Operators.{is_sink, may_rebalance}
use Rattle.plan_model.specs.declared.node.Node.{Node}
use Rattle.plan_model.specs.declared.side.Side.{Side}
use Rattle.plan_model.specs.declared.side.Side.TheVariants.{Left, Right}
use Rattle.plan_model.proofs.Laws.{good_node}
use Rattle.vertex_builder.specs.Chains.{is_among, chain_from, chain_of, HasHead, IsChain}
use Rattle.vertex_builder.specs.Edges.{build_place, build_side, chained_after, consumer_edges, edge_ship, edges_into, edges_of, input_edges, is_chained, is_forward, is_head, is_join, is_join_at, is_probe, may_chain, probe_place}
use Rattle.vertex_builder.specs.Inputs.{ComesOut, InputsComeOut, TakenFrom}
use Rattle.vertex_builder.specs.Vertices.{build_edge, chain_builds, files_input, head_inputs, head_of, inputs_at, is_source_at, last_in, last_of, nodes_taken, text_output, vertex_input, vertex_of, vertex_output, vertex_outputs, IsVertex}
use Rattle.vertex_builder.specs.declared.edge.Edge.{Edge}
use Rattle.vertex_builder.specs.declared.vertex.Vertex.{Vertex}
use Rattle.vertex_builder.specs.declared.vertex_input.VertexInput.{VertexInput}
use Rattle.vertex_builder.specs.declared.widening.Widening.{Widening}
use Rattle.vertex_builder.proofs.Apart.{each_passes, input_of, is_widened, no_row_join, two_inputs}
use Rattle.vertex_builder.proofs.Chaining.{edges_rise, no_node, nothing_chained, Rises}
use Rattle.vertex_builder.proofs.Chains.{one_chain}
use Rattle.vertex_builder.proofs.Covered.{goes_into, has_head, in_edges_from}
use Rattle.vertex_builder.proofs.Following.{chained_is_later, is_chain}
use Rattle.vertex_builder.proofs.Membership.{IsIn, all_in, all_map, either_right, in_filter, in_one, same_number, same_yes}

-- ---- lists

last_behind : (node : ℕ) (chain : List ℕ) → 0 < length chain → last_in (node ∷ chain) ≡ last_in chain
last_behind node [] some = absurd (omega (arith, some))
last_behind node (next ∷ chain) some =
    let n = length chain in
    let two : suc (suc n) - 1 ≡ suc n = omega arith in
    let one : n ≡ suc n - 1 = omega arith in
    ap (λ (k : ℕ). get_or (node ∷ next ∷ chain) k 0) two ∙ ap (λ (k : ℕ). get_or (next ∷ chain) k 0) one

taken_get : {X : Type 0} (xs : List X) (n k : ℕ) → k < n → slice_get (take n xs) k ≡ slice_get xs k
taken_get xs zero k lt = absurd (omega (arith, lt))
taken_get [] (suc n) k lt = refl
taken_get (x ∷ xs) (suc n) zero lt = refl
taken_get (x ∷ xs) (suc n) (suc k) lt = taken_get xs n k (omega (arith, lt))

module _ {X : Type 0} where
  record PlacedIn (x : X) (xs : List X) : Type 0 where
    pub place : ℕ
    pub is : slice_get xs place ≡ Some x

  placed_in : (x : X) (xs : List X) → IsIn x xs → PlacedIn x xs
  placed_in x [] h = absurd h
  placed_in x (y ∷ xs) (inl e) = record { place = 0; is = ap (λ (z : X). Some z) (sym e) }
  placed_in x (y ∷ xs) (inr h) = let rest = placed_in x xs h in record { place = suc rest.place; is = rest.is }

among_in : (node : ℕ) (chain : List ℕ) → IsIn node chain → is_among chain node ≡ true
among_in node [] h = absurd h
among_in node (x ∷ chain) (inl e) = ap (λ (b : Bool). b || is_among chain node) (ap (nat_eq node) (sym e) ∙ same_yes node)
among_in node (x ∷ chain) (inr h) = either_right (nat_eq node x) (is_among chain node) (among_in node chain h)

in_behind : (node : ℕ) (chain : List ℕ) → IsIn node (drop 1 chain) → IsIn node chain
in_behind node [] h = h
in_behind node (x ∷ chain) h = inr h

all_mapped : {X : Type 0} (f : Edge → X) (P : X → Type 0) (edges : List Edge) → ((edge : Edge) → IsIn edge edges → P (f edge)) → AllByRecursion P (map f edges)
all_mapped f P [] each = tt
all_mapped f P (edge ∷ edges) each = (each edge (inl refl), all_mapped f P edges (λ e h. each e (inr h)))

all_both : {X : Type 0} (P : X → Type 0) (xs ys : List X) → AllByRecursion P xs → AllByRecursion P ys → AllByRecursion P (xs ++ ys)
all_both P [] ys left right = right
all_both P (x ∷ xs) ys left right = (left.0, all_both P xs ys left.1 right)

record BuiltIn (h : ℕ → Option Edge) (chain : List ℕ) (edge : Edge) : Type 0 where
  pub node : ℕ
  pub inside : IsIn node chain
  pub is : h node ≡ Some edge

built_in : (h : ℕ → Option Edge) (chain : List ℕ) (edge : Edge) → IsIn edge (filter_map h chain) → BuiltIn h chain edge
built_in h [] edge inside = absurd inside
built_in h (node ∷ chain) edge inside = at (h node) refl inside (built_in h chain edge)
  where
    at : (o : Option Edge) → h node ≡ o → IsIn edge (cons_option o (filter_map h chain)) → (IsIn edge (filter_map h chain) → BuiltIn h chain edge) → BuiltIn h (node ∷ chain) edge
    at None is inside rest = let r = rest inside in record { node = r.node; inside = inr r.inside; is = r.is }
    at (Some first) is (inl e) rest = record { node = node; inside = inl refl; is = is ∙ ap (λ (x : Edge). Some x) (sym e) }
    at (Some first) is (inr later) rest = let r = rest later in record { node = r.node; inside = inr r.inside; is = r.is }

edge_at : (node place k at : ℕ) (inputs : List ℕ) → k < length inputs → at ≡ place + k → IsIn (record { from = get_or inputs k 0; into = node; place = at }) (edges_into node place inputs)
edge_at node place k at [] lt is = absurd (omega (arith, lt))
edge_at node place zero at (input ∷ inputs) lt is =
    let here : at ≡ place = omega (arith, is) in
    inl (λ i. record { from = input; into = node; place = here i })
edge_at node place (suc k) at (input ∷ inputs) lt is = inr (edge_at node (place + 1) k at inputs (omega (arith, lt)) (omega (arith, is)))

never : (b : Bool) → (b && false) ≡ false
never true = refl
never false = refl

-- ---- an edge that is not chained

pub nothing_after : (nodes : List Node) (widened : List Widening) (edge : Edge) → IsIn edge (edges_of nodes) → is_chained nodes widened edge ≡ false → chained_after nodes widened edge.from ≡ None
nothing_after nodes widened edge inside un = by (length all == 1) refl
  where
    all : List Edge
    all = consumer_edges nodes edge.from

    among : IsIn edge (consumer_edges nodes edge.from)
    among = in_filter edge (λ (e : Edge). e.from == edge.from) (edges_of nodes) (same_yes edge.from) inside

    by : (b : Bool) → (length all == 1) ≡ b → chained_after nodes widened edge.from ≡ None
    by true one =
        ap (λ (l : List Edge). option_map (λ (e : Edge). e.into) (find (is_chained nodes widened) l)) (in_one edge (consumer_edges nodes edge.from) (same_number (length all) 1 one) among)
        ∙ ap (λ (b : Bool). option_map (λ (e : Edge). e.into) (cond b (Some edge) None)) un
    by false several = sym (nothing_chained nodes widened edge.from (consumer_edges nodes edge.from) refl (λ one. false≢true (sym several ∙ ap (λ (n : ℕ). n == 1) one)))

-- ---- along chains

module _ (nodes : List Node) (widened : List Widening) (good : plan_faults nodes ≡ []) where
  some_from : (more node : ℕ) → 0 < length (chain_from more nodes widened node)
  some_from zero node = omega arith
  some_from (suc more) node = omega arith

  alone : (node : ℕ) → node ≤ last_in (node ∷ [])
  alone node = let e : last_in (node ∷ []) ≡ node = refl in omega (arith, e)

  -- no node of a chain is later than its last
  below_last : (more node : ℕ) → AllByRecursion (λ q. q ≤ last_in (chain_from more nodes widened node)) (chain_from more nodes widened node)
  below_last zero node = (alone node, tt)
  below_last (suc more) node = at (chained_after nodes widened node) refl (below_last more)
    where
      at : (o : Option ℕ) → chained_after nodes widened node ≡ o → ((z : ℕ) → AllByRecursion (λ q. q ≤ last_in (chain_from more nodes widened z)) (chain_from more nodes widened z))
          → AllByRecursion (λ q. q ≤ last_in (node ∷ option_map_or (chain_from more nodes widened) o [])) (node ∷ option_map_or (chain_from more nodes widened) o [])
      at None to rest = (alone node, tt)
      at (Some z) to rest =
          let behind = last_behind node (chain_from more nodes widened z) (some_from more z) in
          let later = chained_is_later nodes widened node z good to in
          let first = first_of more z (rest z) in (
            omega (arith, behind, later.above, first),
            all_map (λ q. q ≤ last_in (chain_from more nodes widened z)) (λ q. q ≤ last_in (node ∷ chain_from more nodes widened z)) (chain_from more nodes widened z) (rest z) (λ q le. omega (arith, le, behind)),
          )
        where
          first_of : (more z : ℕ) → AllByRecursion (λ q. q ≤ last_in (chain_from more nodes widened z)) (chain_from more nodes widened z) → z ≤ last_in (chain_from more nodes widened z)
          first_of zero z all = all.0
          first_of (suc more) z all = all.0

  -- a node of a chain after which nothing is chained is its last
  ends : (more node from : ℕ) → is_among (chain_from more nodes widened node) from ≡ true → chained_after nodes widened from ≡ None → last_in (chain_from more nodes widened node) ≡ from
  ends zero node from e none = at (nat_eq from node) refl e
    where
      at : (b : Bool) → nat_eq from node ≡ b → (b || false) ≡ true → node ≡ from
      at true is e = sym (same_number from node is)
      at false is e = absurd (false≢true e)
  ends (suc more) node from e none = at (nat_eq from node) refl (chained_after nodes widened node) refl e (λ z. ends more z from)
    where
      behind : Option ℕ → List ℕ
      behind o = option_map_or (chain_from more nodes widened) o []

      at : (b : Bool) → nat_eq from node ≡ b → (o : Option ℕ) → chained_after nodes widened node ≡ o → (b || is_among (behind o) from) ≡ true
          → ((z : ℕ) → is_among (chain_from more nodes widened z) from ≡ true → chained_after nodes widened from ≡ None → last_in (chain_from more nodes widened z) ≡ from)
          → last_in (node ∷ behind o) ≡ from
      at true is None to e rest = sym (same_number from node is)
      at true is (Some z) to e rest = absurd (none-some z (sym (sym to ∙ ap (chained_after nodes widened) (sym (same_number from node is)) ∙ none)))
      at false is None to e rest = absurd (false≢true e)
      at false is (Some z) to e rest = last_behind node (chain_from more nodes widened z) (some_from more z) ∙ rest z e none

  -- ---- an edge that is not chained

  -- its node is no sink
  gives : (edge : Edge) → IsIn edge (edges_of nodes) → edge.from < edge.into → sink_at nodes edge.from ≡ false
  gives edge inside before =
      let input = input_of nodes edge inside in
      let it = get_or nodes edge.into no_node in
      let rows = recursion_from_All (λ input. gives_rows (take edge.into nodes) input ≡ true) it.inputs (good_node nodes edge.into it good (slice_get-get_or nodes edge.into no_node input.within)).rows in
      let here = all_in (λ input. gives_rows (take edge.into nodes) input ≡ true) edge.from it.inputs rows input.from in
      no_sink (slice_get nodes edge.from) (ap (λ (o : Option Node). option_map_or (λ n. not (is_sink n.op)) o false) (sym (taken_get nodes edge.into edge.from before)) ∙ here)
    where
      no_sink : (o : Option Node) → option_map_or (λ n. not (is_sink n.op)) o false ≡ true → option_map_or (λ n. is_sink n.op) o false ≡ false
      no_sink None e = absurd (false≢true e)
      no_sink (Some it) e = at (is_sink it.op) e
        where
          at : (b : Bool) → not b ≡ true → b ≡ false
          at true e = absurd (false≢true e)
          at false e = refl

  -- ---- inputs of a vertex

  module _ (max_parallelism : ℕ) (vertex : Vertex) (is : IsVertex nodes widened max_parallelism vertex) (head : is_head nodes widened (head_of vertex) ≡ true) (within : head_of vertex < length nodes) where
    chain : vertex.nodes ≡ chain_of nodes widened (head_of vertex)
    chain = one_chain nodes widened (head_of vertex) vertex.nodes (chain_of nodes widened (head_of vertex)) is.chain (is_chain nodes widened (head_of vertex) good)

    no_later : (node : ℕ) → IsIn node vertex.nodes → node ≤ last_of vertex
    no_later node inside =
        let all : AllByRecursion (λ q. q ≤ last_in vertex.nodes) vertex.nodes = subst (λ (l : List ℕ). AllByRecursion (λ q. q ≤ last_in l) l) (sym chain) (below_last (length nodes) (head_of vertex)) in
        all_in (λ q. q ≤ last_in vertex.nodes) node vertex.nodes all inside

    -- an edge of the plan into the chain that is not chained
    record Along (edge : Edge) : Type 0 where
      pub inside : IsIn edge (edges_of nodes)
      pub un : is_chained nodes widened edge ≡ false
      pub into : IsIn edge.into vertex.nodes

    -- the vertex that its node ends
    record Ended (edge : Edge) : Type 0 where
      pub by : HasHead nodes widened edge.from
      pub among : IsIn edge (consumer_edges nodes edge.from)
      pub fits : by.head < length nodes
      pub before : edge.from < edge.into
      pub last : last_in (chain_of nodes widened by.head) ≡ edge.from
      pub earlier : edge.from < last_of vertex

    ended : (edge : Edge) → Along edge → Ended edge
    ended edge along =
        let among = in_filter edge (λ (e : Edge). e.from == edge.from) (edges_of nodes) (same_yes edge.from) along.inside in
        let rises = all_in (Rises (length nodes)) edge (consumer_edges nodes edge.from) (recursion_from_All (Rises (length nodes)) (consumer_edges nodes edge.from) (edges_rise nodes edge.from good)) among in
        let none = nothing_after nodes widened edge along.inside along.un in
        let by = has_head nodes widened good edge.from (omega (arith, rises.above, rises.below)) in
        let le = no_later edge.into along.into in
        record {
          by = by;
          among = among;
          fits = omega (arith, by.before, rises.above, rises.below);
          before = rises.above;
          last = ends (length nodes) by.head edge.from by.inside none;
          earlier = omega (arith, le, rises.above);
        }

    comes_along : (edge : Edge) → Along edge → ComesOut nodes widened max_parallelism vertex (vertex_input nodes edge) edge.from
    comes_along edge along =
        let of = ended edge along in
        let end : last_of vertex ≡ last_in (chain_of nodes widened (head_of vertex)) = ap last_in chain in
        let at = placed_in edge (consumer_edges nodes edge.from) of.among in
        let edges = map (vertex_output nodes max_parallelism) (consumer_edges nodes edge.from) in
        record {
          head = of.by.head;
          within = of.fits;
          begins = of.by.is;
          last = of.last;
          other = λ same.
              let both : last_in (chain_of nodes widened of.by.head) ≡ last_in (chain_of nodes widened (head_of vertex)) = ap (λ (n : ℕ). last_in (chain_of nodes widened n)) same in
              omega (arith, of.last, both, end, of.earlier);
          earlier = of.earlier;
          place = at.place;
          output = ap (λ (n : ℕ). slice_get (vertex_outputs nodes max_parallelism n) at.place) of.last
              ∙ ap (λ (b : Bool). slice_get (if b then text_output ∷ [] else edges) at.place) (gives edge along.inside of.before)
              ∙ slice_get-map (vertex_output nodes max_parallelism) (consumer_edges nodes edge.from) at.place
              ∙ ap (option_map (vertex_output nodes max_parallelism)) at.is;
        }

    taken_along : (edge : Edge) → Along edge → TakenFrom nodes widened (last_of vertex) edge.from
    taken_along edge along =
        let of = ended edge along in
        record { head = of.by.head; within = of.fits; begins = of.by.is; inside = of.by.inside; earlier = omega (arith, of.last, of.earlier) }

    -- the inputs of the head
    at_head : (edge : Edge) → IsIn edge (input_edges nodes (head_of vertex)) → Along edge
    at_head edge h =
        let it = get_or nodes (head_of vertex) no_node in
        let here = slice_get-get_or nodes (head_of vertex) no_node within in
        let into : IsIn edge (edges_into (head_of vertex) 0 it.inputs) = subst (λ (o : Option Node). IsIn edge (option_map_or (λ n. edges_into (head_of vertex) 0 n.inputs) o [])) here h in
        let leads = (goes_into (head_of vertex) 0 it.inputs edge into).into in
        record {
          inside = in_edges_from 0 nodes (head_of vertex) (head_of vertex) edge within (omega arith) into;
          un = unset (is_chained nodes widened edge) (each_passes (λ (e : Edge). not (is_chained nodes widened e)) edge (input_edges nodes (head_of vertex)) head h);
          into = subst (λ (n : ℕ). IsIn n vertex.nodes) (sym leads) (first_in vertex.nodes (head_of vertex) is.chain.first);
        }
      where
        unset : (b : Bool) → not b ≡ true → b ≡ false
        unset true e = absurd (false≢true e)
        unset false e = refl

        first_in : (xs : List ℕ) (x : ℕ) → slice_get xs 0 ≡ Some x → IsIn x xs
        first_in [] x e = absurd (none-some x e)
        first_in (y ∷ xs) x e = inl (sym (ap (λ (o : Option ℕ). option_map_or (λ (k : ℕ). k) o 0) e))

    -- a build side
    build : (node : ℕ) (side : Side) → build_side nodes widened node ≡ Some side → IsIn node vertex.nodes → node < length nodes
        → Along (record { from = get_or (inputs_at nodes node) (build_place side) 0; into = node; place = build_place side })
    build node side sided inside below =
        let it = get_or nodes node no_node in
        let here = slice_get-get_or nodes node no_node below in
        let join = sym (ap (λ (o : Option Node). option_map_or (λ n. is_join n.op) o false) here) ∙ (is_widened nodes widened node side sided).join in
        let two = two_inputs nodes node it good here join in
        let inputs : inputs_at nodes node ≡ it.inputs = ap (λ (o : Option Node). option_map_or (λ n. n.inputs) o []) here in
        let edge : Edge = record { from = get_or (inputs_at nodes node) (build_place side) 0; into = node; place = build_place side } in
        let at : IsIn edge (edges_into node 0 it.inputs) =
        subst (λ (l : List ℕ). IsIn (record { from = get_or l (build_place side) 0; into = node; place = build_place side }) (edges_into node 0 it.inputs)) (sym inputs)
        (edge_at node 0 (build_place side) (build_place side) it.inputs (place_below side two) (omega arith)) in
        let still = unset (may_rebalance it.op) (no_row_join it.op join) in
        let may : may_chain nodes edge ≡ false = ap (λ (o : Option Node). option_map_or (λ n. may_rebalance n.op) o false && is_forward (edge_ship nodes edge)) here ∙ ap (λ (b : Bool). b && is_forward (edge_ship nodes edge)) still in
        let probe : is_probe nodes widened edge ≡ false = ap (λ (o : Option Side). option_map_or (λ s. build_place side == probe_place s) o false) sided ∙ apart side in
        record {
          inside = in_edges_from 0 nodes node node edge below (omega arith) at;
          un = (λ i. (length (consumer_edges nodes edge.from) == 1) && (may i || probe i)) ∙ never (length (consumer_edges nodes edge.from) == 1);
          into = inside;
        }
      where
        place_below : (side : Side) {n : ℕ} → n ≡ 2 → build_place side < n
        place_below Left e = omega (arith, e)
        place_below Right e = omega (arith, e)

        apart : (side : Side) → (build_place side == probe_place side) ≡ false
        apart Left = refl
        apart Right = refl

        unset : (b : Bool) → (b ≡ true → ⊥) → b ≡ false
        unset true differs = absurd (differs refl)
        unset false differs = refl

    at_builds : (edge : Edge) → IsIn edge (filter_map (build_edge nodes widened) (drop 1 vertex.nodes)) → Along edge
    at_builds edge h = by (build_side nodes widened found.node) refl found.is
      where
        found : BuiltIn (build_edge nodes widened) (drop 1 vertex.nodes) edge
        found = built_in (build_edge nodes widened) (drop 1 vertex.nodes) edge h

        edge_of : Side → Edge
        edge_of side = record { from = get_or (inputs_at nodes found.node) (build_place side) 0; into = found.node; place = build_place side }

        or_edge : Option Edge → Edge
        or_edge None = edge
        or_edge (Some e) = e

        join_within : (nodes : List Node) (node : ℕ) → is_join_at nodes node ≡ true → node < length nodes
        join_within nodes node join = at (slice_get nodes node) refl join
          where
            at : (o : Option Node) → slice_get nodes node ≡ o → option_map_or (λ n. is_join n.op) o false ≡ true → node < length nodes
            at None is e = absurd (false≢true e)
            at (Some it) is e = slice_get_within nodes node it is

        by : (o : Option Side) → build_side nodes widened found.node ≡ o → option_map edge_of o ≡ Some edge → Along edge
        by None sided e = absurd (none-some edge e)
        by (Some side) sided e =
            subst Along (ap or_edge e)
            (build found.node side sided (in_behind found.node vertex.nodes found.inside) (join_within nodes found.node (is_widened nodes widened found.node side sided).join))

    -- ---- all that a vertex takes

    abbrev Comes : VertexInput → Type 0
    Comes input = (from : ℕ) → input.from ≡ Some from → ComesOut nodes widened max_parallelism vertex input from

    comes : (edge : Edge) → Along edge → Comes (vertex_input nodes edge)
    comes edge along from e = subst (ComesOut nodes widened max_parallelism vertex (vertex_input nodes edge)) (ap (λ (o : Option ℕ). option_map_or (λ (k : ℕ). k) o 0) e) (comes_along edge along)

    from_head : AllByRecursion Comes (head_inputs nodes (head_of vertex))
    from_head = by (is_source_at nodes (head_of vertex))
      where
        by : (b : Bool) → AllByRecursion Comes (if b then files_input (head_of vertex) ∷ [] else map (vertex_input nodes) (input_edges nodes (head_of vertex)))
        by true = ((λ from e. absurd (none-some from e)), tt)
        by false = all_mapped (vertex_input nodes) Comes (input_edges nodes (head_of vertex)) (λ edge h. comes edge (at_head edge h))

    pub inputs_come_out : InputsComeOut nodes widened max_parallelism vertex
    inputs_come_out =
        let builds = filter_map (build_edge nodes widened) (drop 1 vertex.nodes) in
        let both = all_both Comes (head_inputs nodes (head_of vertex)) (map (vertex_input nodes) builds) from_head (all_mapped (vertex_input nodes) Comes builds (λ edge h. comes edge (at_builds edge h))) in
        All-from_recursion Comes vertex.inputs (subst (AllByRecursion Comes) (sym is.inputs) both)

    pub taken : AllByRecursion (TakenFrom nodes widened (last_of vertex)) (inputs_at nodes (head_of vertex) ++ map (λ edge. edge.from) (filter_map (build_edge nodes widened) (drop 1 vertex.nodes)))
    taken =
        let P : ℕ → Type 0 = TakenFrom nodes widened (last_of vertex) in
        let from : Edge → ℕ = λ edge. edge.from in
        let builds = filter_map (build_edge nodes widened) (drop 1 vertex.nodes) in
        let first = all_mapped from P (input_edges nodes (head_of vertex)) (λ edge h. taken_along edge (at_head edge h)) in
        all_both P (inputs_at nodes (head_of vertex)) (map from builds)
        (subst (AllByRecursion P) (froms (slice_get nodes (head_of vertex))) first)
        (all_mapped from P builds (λ edge h. taken_along edge (at_builds edge h)))
      where
        each_from : (node place : ℕ) (inputs : List ℕ) → map (λ (edge : Edge). edge.from) (edges_into node place inputs) ≡ inputs
        each_from node place [] = refl
        each_from node place (input ∷ inputs) = ap (λ (l : List ℕ). input ∷ l) (each_from node (place + 1) inputs)

        froms : (o : Option Node) → map (λ (edge : Edge). edge.from) (option_map_or (λ n. edges_into (head_of vertex) 0 n.inputs) o []) ≡ option_map_or (λ n. n.inputs) o []
        froms None = refl
        froms (Some it) = each_from (head_of vertex) 0 it.inputs

  begins_with : (more head : ℕ) → get_or (chain_from more nodes widened head) 0 0 ≡ head
  begins_with zero head = refl
  begins_with (suc more) head = refl

  -- what the vertex of a head takes is in vertices whose last nodes are earlier
  pub taken_earlier : (head : ℕ) → is_head nodes widened head ≡ true → head < length nodes → AllByRecursion (TakenFrom nodes widened (last_in (chain_of nodes widened head))) (nodes_taken nodes widened head)
  taken_earlier head begins within =
      let vertex = vertex_of nodes widened 1 head in
      let here : head_of vertex ≡ head = begins_with (length nodes) head in
      let is : IsVertex nodes widened 1 vertex = record {
        chain = subst (λ (n : ℕ). IsChain nodes widened n (chain_of nodes widened head)) (sym here) (is_chain nodes widened head good);
        inputs = refl;
        outputs = refl;
      } in
      subst (λ (n : ℕ). AllByRecursion (TakenFrom nodes widened (last_in (chain_of nodes widened head))) (inputs_at nodes n ++ map (λ edge. edge.from) (chain_builds nodes widened (chain_of nodes widened head)))) here
      (taken 1 vertex is (ap (is_head nodes widened) here ∙ begins) (subst (λ (n : ℕ). n < length nodes) (sym here) within))
