-- A vertex that is made leads from a valid state to a valid one.
use Rattle.std.proofs.Common.{◌≡◌, ℕ, suc, ◌+◌, ◌<◌, ◌≤◌, Bool, List, [], ◌∷◌, ◌++◌, length, map, get_or, Option, Some, None, refl, sym, ◌∙◌, ap, subst, arith, All, true, false, not, ◌&&◌, ◌||◌, cond, slice_get, ⊎_elim}
use Rattle.std.specs.Prelude.{⊤, IsTrue, filter, nat_lt, nat_eq, if◌then◌else◌}
use Rattle.std.specs.List.{list_all, range_with_len}
use Rattle.std.specs.Option.{MatchOption, option_map_or}
use Rattle.std.proofs.lemmas.Bool.{cases_eq, cases_lt, false≢true}
use Rattle.std.proofs.lemmas.Bool.Decides.{nat_tests}
use Rattle.std.proofs.lemmas.List.{length_push, get_or_push, get_or_append_left, get_or_past}
use Rattle.std.proofs.lemmas.List.FromFn.{get_or-range_with_len, length-range_with_len}
use Rattle.std.proofs.lemmas.List.Folds.{list_any-append, list_all-append, list_all-map}
use Rattle.std.proofs.lemmas.List.Sums.{AllPass-from_list_all}
use Rattle.std.proofs.lemmas.List.Elements.{All-nil, All-cons, All-append, All-map, All-weaker, All-filter, filter_passes}
use Rattle.plan_model.specs.Checks.{plan_faults}
use Rattle.plan_model.specs.declared.node.Node.{Node}
use Rattle.vertex_builder.specs.Chains.{is_among, chain_of}
use Rattle.vertex_builder.specs.Edges.{edges_into, input_edges, is_head}
use Rattle.vertex_builder.specs.Vertices.{inputs_at, is_source_at, files_input, head_inputs, vertex_input, chain_builds, nodes_taken, is_makeable}
use Rattle.vertex_builder.specs.declared.edge.Edge.{Edge}
use Rattle.vertex_builder.proofs.Laws.{both_left, both_right, chains_part, one_chain, same_number}
use Rattle.graph_model.specs.declared.made_vertex.MadeVertex.{MadeVertex}
use Rattle.graph_model.specs.Legal.{MayMake, made_of}
use Rattle.graph_model.specs.States.{Given, State, no_vertex, vertex_at, subtasks_at, is_complete, maker, made_nodes, complete_nodes}
use Rattle.graph_model.specs.Valid.{IsMade, ComesBefore, IsDecided, IsValid, decision_of}
use Rattle.graph_model.proofs.Apart.{apart_push}
use Rattle.graph_model.proofs.Same.{maker-push}
use Rattle.graph_model.proofs.Winners.{in_range}
use Rattle.graph_model.proofs.Deciding.{KeepsFed, decided_on, done_on, winner_on, won_decided}

-- where a node stands in a list
pub stands : (nodes : List ℕ) (node : ℕ) → is_among nodes node ≡ true → (k : ℕ) × (k < length nodes) × (get_or nodes k 0 ≡ node)
stands [] node is = absurd (false≢true is)
stands (first ∷ nodes) node is = by_first (nat_eq node first) refl is (stands nodes node)
  where
    by_first : (b : Bool) → nat_eq node first ≡ b → (b || is_among nodes node) ≡ true → (is_among nodes node ≡ true → (k : ℕ) × (k < length nodes) × (get_or nodes k 0 ≡ node))
        → (k : ℕ) × (k < length (first ∷ nodes)) × (get_or (first ∷ nodes) k 0 ≡ node)
    by_first true e is rest = (0, omega arith, sym (same_number node first e))
    by_first false e is rest = let (k, lt, at) = rest is in (suc k, omega (arith, lt), at)

-- ---- a node of a complete vertex is made

pub among_complete : (vs : List MadeVertex) (node : ℕ) → is_among (complete_nodes vs) node ≡ true → maker vs node < length vs
among_complete [] node is = absurd (false≢true is)
among_complete (made ∷ vs) node is = by_first (is_among made.vertex.nodes node) refl (among_complete vs node)
  where
    first_of : (b c : Bool) → is_among made.vertex.nodes node ≡ false → (is_among (if b then made.vertex.nodes else []) node || c) ≡ true → c ≡ true
    first_of true c none is = ap (λ (x : Bool). x || c) (sym none) ∙ is
    first_of false c none is = is

    by_first : (b : Bool) → is_among made.vertex.nodes node ≡ b → (is_among (complete_nodes vs) node ≡ true → maker vs node < length vs)
        → cond (not b) (1 + maker vs node) 0 < length (made ∷ vs)
    by_first true e rest = omega arith
    by_first false e rest =
        let split = sym (list_any-append (nat_eq node) (if is_complete made then made.vertex.nodes else []) (complete_nodes vs)) ∙ is in
        let lt = rest (first_of (is_complete made) (is_among (complete_nodes vs) node) e split) in
        omega (arith, lt)

-- ---- heads that can be made

-- what passes the test among the first numbers
pub in_range_filter : (test : ℕ → Bool) (count node : ℕ) → is_among (filter test (range_with_len 0 count)) node ≡ true → (test node ≡ true) × (node < count)
in_range_filter test count node is = at (stands (filter test (range_with_len 0 count)) node is)
  where
    numbers : List ℕ
    numbers = range_with_len 0 count

    below : All (λ n. n < count) numbers
    below k d lt =
        let less : k < count = subst (λ (n : ℕ). k < n) (length-range_with_len 0 count) lt in
        let is : get_or (range_with_len 0 count) k d ≡ 0 + k = get_or-range_with_len 0 count k d less in
        omega (arith, is, less)

    at : (k : ℕ) × (k < length (filter test (range_with_len 0 count))) × (get_or (filter test (range_with_len 0 count)) k 0 ≡ node) → (test node ≡ true) × (node < count)
    at (k, lt, is) = (
      subst (λ (n : ℕ). test n ≡ true) is (filter_passes test (range_with_len 0 count) k 0 lt),
      subst (λ (n : ℕ). n < count) is (All-filter test (λ n. n < count) (range_with_len 0 count) below k 0 lt),
    )

-- ---- inputs that come from complete vertices

abbrev HasMaker : List ℕ → Edge → Type 0
HasMaker complete edge = is_among complete edge.from ≡ true

into_complete : (complete : List ℕ) (node place : ℕ) (inputs : List ℕ) → list_all (is_among complete) inputs ≡ true → All (HasMaker complete) (edges_into node place inputs)
into_complete complete node place [] is = All-nil (HasMaker complete)
into_complete complete node place (input ∷ inputs) is =
    All-cons (HasMaker complete) (record { from = input; into = node; place = place }) (edges_into node (place + 1) inputs)
    (both_left (is_among complete input) (list_all (is_among complete) inputs) is) (into_complete complete node (place + 1) inputs (both_right (is_among complete input) (list_all (is_among complete) inputs) is))

at_complete : (complete : List ℕ) (place : ℕ) (at : Option Node) → list_all (is_among complete) (option_map_or (λ node. node.inputs) at []) ≡ true
    → All (HasMaker complete) (option_map_or (λ node. edges_into place 0 node.inputs) at [])
at_complete complete place None is = All-nil (HasMaker complete)
at_complete complete place (Some node) is = into_complete complete place 0 node.inputs is

not_true : (b : Bool) → not b ≡ true → b ≡ false
not_true true e = sym e
not_true false e = refl

-- ---- the vertex that is made

module _ (given : Given) (state : State) (v : ℕ) (nodes : List ℕ) (good : plan_faults given.nodes ≡ []) (valid : IsValid given state) (may : MayMake given state v nodes) where
  abbrev vs : List MadeVertex
  vs = state.vertices

  abbrev new : MadeVertex
  new = made_of given state nodes

  abbrev us : List MadeVertex
  us = vs ++ new ∷ []

  abbrev head : ℕ
  head = get_or nodes 0 0

  abbrev made : List ℕ
  made = made_nodes vs

  abbrev complete : List ℕ
  complete = complete_nodes vs

  abbrev builds : List Edge
  builds = chain_builds given.nodes state.widened nodes

  found : (is_makeable given.nodes state.widened made complete head ≡ true) × (head < length given.nodes)
  found = in_range_filter (is_makeable given.nodes state.widened made complete) (length given.nodes) head may.makeable

  abbrev taken : Bool
  taken = list_all (is_among complete) (nodes_taken given.nodes state.widened head)

  is_new : (is_head given.nodes state.widened head && not (is_among made head)) ≡ true
  is_new = both_left (is_head given.nodes state.widened head && not (is_among made head)) taken found.0

  is_a_head : is_head given.nodes state.widened head ≡ true
  is_a_head = both_left (is_head given.nodes state.widened head) (not (is_among made head)) is_new

  unmade : is_among made head ≡ false
  unmade = not_true (is_among made head) (both_right (is_head given.nodes state.widened head) (not (is_among made head)) is_new)

  -- what is taken is complete: the head's inputs, and the builds of the chain
  all_taken : (list_all (is_among complete) (inputs_at given.nodes head) && list_all (is_among complete) (map (λ edge. edge.from) builds)) ≡ true
  all_taken =
      let same : chain_of given.nodes state.widened head ≡ nodes = one_chain given.nodes state.widened head (chain_of given.nodes state.widened head) nodes ((chains_part given.nodes state.widened good).chains head) may.chain in
      let of : List ℕ → List ℕ = λ chain. inputs_at given.nodes head ++ map (λ (edge : Edge). edge.from) (chain_builds given.nodes state.widened chain) in
      sym (list_all-append (is_among complete) (inputs_at given.nodes head) (map (λ (edge : Edge). edge.from) builds))
      ∙ ap (λ (l : List ℕ). list_all (is_among complete) l) (sym (ap of same))
      ∙ both_right (is_head given.nodes state.widened head && not (is_among made head)) taken found.0

  are_ready : list_all (is_among complete) (inputs_at given.nodes head) ≡ true
  are_ready = both_left (list_all (is_among complete) (inputs_at given.nodes head)) (list_all (is_among complete) (map (λ (edge : Edge). edge.from) builds)) all_taken

  are_built : All (HasMaker complete) builds
  are_built = AllPass-from_list_all (λ (edge : Edge). is_among complete edge.from) builds
      (sym (list_all-map (is_among complete) (λ (edge : Edge). edge.from) builds)
      ∙ both_right (list_all (is_among complete) (inputs_at given.nodes head)) (list_all (is_among complete) (map (λ (edge : Edge). edge.from) builds)) all_taken)

  comes : (edge : Edge) → HasMaker complete edge → ComesBefore us (length vs) (vertex_input given.nodes edge)
  comes edge has =
      let lt = among_complete vs edge.from has in
      subst (λ (n : ℕ). n < length vs) (sym (maker-push vs edge.from new lt)) lt

  edges_come : (edges : List Edge) → All (HasMaker complete) edges → All (ComesBefore us (length vs)) (map (vertex_input given.nodes) edges)
  edges_come edges has = All-map (ComesBefore us (length vs)) (vertex_input given.nodes) edges (λ k d lt. comes (get_or edges k d) (has k d lt))

  heads_come : All (ComesBefore us (length vs)) (head_inputs given.nodes head)
  heads_come = by_source (is_source_at given.nodes head)
    where
      by_source : (b : Bool) → All (ComesBefore us (length vs)) (if b then files_input head ∷ [] else map (vertex_input given.nodes) (input_edges given.nodes head))
      by_source true = All-cons (ComesBefore us (length vs)) (files_input head) [] tt (All-nil (ComesBefore us (length vs)))
      by_source false = edges_come (input_edges given.nodes head) (at_complete complete head (slice_get given.nodes head) are_ready)

  new_comes : All (ComesBefore us (length vs)) new.vertex.inputs
  new_comes = All-append (ComesBefore us (length vs)) (head_inputs given.nodes head) (map (vertex_input given.nodes) builds) heads_come (edges_come builds are_built)

  at_old : (u : ℕ) → u < length vs → vertex_at us u ≡ vertex_at vs u
  at_old u lt = get_or_append_left vs (new ∷ []) no_vertex u lt

  at_new : (u : ℕ) → length vs ≡ u → vertex_at us u ≡ new
  at_new u is = get_or_push vs new no_vertex u is

  old_comes : (u : ℕ) → u < length vs → (from : Option ℕ) → MatchOption from ⊤ (λ node. maker vs node < u) → MatchOption from ⊤ (λ node. maker us node < u)
  old_comes u lt None h = tt
  old_comes u lt (Some node) less = subst (λ (n : ℕ). n < u) (sym (maker-push vs node new (omega (arith, less, lt)))) less

  -- a vertex with subtasks is an old one
  is_old : (u : ℕ) → 0 < length (subtasks_at us u) → u < length vs
  is_old u some = ⊎_elim (λ (lt : u < length vs). lt)
      (λ (le : length vs ≤ u). ⊎_elim
      (λ (is : u ≡ length vs). absurd (omega (arith, subst (λ (m : MadeVertex). 0 < length m.subtasks) (at_new u (sym is)) some)))
      (λ (ne : u ≡ length vs → ⊥).
      let last = length_push vs new in
      absurd (omega (arith, subst (λ (m : MadeVertex). 0 < length m.subtasks) (get_or_past us u no_vertex (omega (arith, le, ne, last))) some)))
      (cases_eq u (length vs)))
      (cases_lt u (length vs))

  decided_lt : (n : ℕ) → IsTrue (nat_lt 0 n) → 0 < n
  decided_lt n is = grind (arith, nat_tests)

  pub keeps_made : KeepsFed vs us
  keeps_made = record {
    node = λ node is.
        let lt = in_range vs (maker vs node) (decided_lt (length (subtasks_at vs (maker vs node))) is) in
        let same = maker-push vs node new lt in
        (same, ap (λ (n : ℕ). length (subtasks_at us n)) same ∙ ap (λ (m : MadeVertex). length m.subtasks) (at_old (maker vs node) lt));
    vertex = λ node is.
        let lt = in_range vs (maker vs node) (decided_lt (length (subtasks_at vs (maker vs node))) is) in
        ap (λ (n : ℕ). (vertex_at us n).vertex) (maker-push vs node new lt) ∙ ap (λ (m : MadeVertex). m.vertex) (at_old (maker vs node) lt);
    still = λ u some. at_old u (in_range vs u some);
    won = λ sub win is. at_old sub.vertex (is_old sub.vertex (won_decided us sub win is));
    stays = λ sub win is. at_old sub.vertex (in_range vs sub.vertex (won_decided vs sub win is));
  }

  new_made : IsMade given state.widened new.vertex
  new_made = record { is = record { chain = may.chain; inputs = refl; outputs = refl }; head = is_a_head; within = found.1 }

  pub valid_made : IsValid given (record state { vertices = us })
  valid_made = record {
    made = λ u lt. ⊎_elim
        (λ (less : u < length vs). subst (λ (m : MadeVertex). IsMade given state.widened m.vertex) (sym (at_old u less)) (valid.made u less))
        (λ (le : length vs ≤ u).
        let long = length_push vs new in
        subst (λ (m : MadeVertex). IsMade given state.widened m.vertex) (sym (at_new u (omega (arith, lt, le, long)))) new_made)
        (cases_lt u (length vs));
    before = λ u lt. ⊎_elim
        (λ (less : u < length vs).
        let inputs = (vertex_at vs u).vertex.inputs in
        subst (λ (m : MadeVertex). All (ComesBefore us u) m.vertex.inputs) (sym (at_old u less))
        (All-weaker (ComesBefore vs u) (ComesBefore us u) (λ input. old_comes u less input.from) inputs (valid.before u less)))
        (λ (le : length vs ≤ u).
        let long = length_push vs new in
        let is : length vs ≡ u = omega (arith, lt, le, long) in
        subst (λ (m : MadeVertex). All (ComesBefore us u) m.vertex.inputs) (sym (at_new u is))
        (subst (λ (n : ℕ). All (ComesBefore us n) new.vertex.inputs) is new_comes))
        (cases_lt u (length vs));
    apart = apart_push vs new unmade valid.apart;
    joins = valid.joins;
    decided = λ u some.
        let less = is_old u some in
        let same = at_old u less in
        let was = subst (λ (m : MadeVertex). 0 < length m.subtasks) same some in
        subst (λ (m : MadeVertex). IsDecided given us m.vertex (decision_of m.subtasks)) (sym same)
        (decided_on given vs us keeps_made (vertex_at vs u).vertex (decision_of (subtasks_at vs u)) (valid.decided u was));
    winners = winner_on vs us state.dones state.epoch keeps_made (λ u some. (valid.decided u some).fed) valid.winners;
    done = done_on vs us keeps_made state.dones valid.done;
  }
