-- Each node of a plan stands in the chain of a head.
use Rattle.std.proofs.Common.{◌≡◌, ℕ, zero, suc, ◌+◌, ◌<◌, ◌≤◌, ◌==◌, nat_eq, Bool, true, false, ◌||◌, cond, inl, inr, List, [], ◌∷◌, length, find, get_or, Option, Some, None, refl, sym, ◌∙◌, ap, subst, arith}
use Rattle.std.specs.Option.{option_map, option_map_or}
use Rattle.std.proofs.lemmas.Bool.{false≢true}
use Rattle.std.proofs.lemmas.List.Elements.{recursion_from_All}
use Rattle.std.proofs.lemmas.Option.{slice_get-get_or}
use Rattle.plan_model.specs.Checks.{plan_faults}
use Rattle.vertex_builder.specs.declared.widening.Widening.{Widening}
use Rattle.plan_model.specs.declared.node.Node.{Node}
use Rattle.vertex_builder.specs.declared.edge.Edge.{Edge}
use Rattle.vertex_builder.specs.Edges.{edges_into, edges_from, edges_of, consumer_edges, input_edges, may_chain, is_chained, is_probe, chained_after, is_head}
use Rattle.vertex_builder.specs.Chains.{is_among}
use Rattle.vertex_builder.proofs.Chaining.{no_node}
use Rattle.plan_model.proofs.Laws.{inputs_earlier}
use Rattle.vertex_builder.specs.Chains.{is_among, chain_from, HasHead}
use Rattle.vertex_builder.proofs.Following.{chained_is_later}
use Rattle.vertex_builder.proofs.Membership.{same_yes, same_number, either_left, either_right, both_left, IsIn, in_front, in_back, in_filter, in_one, all_in, one_passes}

-- ---- edges of a node

-- an edge into the node, from the input at its place
pub record GoesInto (node place : ℕ) (inputs : List ℕ) (edge : Edge) : Type 0 where
  pub into : edge.into ≡ node
  pub from : IsIn edge.from inputs
  pub at : ℕ
  pub placed : edge.place ≡ place + at
  pub within : at < length inputs
  pub item : get_or inputs at 0 ≡ edge.from

pub goes_into : (node place : ℕ) (inputs : List ℕ) (edge : Edge) → IsIn edge (edges_into node place inputs) → GoesInto node place inputs edge
goes_into node place [] edge h = absurd h
goes_into node place (input ∷ inputs) edge (inl e) =
    let at_place = ap (λ (x : Edge). x.place) e in
    record {
      into = ap (λ (x : Edge). x.into) e;
      from = inl (ap (λ (x : Edge). x.from) e);
      at = 0;
      placed = omega (arith, at_place);
      within = omega arith;
      item = sym (ap (λ (x : Edge). x.from) e);
    }
goes_into node place (input ∷ inputs) edge (inr h) =
    let rest = goes_into node (place + 1) inputs edge h in
    record {
      into = rest.into;
      from = inr rest.from;
      at = suc rest.at;
      placed = omega (arith, rest.placed);
      within = omega (arith, rest.within);
      item = rest.item;
    }

pub in_edges_from : (place : ℕ) (nodes : List Node) (k at : ℕ) (edge : Edge) → k < length nodes → at ≡ place + k → IsIn edge (edges_into at 0 (get_or nodes k no_node).inputs) → IsIn edge (edges_from place nodes)
in_edges_from place [] k at edge lt is h = absurd (omega (arith, lt))
in_edges_from place (node ∷ nodes) zero at edge lt is h =
    let here : at ≡ place = omega (arith, is) in
    in_front edge (edges_into place 0 node.inputs) (edges_from (place + 1) nodes) (subst (λ (n : ℕ). IsIn edge (edges_into n 0 node.inputs)) here h)
in_edges_from place (node ∷ nodes) (suc k) at edge lt is h =
    in_back edge (edges_into place 0 node.inputs) (edges_from (place + 1) nodes) (in_edges_from (place + 1) nodes k at edge (omega (arith, lt)) (omega (arith, is)) h)

-- ---- along a chain

pub starts : (more : ℕ) (nodes : List Node) (widened : List Widening) (node : ℕ) → is_among (chain_from more nodes widened node) node ≡ true
starts zero nodes widened node = either_left (nat_eq node node) false (same_yes node)
starts (suc more) nodes widened node = either_left (nat_eq node node) (is_among (option_map_or (chain_from more nodes widened) (chained_after nodes widened node) []) node) (same_yes node)

-- a chain goes on to its end
follows : (nodes : List Node) (widened : List Widening) (more head x y : ℕ) → plan_faults nodes ≡ [] → length nodes ≤ head + more + 1 → is_among (chain_from more nodes widened head) x ≡ true → chained_after nodes widened x ≡ Some y → is_among (chain_from more nodes widened head) y ≡ true
follows nodes widened zero head x y good le inside next = at (nat_eq x head) refl inside
  where
    at : (b : Bool) → nat_eq x head ≡ b → (b || false) ≡ true → is_among (chain_from zero nodes widened head) y ≡ true
    at true is e =
        let here = same_number x head is in
        let later = chained_is_later nodes widened x y good next in
        absurd (omega (arith, here, later.above, later.below, le))
    at false is e = absurd (false≢true e)
follows nodes widened (suc more) head x y good le inside next =
    either_right (nat_eq y head) (is_among (behind (chained_after nodes widened head)) y)
    (at (nat_eq x head) refl (chained_after nodes widened head) refl inside (λ z. follows nodes widened more z x y good))
  where
    behind : Option ℕ → List ℕ
    behind o = option_map_or (chain_from more nodes widened) o []

    at : (b : Bool) → nat_eq x head ≡ b → (o : Option ℕ) → chained_after nodes widened head ≡ o → (b || is_among (behind o) x) ≡ true
        → ((z : ℕ) → length nodes ≤ z + more + 1 → is_among (chain_from more nodes widened z) x ≡ true → chained_after nodes widened x ≡ Some y → is_among (chain_from more nodes widened z) y ≡ true)
        → is_among (behind o) y ≡ true
    at true is o to e rest =
        let after : o ≡ Some y = sym to ∙ ap (chained_after nodes widened) (sym (same_number x head is)) ∙ next in
        ap (λ (p : Option ℕ). is_among (behind p) y) after ∙ starts more nodes widened y
    at false is None to e rest = absurd (false≢true e)
    at false is (Some z) to e rest =
        let later = chained_is_later nodes widened head z good to in
        rest z (omega (arith, later.above, le)) e next

-- ---- each node

module _ (nodes : List Node) (widened : List Widening) (good : plan_faults nodes ≡ []) where
  -- the edge that chains a node behind another
  record IsChainedBy (node : ℕ) (edge : Edge) : Type 0 where
    pub before : edge.from < node
    pub next : chained_after nodes widened edge.from ≡ Some node

  chained_by : (node : ℕ) (edge : Edge) → node < length nodes → IsIn edge (input_edges nodes node) → is_chained nodes widened edge ≡ true → IsChainedBy node edge
  chained_by node edge lt h chained =
      let here = get_or nodes node no_node in
      let edges : input_edges nodes node ≡ edges_into node 0 here.inputs = ap (λ (o : Option Node). option_map_or (λ n. edges_into node 0 n.inputs) o []) (slice_get-get_or nodes node no_node lt) in
      let inside : IsIn edge (edges_into node 0 here.inputs) = subst (IsIn edge) edges h in
      let goes = goes_into node 0 here.inputs edge inside in
      let inputs = inputs_earlier nodes node here good (slice_get-get_or nodes node no_node lt) in
      let all : IsIn edge (edges_of nodes) = in_edges_from 0 nodes node node edge lt (omega arith) inside in
      let among : IsIn edge (consumer_edges nodes edge.from) = in_filter edge (λ (e : Edge). e.from == edge.from) (edges_of nodes) (same_yes edge.from) all in
      let one : length (consumer_edges nodes edge.from) ≡ 1 = same_number (length (consumer_edges nodes edge.from)) 1 (both_left (length (consumer_edges nodes edge.from) == 1) (may_chain nodes edge || is_probe nodes widened edge) chained) in
      record {
        before = all_in (λ input. input < node) edge.from here.inputs (recursion_from_All (λ input. input < node) here.inputs inputs) goes.from;
        next = ap (λ (l : List Edge). option_map (λ (e : Edge). e.into) (find (is_chained nodes widened) l)) (in_one edge (consumer_edges nodes edge.from) one among)
            ∙ ap (λ (b : Bool). option_map (λ (e : Edge). e.into) (cond b (Some edge) None)) chained
            ∙ ap (λ (n : ℕ). Some n) goes.into;
      }

  has_head_below : (n node : ℕ) → node < n → node < length nodes → HasHead nodes widened node
  has_head_below zero node lt within = absurd (omega (arith, lt))
  has_head_below (suc n) node lt within = at (is_head nodes widened node) refl (has_head_below n)
    where
      at : (b : Bool) → is_head nodes widened node ≡ b → ((m : ℕ) → m < n → m < length nodes → HasHead nodes widened m) → HasHead nodes widened node
      at true is rest = record { head = node; before = omega arith; is = is; inside = starts (length nodes) nodes widened node }
      at false is rest =
          let found = one_passes (is_chained nodes widened) (input_edges nodes node) is in
          let edge = found.item in
          let by = chained_by node edge within found.inside found.passes in
          let first = rest edge.from (omega (arith, by.before, lt)) (omega (arith, by.before, within)) in
          record {
            head = first.head;
            before = omega (arith, first.before, by.before);
            is = first.is;
            inside = follows nodes widened (length nodes) first.head edge.from node good (omega arith) first.inside by.next;
          }

  pub has_head : (node : ℕ) → node < length nodes → HasHead nodes widened node
  has_head node within = has_head_below (suc node) node (omega arith) within
