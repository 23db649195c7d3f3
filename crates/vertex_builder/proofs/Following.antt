-- What is chained after a node stands later in the plan, and the chain that is computed.
use Rattle.std.proofs.Common.{◌≡◌, ℕ, zero, suc, ◌+◌, ◌<◌, ◌≤◌, nat_eq, Bool, true, false, ◌||◌, cond, List, [], ◌∷◌, length, find, get_or, Option, Some, None, slice_get, refl, sym, ◌∙◌, ap, arith}
use Rattle.std.specs.List.{AllByRecursion}
use Rattle.std.specs.Option.{option_map, option_map_or}
use Rattle.std.proofs.lemmas.Bool.{false≢true}
use Rattle.std.proofs.lemmas.Option.{none-some}
use Rattle.std.proofs.lemmas.List.Elements.{recursion_from_All}
use Rattle.plan_model.specs.Checks.{plan_faults}
use Rattle.vertex_builder.specs.declared.widening.Widening.{Widening}
use Rattle.plan_model.specs.declared.node.Node.{Node}
use Rattle.vertex_builder.specs.declared.edge.Edge.{Edge}
use Rattle.vertex_builder.specs.Chains.{is_among, IsChain, chain_from, chain_of}
use Rattle.vertex_builder.specs.Edges.{consumer_edges, is_chained, chained_after}
use Rattle.vertex_builder.specs.Links.{IsBelow}
use Rattle.vertex_builder.proofs.Chaining.{edges_lead_on}
use Rattle.vertex_builder.proofs.Membership.{same_number}

-- ---- what is chained after a node is later

pub same_item : (x y : ℕ) → Some x ≡ Some y → x ≡ y
same_item x y e = ap (λ (o : Option ℕ). option_map_or (λ (k : ℕ). k) o 0) e

found_leads_on : (p : Edge → Bool) (node end next : ℕ) (edges : List Edge) → AllByRecursion (λ edge. IsBelow node edge.into end) edges → option_map (λ (e : Edge). e.into) (find p edges) ≡ Some next → IsBelow node next end
found_leads_on p node end next [] h e = absurd (none-some next e)
found_leads_on p node end next (edge ∷ edges) h e = at (p edge) (found_leads_on p node end next edges h.1) e
  where
    at : (b : Bool) → (option_map (λ (e : Edge). e.into) (find p edges) ≡ Some next → IsBelow node next end) → option_map (λ (e : Edge). e.into) (cond b (Some edge) (find p edges)) ≡ Some next → IsBelow node next end
    at true later is = let to = same_item edge.into next is in record { above = omega (arith, h.0.above, to); below = omega (arith, h.0.below, to) }
    at false later is = later is

pub chained_is_later : (nodes : List Node) (widened : List Widening) (node next : ℕ) → plan_faults nodes ≡ [] → chained_after nodes widened node ≡ Some next → IsBelow node next (length nodes)
chained_is_later nodes widened node next good e =
    found_leads_on (is_chained nodes widened) node (length nodes) next (consumer_edges nodes node) (recursion_from_All (λ edge. IsBelow node edge.into (length nodes)) (consumer_edges nodes node) (edges_lead_on nodes node good)) e

-- ---- the chain that is computed

-- a node before a chain
longer : (nodes : List Node) (widened : List Widening) (node next : ℕ) (chain : List ℕ) → chained_after nodes widened node ≡ Some next → IsChain nodes widened next chain → IsChain nodes widened node (node ∷ chain)
longer nodes widened node next chain to of = record { first = refl; next = at }
  where
    at : (k : ℕ) → k < length (node ∷ chain) → slice_get (node ∷ chain) (k + 1) ≡ chained_after nodes widened (get_or (node ∷ chain) k 0)
    at zero lt = of.first ∙ sym to
    at (suc k) lt = let on : suc k + 1 ≡ suc (k + 1) = omega arith in ap (slice_get (node ∷ chain)) on ∙ of.next k (omega (arith, lt))

alone : (nodes : List Node) (widened : List Widening) (node : ℕ) → chained_after nodes widened node ≡ None → IsChain nodes widened node (node ∷ [])
alone nodes widened node to = record { first = refl; next = at }
  where
    at : (k : ℕ) → k < 1 → slice_get (node ∷ []) (k + 1) ≡ chained_after nodes widened (get_or (node ∷ []) k 0)
    at zero lt = sym to
    at (suc k) lt = absurd (omega (arith, lt))

is_chain_from : (nodes : List Node) (widened : List Widening) (more node : ℕ) → plan_faults nodes ≡ [] → length nodes ≤ node + more + 1 → IsChain nodes widened node (chain_from more nodes widened node)
is_chain_from nodes widened zero node good le = alone nodes widened node (at (chained_after nodes widened node) refl)
  where
    at : (o : Option ℕ) → chained_after nodes widened node ≡ o → o ≡ None
    at None to = refl
    at (Some next) to =
        let later = chained_is_later nodes widened node next good to in
        absurd (omega (arith, later.above, later.below, le))
is_chain_from nodes widened (suc more) node good le = at (chained_after nodes widened node) refl (λ next. is_chain_from nodes widened more next good)
  where
    at : (o : Option ℕ) → chained_after nodes widened node ≡ o → ((next : ℕ) → length nodes ≤ next + more + 1 → IsChain nodes widened next (chain_from more nodes widened next))
        → IsChain nodes widened node (node ∷ option_map_or (chain_from more nodes widened) o [])
    at None to rest = alone nodes widened node to
    at (Some next) to rest =
        let later = chained_is_later nodes widened node next good to in
        longer nodes widened node next (chain_from more nodes widened next) to (rest next (omega (arith, later.above, le)))

pub is_chain : (nodes : List Node) (widened : List Widening) (head : ℕ) → plan_faults nodes ≡ [] → IsChain nodes widened head (chain_of nodes widened head)
is_chain nodes widened head good = is_chain_from nodes widened (length nodes) head good (omega arith)

-- ---- the nodes of a chain are the plan's

-- what stands in one of two lists
in_either : (a b : Bool) (P : Type 0) → (a ≡ true → P) → (b ≡ true → P) → (a || b) ≡ true → P
in_either true b P f g e = f refl
in_either false b P f g e = g e

pub chain_within : (nodes : List Node) (widened : List Widening) (more node q : ℕ) → plan_faults nodes ≡ [] → node < length nodes → is_among (chain_from more nodes widened node) q ≡ true → q < length nodes
chain_within nodes widened zero node q good within e =
    in_either (nat_eq q node) false (q < length nodes) (λ is. let here = same_number q node is in omega (arith, here, within)) (λ is. absurd (false≢true is)) e
chain_within nodes widened (suc more) node q good within e =
    in_either (nat_eq q node) (is_among (option_map_or (chain_from more nodes widened) (chained_after nodes widened node) []) q) (q < length nodes)
    (λ is. let here = same_number q node is in omega (arith, here, within))
    (behind (chained_after nodes widened node) refl (λ next. chain_within nodes widened more next q good)) e
  where
    behind : (o : Option ℕ) → chained_after nodes widened node ≡ o → ((next : ℕ) → next < length nodes → is_among (chain_from more nodes widened next) q ≡ true → q < length nodes)
        → is_among (option_map_or (chain_from more nodes widened) o []) q ≡ true → q < length nodes
    behind None to rest is = absurd (false≢true is)
    behind (Some next) to rest is = rest next (chained_is_later nodes widened node next good to).below is
