-- Which edges are chained, by what is kept of a plan.
use Rattle.std.proofs.Common.{◌≡◌, ◌≢◌, ℕ, zero, suc, ◌+◌, ◌<◌, ◌≤◌, ◌==◌, Bool, true, false, not, ◌&&◌, ◌||◌, cond, All, List, [], ◌∷◌, ◌++◌, length, take, find, get_or, Option, Some, None, slice_get, refl, sym, ◌∙◌, ap, subst, arith}
use Rattle.std.specs.List.{list_all, AllByRecursion}
use Rattle.std.specs.Option.{option_map, option_map_or}
use Rattle.std.specs.Prelude.{if◌then◌else◌}
use Rattle.std.proofs.lemmas.List.{get_or_default, take_all}
use Rattle.std.proofs.lemmas.List.Elements.{All-nil, All-cons, All-append, All-filter, filter_passes, recursion_from_All}
use Rattle.std.proofs.lemmas.Bool.Decides.{nat_tests}
use Rattle.plan_model.specs.Checks.{plan_faults}
use Rattle.plan_model.specs.Operators.{may_rebalance}
use Rattle.plan_model.specs.Widths.{widths_of}
use Rattle.vertex_builder.specs.declared.widening.Widening.{Widening}
use Rattle.plan_model.specs.declared.node.Node.{Node}
use Rattle.plan_model.specs.declared.op.Op.{Op}
use Rattle.plan_model.specs.declared.op.Op.TheVariants.{Source, Filter, Project, Explode, Union, Aggregate, Distinct, Join, Sink}
use Rattle.plan_model.specs.declared.ship.Ship.TheVariants.{Forward, Rebalance}
use Rattle.vertex_builder.specs.declared.edge.Edge.{Edge}
use Rattle.vertex_builder.specs.Edges.{edges_into, edges_of, consumer_edges, op_ship, ship_into, is_forward, is_join, is_probe, may_chain, probe_place, is_chained, chained_after, is_head, takes_rows, widening_of}
use Rattle.vertex_builder.specs.Links.{IsBelow, ListConsumers}
use Rattle.vertex_builder.proofs.EdgeLists.{edges_into-next, edges_of-next}
use Rattle.plan_model.proofs.Laws.{inputs_earlier, node_read}
use Rattle.vertex_builder.proofs.Membership.{both_left, both_right}

-- ---- where edges lead

-- an edge leads to a later node of the plan
abbrev pub Rises : ℕ → Edge → Type 0
Rises n edge = IsBelow edge.from edge.into n

into_rises : (n node place : ℕ) (inputs : List ℕ) → node < n → AllByRecursion (λ input. input < node) inputs → All (Rises n) (edges_into node place inputs)
into_rises n node place [] lt h = All-nil (Rises n)
into_rises n node place (input ∷ inputs) lt h =
    All-cons (Rises n) (record { from = input; into = node; place = place }) (edges_into node (place + 1) inputs)
    (record { above = h.0; below = lt }) (into_rises n node (place + 1) inputs lt h.1)

abbrev pub no_node : Node
no_node = record { op = Union; inputs = []; rebalance = false }

front_rises : (nodes : List Node) → plan_faults nodes ≡ [] → (k : ℕ) → k ≤ length nodes → All (Rises (length nodes)) (edges_of (take k nodes))
front_rises nodes good zero le = All-nil (Rises (length nodes))
front_rises nodes good (suc k) le =
    let node = get_or nodes k no_node in
    let lt : k < length nodes = omega (arith, le) in
    let is = get_or_default nodes k no_node node lt in
    let on : suc k ≡ k + 1 = omega arith in
    subst (All (Rises (length nodes))) (sym (ap (λ (m : ℕ). edges_of (take m nodes)) on ∙ edges_of-next nodes k node lt is))
    (All-append (Rises (length nodes)) (edges_of (take k nodes)) (edges_into k 0 node.inputs)
    (front_rises nodes good k (omega (arith, le)))
    (into_rises (length nodes) k 0 node.inputs lt (recursion_from_All (λ input. input < k) node.inputs (inputs_earlier nodes k node good (node_read nodes k node lt is)))))

pub edges_rise : (nodes : List Node) (node : ℕ) → plan_faults nodes ≡ [] → All (Rises (length nodes)) (consumer_edges nodes node)
edges_rise nodes node good =
    All-filter (λ edge. edge.from == node) (Rises (length nodes)) (edges_of nodes)
    (subst (λ (front : List Node). All (Rises (length nodes)) (edges_of front)) (take_all (length nodes) nodes (omega arith)) (front_rises nodes good (length nodes) (omega arith)))

same_number : (m n : ℕ) → (m == n) ≡ true → m ≡ n
same_number m n e = grind (arith, nat_tests)

-- the edges from a node lead to later nodes
pub edges_lead_on : (nodes : List Node) (node : ℕ) → plan_faults nodes ≡ [] → All (λ edge. IsBelow node edge.into (length nodes)) (consumer_edges nodes node)
edges_lead_on nodes node good = λ k d lt.
    let edge = get_or (consumer_edges nodes node) k d in
    let rise = edges_rise nodes node good k d lt in
    let here : edge.from ≡ node = same_number edge.from node (filter_passes (λ (e : Edge). e.from == node) (edges_of nodes) k d lt) in
    record { above = omega (arith, rise.above, here); below = rise.below }

-- ---- the chained edge among a node's edges

forward : (op : Op) (rebalance : Bool) (place width : ℕ) → (may_rebalance op && is_forward (if rebalance then Rebalance else op_ship op place width)) ≡ (may_rebalance op && not rebalance)
forward (Source table columns) rebalance place width = refl
forward (Filter test) true place width = refl
forward (Filter test) false place width = refl
forward (Project exprs) true place width = refl
forward (Project exprs) false place width = refl
forward (Explode column separator) true place width = refl
forward (Explode column separator) false place width = refl
forward Union rebalance place width = refl
forward (Aggregate keys aggs) rebalance place width = refl
forward Distinct rebalance place width = refl
forward (Join kind keys) rebalance place width = refl
forward (Sink name) true place width = refl
forward (Sink name) false place width = refl

-- whether an edge may chain, by its consumer
pub chains_at : (nodes : List Node) (edge : Edge) (node : Node) → slice_get nodes edge.into ≡ Some node → may_chain nodes edge ≡ (may_rebalance node.op && not node.rebalance)
chains_at nodes edge node is =
    let width = get_or (widths_of nodes) edge.from 0 in
    ap (λ (at : Option Node). option_map_or (λ n. may_rebalance n.op) at false && is_forward (option_map_or (λ n. ship_into n edge.place width) at Forward)) is
    ∙ forward node.op node.rebalance edge.place width

-- whether an edge that is the only one from its node is chained, by its consumer
pub chains_by : (nodes : List Node) (widened : List Widening) (edge : Edge) (node : Node) → slice_get nodes edge.into ≡ Some node
    → (may_chain nodes edge || is_probe nodes widened edge)
    ≡ (takes_rows node || option_map_or (λ side. edge.place == probe_place side) (if is_join node.op then widening_of widened edge.into else None) false)
chains_by nodes widened edge node is =
    (λ i. chains_at nodes edge node is i
    || option_map_or (λ side. edge.place == probe_place side) (if option_map_or (λ n. is_join n.op) (is i) false then widening_of widened edge.into else None) false)

into_of : Option Edge → Option ℕ
into_of found = option_map (λ (edge : Edge). edge.into) found

-- several edges, or none
none_chained : (nodes : List Node) (widened : List Widening) (edges : List Edge) → AllByRecursion (λ edge. (length (consumer_edges nodes edge.from) == 1) ≡ false) edges → find (is_chained nodes widened) edges ≡ None
none_chained nodes widened [] h = refl
none_chained nodes widened (edge ∷ edges) h =
    ap (λ (one : Bool). cond (one && (may_chain nodes edge || is_probe nodes widened edge)) (Some edge) (find (is_chained nodes widened) edges)) h.0 ∙ none_chained nodes widened edges h.1

not_one : (n : ℕ) → n ≢ 1 → (n == 1) ≡ false
not_one n ne = grind (arith, nat_tests)

other_number : (nodes : List Node) (node : ℕ) (edges : List Edge) → (length (consumer_edges nodes node) == 1) ≡ false → AllByRecursion (λ edge. (edge.from == node) ≡ true) edges
    → AllByRecursion (λ edge. (length (consumer_edges nodes edge.from) == 1) ≡ false) edges
other_number nodes node [] unlike h = tt
other_number nodes node (edge ∷ edges) unlike h =
    (ap (λ (n : ℕ). length (consumer_edges nodes n) == 1) (same_number edge.from node h.0) ∙ unlike, other_number nodes node edges unlike h.1)

pub nothing_chained : (nodes : List Node) (widened : List Widening) (node : ℕ) (edges : List Edge) → edges ≡ consumer_edges nodes node → length edges ≢ 1 → None ≡ chained_after nodes widened node
nothing_chained nodes widened node edges e ne =
    let all = consumer_edges nodes node in
    let unlike = not_one (length all) (subst (λ (l : List Edge). length l ≢ 1) e ne) in
    let from = recursion_from_All (λ edge. (edge.from == node) ≡ true) all (filter_passes (λ edge. edge.from == node) (edges_of nodes)) in
    sym (ap (option_map (λ (edge : Edge). edge.into)) (none_chained nodes widened all (other_number nodes node all unlike from)))

-- one edge
abbrev chained_of : Edge → Bool → Option ℕ
chained_of edge may = option_map (λ (edge : Edge). edge.into) (cond may (Some edge) None)

one_item : (edges : List Edge) (edge : Edge) → length edges ≡ 1 → edges ≡ get_or edges 0 edge ∷ []
one_item [] edge e = absurd (omega (arith, e))
one_item (first ∷ []) edge e = refl
one_item (first ∷ second ∷ edges) edge e = absurd (omega (arith, e))

pub one_chained : (nodes : List Node) (widened : List Widening) (node : ℕ) (edges : List Edge) (none edge : Edge) → edges ≡ consumer_edges nodes node → length edges ≡ 1 → edge ≡ get_or edges 0 none
    → (may : Bool) → (may_chain nodes edge || is_probe nodes widened edge) ≡ may → chained_after nodes widened node ≡ chained_of edge may
one_chained nodes widened node edges none edge e one is may says =
    let all : consumer_edges nodes node ≡ edge ∷ [] = sym e ∙ one_item edges none one ∙ ap (λ (first : Edge). first ∷ []) (sym is) in
    let lt : 0 < length edges = omega (arith, one) in
    let Q : List Edge → Type 0 = All (λ edge. (edge.from == node) ≡ true) in
    let passes : Q (edge ∷ []) = subst Q all (filter_passes (λ edge. edge.from == node) (edges_of nodes)) in
    let from : edge.from ≡ node = same_number edge.from node (passes 0 edge (omega arith)) in
    let count : length (consumer_edges nodes edge.from) ≡ 1 = ap (λ (n : ℕ). length (consumer_edges nodes n)) from ∙ ap length all in
    ap (λ (l : List Edge). option_map (λ (edge : Edge). edge.into) (find (is_chained nodes widened) l)) all
    ∙ ap (λ (n : ℕ). chained_of edge ((n == 1) && (may_chain nodes edge || is_probe nodes widened edge))) count
    ∙ ap (chained_of edge) says

-- the edges of a node, as they are kept
pub edges_are : (nodes : List Node) (lists : List (List Edge)) (node : ℕ) (edges other : List Edge) → ListConsumers nodes lists → node < length nodes → edges ≡ get_or lists node other → edges ≡ consumer_edges nodes node
edges_are nodes lists node edges other h lt same = same ∙ get_or_default lists node other [] (omega (arith, h.len, lt)) ∙ h.each node lt

-- ---- heads

pub head_at : (nodes : List Node) (widened : List Widening) (at : ℕ) (node : Node) → slice_get nodes at ≡ Some node → is_head nodes widened at ≡ list_all (λ edge. not (is_chained nodes widened edge)) (edges_into at 0 node.inputs)
head_at nodes widened at node is = ap (λ (o : Option Node). list_all (λ edge. not (is_chained nodes widened edge)) (option_map_or (λ n. edges_into at 0 n.inputs) o [])) is

-- one edge more, none of which is chained so far
pub unchained_next : (p : Edge → Bool) (node k : ℕ) (inputs : List ℕ) → k < length inputs → list_all p (edges_into node 0 (take k inputs)) ≡ true → p (record { from = get_or inputs k 0; into = node; place = k }) ≡ true
    → list_all p (edges_into node 0 (take (k + 1) inputs)) ≡ true
unchained_next p node k inputs lt before here =
    let edge : Edge = record { from = get_or inputs k 0; into = node; place = k } in
    ap (list_all p) (edges_into-next node inputs k (get_or inputs k 0) lt (get_or_default inputs k 0 (get_or inputs k 0) lt))
    ∙ both (edges_into node 0 (take k inputs)) edge before here
  where
    both : (edges : List Edge) (edge : Edge) → list_all p edges ≡ true → p edge ≡ true → list_all p (edges ++ edge ∷ []) ≡ true
    both [] edge all here = ap (λ (b : Bool). b && true) here
    both (first ∷ edges) edge all here = (λ i. both_left (p first) (list_all p edges) all i && both edges edge (both_right (p first) (list_all p edges) all) here i)

-- an edge that is chained
pub chained_at : (p : Edge → Bool) (node place k at : ℕ) (inputs : List ℕ) → k < length inputs → at ≡ place + k → p (record { from = get_or inputs k 0; into = node; place = at }) ≡ false → list_all p (edges_into node place inputs) ≡ false
chained_at p node place k at [] lt is fails = absurd (omega (arith, lt))
chained_at p node place zero at (input ∷ inputs) lt is fails =
    let here : place ≡ at = omega (arith, is) in
    let rest = list_all p (edges_into node (place + 1) inputs) in
    ap (λ (n : ℕ). p (record { from = input; into = node; place = n }) && rest) here ∙ ap (λ (b : Bool). b && rest) fails
chained_at p node place (suc k) at (input ∷ inputs) lt is fails =
    ap (λ (b : Bool). p (record { from = input; into = node; place = place }) && b) (chained_at p node (place + 1) k at inputs (omega (arith, lt)) (omega (arith, is)) fails)
    ∙ never (p (record { from = input; into = node; place = place }))
  where
    never : (b : Bool) → (b && false) ≡ false
    never true = refl
    never false = refl
