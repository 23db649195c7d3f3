-- No node stands in two chains, or twice in one.
use Rattle.std.proofs.Common.{◌≡◌, ℕ, zero, suc, ◌+◌, ◌<◌, ◌≤◌, ◌==◌, nat_eq, Bool, true, false, not, ◌||◌, cond, ◌⊎◌, inl, inr, List, [], ◌∷◌, ◌++◌, length, filter, find, get_or, Option, Some, None, slice_get, refl, sym, ◌∙◌, ap, subst, arith, if◌then◌else◌}
use Rattle.std.specs.List.{list_all, AllByRecursion, IsDistinct}
use Rattle.std.specs.Option.{option_map, option_map_or}
use Rattle.std.proofs.lemmas.Bool.{false≢true}
use Rattle.std.proofs.lemmas.Map.Keys.{IsDistinct-cons}
use Rattle.std.proofs.lemmas.Option.{none-some, slice_get-get_or}
use Rattle.plan_model.specs.Checks.{plan_faults, takes}
use Rattle.plan_model.specs.Operators.{may_rebalance, takes_one}
use Rattle.vertex_builder.specs.declared.widening.Widening.{Widening}
use Rattle.plan_model.specs.declared.node.Node.{Node}
use Rattle.plan_model.specs.declared.op.Op.{Op}
use Rattle.plan_model.specs.declared.op.Op.TheVariants.{Source, Filter, Project, Explode, Union, Aggregate, Distinct, Join, Sink}
use Rattle.plan_model.specs.declared.side.Side.{Side}
use Rattle.vertex_builder.specs.declared.edge.Edge.{Edge}
use Rattle.vertex_builder.specs.Edges.{edges_into, edges_from, edges_of, consumer_edges, input_edges, build_side, edge_ship, is_forward, is_join, is_join_at, is_probe, may_chain, probe_place, is_chained, chained_after, is_head, widening_of}
use Rattle.vertex_builder.specs.Chains.{is_among}
use Rattle.vertex_builder.proofs.Chaining.{no_node}
use Rattle.vertex_builder.specs.Chains.{is_among, chain_from, chain_of, TakesAfter, TakesProbe, TakesRows}
use Rattle.vertex_builder.proofs.Following.{chained_is_later, same_item}
use Rattle.vertex_builder.proofs.Covered.{goes_into, starts}
use Rattle.vertex_builder.proofs.Membership.{same_number, other_number, either_right, both_left, both_right, all_map, none_twice, IsIn, in_one}
use Rattle.plan_model.proofs.Laws.{good_node, one_input}

-- ---- what stands in lists

module _ {X : Type 0} where
  in_one_of : (x : X) (xs ys : List X) → IsIn x (xs ++ ys) → IsIn x xs ⊎ IsIn x ys
  in_one_of x [] ys h = inr h
  in_one_of x (y ∷ xs) ys (inl e) = inl (inl e)
  in_one_of x (y ∷ xs) ys (inr h) = on (in_one_of x xs ys h)
    where
      on : IsIn x xs ⊎ IsIn x ys → IsIn x (y ∷ xs) ⊎ IsIn x ys
      on (inl left) = inl (inr left)
      on (inr right) = inr right

  pub record PassedIn (x : X) (p : X → Bool) (xs : List X) : Type 0 where
    pub inside : IsIn x xs
    pub passes : p x ≡ true

  pub in_filtered : (x : X) (p : X → Bool) (xs : List X) → IsIn x (filter p xs) → PassedIn x p xs
  in_filtered x p [] h = absurd h
  in_filtered x p (y ∷ xs) h = at (p y) refl (in_filtered x p xs) h
    where
      at : (b : Bool) → p y ≡ b → (IsIn x (filter p xs) → PassedIn x p xs) → IsIn x (cond b (y ∷ filter p xs) (filter p xs)) → PassedIn x p (y ∷ xs)
      at true is rest (inl e) = record { inside = inl e; passes = ap p e ∙ is }
      at true is rest (inr i) = let r = rest i in record { inside = inr r.inside; passes = r.passes }
      at false is rest i = let r = rest i in record { inside = inr r.inside; passes = r.passes }

  pub each_passes : (p : X → Bool) (x : X) (xs : List X) → list_all p xs ≡ true → IsIn x xs → p x ≡ true
  each_passes p x [] e h = absurd h
  each_passes p x (y ∷ xs) e (inl same) = ap p same ∙ both_left (p y) (list_all p xs) e
  each_passes p x (y ∷ xs) e (inr h) = each_passes p x xs (both_right (p y) (list_all p xs) e) h

-- ---- the edge that chains

-- an operator that works on one row at a time takes one input
takes_one_row : (op : Op) → may_rebalance op ≡ true → takes_one op ≡ true
takes_one_row (Filter test) e = refl
takes_one_row (Project exprs) e = refl
takes_one_row (Explode column separator) e = refl
takes_one_row (Sink name) e = refl
takes_one_row (Source table columns) e = e
takes_one_row Union e = e
takes_one_row (Aggregate keys aggs) e = refl
takes_one_row Distinct e = refl
takes_one_row (Join kind keys) e = e

-- an edge of the plan is one into its consumer
record ComesTo (place : ℕ) (nodes : List Node) (edge : Edge) : Type 0 where
  pub at : ℕ
  pub within : at < length nodes
  pub inside : IsIn edge (edges_into (place + at) 0 (get_or nodes at no_node).inputs)

comes_to : (place : ℕ) (nodes : List Node) (edge : Edge) → IsIn edge (edges_from place nodes) → ComesTo place nodes edge
comes_to place [] edge h = absurd h
comes_to place (node ∷ nodes) edge h = on (in_one_of edge (edges_into place 0 node.inputs) (edges_from (place + 1) nodes) h) (comes_to (place + 1) nodes edge)
  where
    on : IsIn edge (edges_into place 0 node.inputs) ⊎ IsIn edge (edges_from (place + 1) nodes) → (IsIn edge (edges_from (place + 1) nodes) → ComesTo (place + 1) nodes edge) → ComesTo place (node ∷ nodes) edge
    on (inl first) rest =
        let here : place ≡ place + 0 = omega arith in
        record { at = 0; within = omega arith; inside = subst (λ (n : ℕ). IsIn edge (edges_into n 0 node.inputs)) here first }
    on (inr later) rest =
        let r = rest later in
        let here : place + 1 + r.at ≡ place + suc r.at = omega arith in
        record { at = suc r.at; within = omega (arith, r.within); inside = subst (λ (n : ℕ). IsIn edge (edges_into n 0 (get_or nodes r.at no_node).inputs)) here r.inside }

record FoundIn (p : Edge → Bool) (edges : List Edge) (into : ℕ) : Type 0 where
  pub edge : Edge
  pub inside : IsIn edge edges
  pub passes : p edge ≡ true
  pub is : edge.into ≡ into

found_in : (p : Edge → Bool) (edges : List Edge) (into : ℕ) → option_map (λ (e : Edge). e.into) (find p edges) ≡ Some into → FoundIn p edges into
found_in p [] into e = absurd (none-some into e)
found_in p (edge ∷ edges) into e = at (p edge) refl (found_in p edges into) e
  where
    at : (b : Bool) → p edge ≡ b → (option_map (λ (e : Edge). e.into) (find p edges) ≡ Some into → FoundIn p edges into) → option_map (λ (e : Edge). e.into) (cond b (Some edge) (find p edges)) ≡ Some into → FoundIn p (edge ∷ edges) into
    at true is rest to = record { edge = edge; inside = inl refl; passes = is; is = same_item edge.into into to }
    at false is rest to = let r = rest to in record { edge = r.edge; inside = inr r.inside; passes = r.passes; is = r.is }

-- an edge of the plan goes into its consumer, from the input at its place
pub record InputOf (nodes : List Node) (edge : Edge) : Type 0 where
  pub within : edge.into < length nodes
  pub among : IsIn edge (input_edges nodes edge.into)
  pub from : IsIn edge.from (get_or nodes edge.into no_node).inputs
  pub long : edge.place < length (get_or nodes edge.into no_node).inputs
  pub item : get_or (get_or nodes edge.into no_node).inputs edge.place 0 ≡ edge.from

pub input_of : (nodes : List Node) (edge : Edge) → IsIn edge (edges_of nodes) → InputOf nodes edge
input_of nodes edge inside =
    let to = comes_to 0 nodes edge inside in
    let goes = goes_into (0 + to.at) 0 (get_or nodes to.at no_node).inputs edge to.inside in
    let here : to.at ≡ edge.into = omega (arith, goes.into) in
    let place : 0 + to.at ≡ edge.into = omega (arith, here) in
    let at : goes.at ≡ edge.place = omega (arith, goes.placed) in
    let within : edge.into < length nodes = omega (arith, here, to.within) in
    record {
      within = within;
      among = subst (λ (o : Option Node). IsIn edge (option_map_or (λ n. edges_into edge.into 0 n.inputs) o [])) (sym (slice_get-get_or nodes edge.into no_node within))
          (subst (λ (n : ℕ). IsIn edge (edges_into edge.into 0 (get_or nodes n no_node).inputs)) here
          (subst (λ (n : ℕ). IsIn edge (edges_into n 0 (get_or nodes to.at no_node).inputs)) place to.inside));
      from = subst (λ (n : ℕ). IsIn edge.from (get_or nodes n no_node).inputs) here goes.from;
      long = subst (λ (n : ℕ). edge.place < length (get_or nodes n no_node).inputs) here (omega (arith, at, goes.within));
      item = ap (λ (n : ℕ). get_or (get_or nodes n no_node).inputs edge.place 0) (sym here) ∙ ap (λ (k : ℕ). get_or (get_or nodes to.at no_node).inputs k 0) (sym at) ∙ goes.item;
    }

-- a node that is chained behind another is so along an edge from it, and is no head
record ChainedTo (nodes : List Node) (widened : List Widening) (before node : ℕ) : Type 0 where
  pub edge : Edge
  pub from : edge.from ≡ before
  pub into : edge.into ≡ node
  pub input : InputOf nodes edge
  pub may : (may_chain nodes edge || is_probe nodes widened edge) ≡ true
  pub no_head : is_head nodes widened node ≡ true → ⊥

chained_to : (nodes : List Node) (widened : List Widening) (before node : ℕ) → chained_after nodes widened before ≡ Some node → ChainedTo nodes widened before node
chained_to nodes widened before node next =
    let found = found_in (is_chained nodes widened) (consumer_edges nodes before) node next in
    let edge = found.edge in
    let passed = in_filtered edge (λ (e : Edge). e.from == before) (edges_of nodes) found.inside in
    let input = input_of nodes edge passed.inside in
    record {
      edge = edge;
      from = same_number edge.from before passed.passes;
      into = found.is;
      input = input;
      may = both_right (length (consumer_edges nodes edge.from) == 1) (may_chain nodes edge || is_probe nodes widened edge) found.passes;
      no_head = λ head. false≢true (ap not (sym found.passes)
          ∙ each_passes (λ (e : Edge). not (is_chained nodes widened e)) edge (input_edges nodes edge.into) (ap (is_head nodes widened) found.is ∙ head) input.among);
    }

-- ---- what a chained node takes

join_of : (op : Op) → is_join op ≡ true → (n : ℕ) → takes op n ≡ true → n ≡ 2
join_of (Source table columns) e n takes = absurd (false≢true e)
join_of (Filter test) e n takes = absurd (false≢true e)
join_of (Project exprs) e n takes = absurd (false≢true e)
join_of (Explode column separator) e n takes = absurd (false≢true e)
join_of Union e n takes = absurd (false≢true e)
join_of (Aggregate keys aggs) e n takes = absurd (false≢true e)
join_of Distinct e n takes = absurd (false≢true e)
join_of (Join kind keys) e n takes = same_number n 2 takes
join_of (Sink name) e n takes = absurd (false≢true e)

pub no_row_join : (op : Op) → is_join op ≡ true → may_rebalance op ≡ true → ⊥
no_row_join (Source table columns) e may = false≢true e
no_row_join (Filter test) e may = false≢true e
no_row_join (Project exprs) e may = false≢true e
no_row_join (Explode column separator) e may = false≢true e
no_row_join Union e may = false≢true e
no_row_join (Aggregate keys aggs) e may = false≢true e
no_row_join Distinct e may = false≢true e
no_row_join (Join kind keys) e may = false≢true may
no_row_join (Sink name) e may = false≢true e

-- a widened join, and its build side
pub record IsWidened (nodes : List Node) (widened : List Widening) (node : ℕ) (side : Side) : Type 0 where
  pub join : is_join_at nodes node ≡ true
  pub sided : widening_of widened node ≡ Some side

pub is_widened : (nodes : List Node) (widened : List Widening) (node : ℕ) (side : Side) → build_side nodes widened node ≡ Some side → IsWidened nodes widened node side
is_widened nodes widened node side is = at (is_join_at nodes node) refl is
  where
    at : (b : Bool) → is_join_at nodes node ≡ b → cond b (widening_of widened node) None ≡ Some side → IsWidened nodes widened node side
    at true join is = record { join = join; sided = is }
    at false join is = absurd (none-some side is)

-- a node that works on one row at a time is not widened
pub rows_unwidened : (nodes : List Node) (widened : List Widening) (node : ℕ) (it : Node) → slice_get nodes node ≡ Some it → may_rebalance it.op ≡ true → build_side nodes widened node ≡ None
rows_unwidened nodes widened node it at row =
    ap (λ (b : Bool). if b then widening_of widened node else None) (ap (λ (o : Option Node). option_map_or (λ n. is_join n.op) o false) at ∙ unset (is_join it.op) (λ join. no_row_join it.op join row))
  where
    unset : (b : Bool) → (b ≡ true → ⊥) → b ≡ false
    unset true never = absurd (never refl)
    unset false never = refl

-- the inputs of a join
pub two_inputs : (nodes : List Node) (node : ℕ) (it : Node) → plan_faults nodes ≡ [] → slice_get nodes node ≡ Some it → is_join it.op ≡ true → length it.inputs ≡ 2
two_inputs nodes node it good at join = join_of it.op join (length it.inputs) (good_node nodes node it good at).number

record ProbesAt (nodes : List Node) (widened : List Widening) (edge : Edge) : Type 0 where
  pub side : Side
  pub is : build_side nodes widened edge.into ≡ Some side
  pub place : edge.place ≡ probe_place side

probes_at : (nodes : List Node) (widened : List Widening) (edge : Edge) → is_probe nodes widened edge ≡ true → ProbesAt nodes widened edge
probes_at nodes widened edge e = at (build_side nodes widened edge.into) refl e
  where
    at : (o : Option Side) → build_side nodes widened edge.into ≡ o → option_map_or (λ side. edge.place == probe_place side) o false ≡ true → ProbesAt nodes widened edge
    at None is e = absurd (false≢true e)
    at (Some side) is e = record { side = side; is = is; place = same_number edge.place (probe_place side) e }

module _ (nodes : List Node) (widened : List Widening) (good : plan_faults nodes ≡ []) where
  pub takes_after : (before node : ℕ) → chained_after nodes widened before ≡ Some node → TakesAfter nodes widened before node
  takes_after before node to = on (may_chain nodes edge) refl by.may
    where
      by : ChainedTo nodes widened before node
      by = chained_to nodes widened before node to

      edge : Edge
      edge = by.edge

      it : Node
      it = get_or nodes edge.into no_node

      here : slice_get nodes edge.into ≡ Some it
      here = slice_get-get_or nodes edge.into no_node by.input.within

      at : slice_get nodes node ≡ Some it
      at = ap (slice_get nodes) (sym by.into) ∙ here

      on : (b : Bool) → may_chain nodes edge ≡ b → (b || is_probe nodes widened edge) ≡ true → TakesAfter nodes widened before node
      on true may e =
          let row = sym (ap (λ (o : Option Node). option_map_or (λ n. may_rebalance n.op) o false) here) ∙ both_left (option_map_or (λ n. may_rebalance n.op) (slice_get nodes edge.into) false) (is_forward (edge_ship nodes edge)) may in
          let from = subst (λ (n : ℕ). IsIn n it.inputs) by.from by.input.from in
          record {
            it = it;
            at = at;
            takes = inl (record { row = row; input = in_one before it.inputs (one_input nodes node it good at (takes_one_row it.op row)) from });
          }
      on false may e =
          let probe = probes_at nodes widened edge e in
          let join = sym (ap (λ (o : Option Node). option_map_or (λ n. is_join n.op) o false) here) ∙ (is_widened nodes widened edge.into probe.side probe.is).join in
          record {
            it = it;
            at = at;
            takes = inr (record {
              build = probe.side;
              is = ap (build_side nodes widened) (sym by.into) ∙ probe.is;
              join = join;
              two = two_inputs nodes node it good at join;
              input = ap (λ (k : ℕ). get_or it.inputs k 0) (sym probe.place) ∙ by.input.item ∙ by.from;
            });
          }

  one_before : (a b node : ℕ) → chained_after nodes widened a ≡ Some node → chained_after nodes widened b ≡ Some node → a ≡ b
  one_before a b node to_a to_b = on by_a.takes by_b.takes
    where
      by_a : TakesAfter nodes widened a node
      by_a = takes_after a node to_a

      by_b : TakesAfter nodes widened b node
      by_b = takes_after b node to_b

      same : Some by_a.it ≡ Some by_b.it
      same = sym by_a.at ∙ by_b.at

      inputs : by_a.it.inputs ≡ by_b.it.inputs
      inputs = ap (λ (o : Option Node). option_map_or (λ n. n.inputs) o []) same

      op : by_a.it.op ≡ by_b.it.op
      op = ap (λ (o : Option Node). option_map_or (λ n. n.op) o Union) same

      on : TakesRows by_a.it a ⊎ TakesProbe by_a.it (build_side nodes widened node) a → TakesRows by_b.it b ⊎ TakesProbe by_b.it (build_side nodes widened node) b → a ≡ b
      on (inl row_a) (inl row_b) = ap (λ (l : List ℕ). get_or l 0 0) (sym row_a.input ∙ inputs ∙ row_b.input)
      on (inl row_a) (inr probe_b) = absurd (no_row_join by_b.it.op probe_b.join (ap may_rebalance (sym op) ∙ row_a.row))
      on (inr probe_a) (inl row_b) = absurd (no_row_join by_a.it.op probe_a.join (ap may_rebalance op ∙ row_b.row))
      on (inr probe_a) (inr probe_b) =
          let places : probe_place probe_a.build ≡ probe_place probe_b.build = ap (λ (o : Option Side). option_map_or probe_place o 0) (sym probe_a.is ∙ probe_b.is) in
          sym probe_a.input ∙ (λ i. get_or (inputs i) (places i) 0) ∙ probe_b.input

  -- ---- one head

  -- the node before this one in a chain
  record IsBehind (more head node : ℕ) : Type 0 where
    pub before : ℕ
    pub inside : is_among (chain_from more nodes widened head) before ≡ true
    pub next : chained_after nodes widened before ≡ Some node

  first_or_behind : (more head node : ℕ) → is_among (chain_from more nodes widened head) node ≡ true → (node ≡ head) ⊎ IsBehind more head node
  first_or_behind zero head node e = at (nat_eq node head) refl e
    where
      at : (b : Bool) → nat_eq node head ≡ b → (b || false) ≡ true → (node ≡ head) ⊎ IsBehind zero head node
      at true is e = inl (same_number node head is)
      at false is e = absurd (false≢true e)
  first_or_behind (suc more) head node e = at (nat_eq node head) refl (chained_after nodes widened head) refl e (λ z. first_or_behind more z node)
    where
      rest : Option ℕ → List ℕ
      rest o = option_map_or (chain_from more nodes widened) o []

      on : (z : ℕ) → chained_after nodes widened head ≡ Some z → (node ≡ z) ⊎ IsBehind more z node → IsBehind (suc more) head node
      on z to (inl here) = record { before = head; inside = starts (suc more) nodes widened head; next = to ∙ ap (λ (n : ℕ). Some n) (sym here) }
      on z to (inr by) = record {
        before = by.before;
        inside = either_right (nat_eq by.before head) (is_among (rest (chained_after nodes widened head)) by.before) (ap (λ (o : Option ℕ). is_among (rest o) by.before) to ∙ by.inside);
        next = by.next;
      }

      at : (b : Bool) → nat_eq node head ≡ b → (o : Option ℕ) → chained_after nodes widened head ≡ o → (b || is_among (rest o) node) ≡ true
          → ((z : ℕ) → is_among (chain_from more nodes widened z) node ≡ true → (node ≡ z) ⊎ IsBehind more z node) → (node ≡ head) ⊎ IsBehind (suc more) head node
      at true is o to e later = inl (same_number node head is)
      at false is None to e later = absurd (false≢true e)
      at false is (Some z) to e later = inr (on z to (later z e))

  one_head_below : (n node a b : ℕ) → node < n → is_head nodes widened a ≡ true → is_head nodes widened b ≡ true → is_among (chain_of nodes widened a) node ≡ true → is_among (chain_of nodes widened b) node ≡ true → a ≡ b
  one_head_below zero node a b lt head_a head_b in_a in_b = absurd (omega (arith, lt))
  one_head_below (suc n) node a b lt head_a head_b in_a in_b =
      at (first_or_behind (length nodes) a node in_a) (first_or_behind (length nodes) b node in_b) (λ m. one_head_below n m a b)
    where
      at : (node ≡ a) ⊎ IsBehind (length nodes) a node → (node ≡ b) ⊎ IsBehind (length nodes) b node
          → ((m : ℕ) → m < n → is_head nodes widened a ≡ true → is_head nodes widened b ≡ true → is_among (chain_of nodes widened a) m ≡ true → is_among (chain_of nodes widened b) m ≡ true → a ≡ b) → a ≡ b
      at (inl is_a) (inl is_b) rest = sym is_a ∙ is_b
      at (inl is_a) (inr by) rest = absurd ((chained_to nodes widened by.before node by.next).no_head (ap (is_head nodes widened) is_a ∙ head_a))
      at (inr by) (inl is_b) rest = absurd ((chained_to nodes widened by.before node by.next).no_head (ap (is_head nodes widened) is_b ∙ head_b))
      at (inr by_a) (inr by_b) rest =
          let same = one_before by_b.before by_a.before node by_b.next by_a.next in
          let later = chained_is_later nodes widened by_a.before node good by_a.next in
          rest by_a.before (omega (arith, later.above, lt)) head_a head_b by_a.inside (ap (is_among (chain_of nodes widened b)) (sym same) ∙ by_b.inside)

  pub one_head : (node a b : ℕ) → is_head nodes widened a ≡ true → is_head nodes widened b ≡ true → is_among (chain_of nodes widened a) node ≡ true → is_among (chain_of nodes widened b) node ≡ true → a ≡ b
  one_head node a b = one_head_below (suc node) node a b (omega arith)

  -- ---- one place in the chain

  chain_above : (more node : ℕ) → AllByRecursion (λ q. node ≤ q) (chain_from more nodes widened node)
  chain_above zero node = (omega arith, tt)
  chain_above (suc more) node = (omega arith, at (chained_after nodes widened node) refl (chain_above more))
    where
      at : (o : Option ℕ) → chained_after nodes widened node ≡ o → ((z : ℕ) → AllByRecursion (λ q. z ≤ q) (chain_from more nodes widened z)) → AllByRecursion (λ q. node ≤ q) (option_map_or (chain_from more nodes widened) o [])
      at None to rest = tt
      at (Some z) to rest =
          let later = chained_is_later nodes widened node z good to in
          all_map (λ q. z ≤ q) (λ q. node ≤ q) (chain_from more nodes widened z) (rest z) (λ q le. omega (arith, le, later.above))

  pub chain_distinct : (more node : ℕ) → IsDistinct nat_eq (chain_from more nodes widened node)
  chain_distinct zero node = IsDistinct-cons nat_eq node [] tt none_twice
  chain_distinct (suc more) node = at (chained_after nodes widened node) refl (chain_distinct more)
    where
      at : (o : Option ℕ) → chained_after nodes widened node ≡ o → ((z : ℕ) → IsDistinct nat_eq (chain_from more nodes widened z)) → IsDistinct nat_eq (node ∷ option_map_or (chain_from more nodes widened) o [])
      at None to rest = IsDistinct-cons nat_eq node [] tt none_twice
      at (Some z) to rest =
          let later = chained_is_later nodes widened node z good to in
          IsDistinct-cons nat_eq node (chain_from more nodes widened z)
          (all_map (λ q. z ≤ q) (λ q. nat_eq node q ≡ false) (chain_from more nodes widened z) (chain_above more z) (λ q le. other_number node q (omega (arith, le, later.above))))
          (rest z)
