-- What a vertex gives on the plan's rows is the bag of its last node.
use Rattle.std.proofs.Common.{◌≡◌, ℕ, zero, suc, ◌+◌, ◌-◌, ◌<◌, Bool, true, false, ◌||◌, ◌⊎◌, inl, inr, List, [], ◌∷◌, length, map, drop, get_or, Option, None, Some, slice_get, refl, sym, ◌∙◌, ap, subst, arith, if◌then◌else◌}
use Rattle.std.specs.List.{cons_option, filter_map, flat_map, AllZip}
use Rattle.std.specs.Option.{option_map, option_map_or}
use Rattle.std.proofs.lemmas.Bool.{false≢true}
use Rattle.std.proofs.lemmas.List.{append-nil}
use Rattle.std.proofs.lemmas.Option.{none-some}
use Rattle.row_core.specs.Bags.{SameBag}
use Rattle.bag_laws.specs.Rows.{OneRow as Row}
use Rattle.bag_laws.proofs.Laws.{same_refl}
use Rattle.plan_model.specs.Checks.{plan_faults}
use Rattle.plan_model.specs.Nodes.{Alike}
use Rattle.plan_model.specs.Operators.{is_source, may_rebalance}
use Rattle.plan_model.specs.Plans.{Bag, bag_at, bag_of, bags_of, empty_bag}
use Rattle.plan_model.specs.Widths.{widths_of, input_widths}
use Rattle.plan_model.specs.declared.node.Node.{Node}
use Rattle.plan_model.specs.declared.op.Op.{Op}
use Rattle.plan_model.specs.declared.op.Op.TheVariants.{Source, Filter, Project, Explode, Union, Aggregate, Distinct, Join, Sink}
use Rattle.plan_model.proofs.Laws.{bag_here, bags_widths, width_at}
use Rattle.operator_laws.proofs.Laws.{bags_same}
use Rattle.vertex_builder.specs.Chains.{IsChain, TakesAfter, TakesProbe, TakesRows}
use Rattle.vertex_builder.specs.Edges.{build_place, build_side, chained_after, edges_into, is_join, probe_place}
use Rattle.vertex_builder.specs.Vertices.{build_edge, files_input, inputs_at, last_in, vertex_input, head_inputs}
use Rattle.plan_model.specs.declared.side.Side.{Side}
use Rattle.plan_model.specs.declared.side.Side.TheVariants.{Left, Right}
use Rattle.rect_cover.specs.Vertices.{rest_of}
use Rattle.vertex_builder.specs.declared.edge.Edge.{Edge}
use Rattle.vertex_builder.specs.declared.vertex_input.VertexInput.{VertexInput}
use Rattle.vertex_builder.specs.declared.widening.Widening.{Widening}
use Rattle.vertex_builder.proofs.Laws.{inputs_of_edges, rows_unwidened, takes_after}
use Rattle.vertex_laws.specs.Inputs.{HoldsBag}
use Rattle.vertex_laws.specs.VertexRows.{op_at, build_bag, builds_left, head_bag, chain_bag, input_bags, no_files, taken_bags, widths_at}

-- ---- bags that are alike

alike_itself : (bag : Bag) → Alike bag bag
alike_itself bag = record { width = refl; rows = same_refl bag.rows }

alike_at : (bags others : List Bag) → AllZip Alike bags others → (place : ℕ) → Alike (bag_at bags place) (bag_at others place)
alike_at [] [] all place = alike_itself empty_bag
alike_at [] (other ∷ others) all place = absurd all
alike_at (bag ∷ bags) [] all place = absurd all
alike_at (bag ∷ bags) (other ∷ others) all zero = all.0
alike_at (bag ∷ bags) (other ∷ others) all (suc place) = alike_at bags others all.1 place

pub op_is : (nodes : List Node) (place : ℕ) (node : Node) → slice_get nodes place ≡ Some node → op_at nodes place ≡ node.op
op_is nodes place node at = ap (λ (o : Option Node). option_map_or (λ n. n.op) o Union) at

same_item : (x y : ℕ) → Some x ≡ Some y → x ≡ y
same_item x y e = ap (λ (o : Option ℕ). option_map_or (λ (k : ℕ). k) o 0) e

-- a chain begins with its head
pub begins : (chain : List ℕ) (head : ℕ) → slice_get chain 0 ≡ Some head → chain ≡ head ∷ drop 1 chain
begins [] head e = absurd (none-some head e)
begins (x ∷ chain) head e = ap (λ (y : ℕ). y ∷ chain) (same_item x head e)

last_on : (x y : ℕ) (rest : List ℕ) → last_in (x ∷ y ∷ rest) ≡ last_in (y ∷ rest)
last_on x y rest =
    let n = length rest in
    let two : suc (suc n) - 1 ≡ suc n = omega arith in
    let one : n ≡ suc n - 1 = omega arith in
    ap (λ (k : ℕ). get_or (x ∷ y ∷ rest) k 0) two ∙ ap (λ (k : ℕ). get_or (y ∷ rest) k 0) one

pub rest_of_chain : (nodes : List Node) (widened : List Widening) (head x y : ℕ) (rest : List ℕ) → IsChain nodes widened head (x ∷ y ∷ rest) → IsChain nodes widened y (y ∷ rest)
rest_of_chain nodes widened head x y rest of = record {
  first = refl;
  next = λ k lt.
      let to : suc (k + 1) ≡ k + 1 + 1 = omega arith in
      let at : k + 1 ≡ suc k = omega arith in
      ap (slice_get (x ∷ y ∷ rest)) to
      ∙ of.next (k + 1) (omega (arith, lt))
      ∙ ap (λ (n : ℕ). chained_after nodes widened (get_or (x ∷ y ∷ rest) n 0)) at;
}

module _ (files : List ℕ → List (List ℕ)) (nodes : List Node) (good : plan_faults nodes ≡ []) where
  abbrev bags : List Bag
  bags = bags_of files nodes

  -- the width of an input of a node
  width_from : (inputs : List ℕ) (place : ℕ) → place < length inputs → get_or (input_widths (widths_of nodes) inputs) place 0 ≡ get_or (widths_of nodes) (get_or inputs place 0) 0
  width_from [] place lt = absurd (omega (arith, lt))
  width_from (i ∷ inputs) zero lt = refl
  width_from (i ∷ inputs) (suc place) lt = width_from inputs place (omega (arith, lt))

  width_is : (place : ℕ) → get_or (widths_of nodes) place 0 ≡ (bag_at bags place).width
  width_is place = sym (width_at bags place ∙ ap (λ (widths : List ℕ). get_or widths place 0) (bags_widths files nodes))

  -- ---- the head

  -- the inputs of a head, each with the rows of the node that it comes from
  inputs_alike : (head place : ℕ) (ins : List ℕ) (rows : List (List Row)) → AllZip (HoldsBag files nodes) (map (vertex_input nodes) (edges_into head place ins)) rows
      → AllZip Alike (input_bags (input_widths (widths_of nodes) ins) rows) (map (bag_at bags) ins)
  inputs_alike head place [] [] all = tt
  inputs_alike head place [] (input ∷ rows) all = absurd all
  inputs_alike head place (i ∷ ins) [] all = absurd all
  inputs_alike head place (i ∷ ins) (input ∷ rows) all = (record { width = width_is i; rows = all.0.same }, inputs_alike head (place + 1) ins rows all.1)

  from_files : (op : Op) (inputs : List Bag) → is_source op ≡ false → head_bag op inputs ≡ bag_of files op inputs
  from_files (Source table columns) inputs e = absurd (false≢true (sym e))
  from_files (Filter test) inputs e = refl
  from_files (Project exprs) inputs e = refl
  from_files (Explode column separator) inputs e = refl
  from_files Union inputs e = refl
  from_files (Aggregate keys aggs) inputs e = refl
  from_files Distinct inputs e = refl
  from_files (Join kind keys) inputs e = refl
  from_files (Sink name) inputs e = refl

  module _ (head : ℕ) (node : Node) (at : slice_get nodes head ≡ Some node) (rows : List (List Row)) (hold : AllZip (HoldsBag files nodes) (head_inputs nodes head) rows) where
    inputs_are : inputs_at nodes head ≡ node.inputs
    inputs_are = ap (λ (o : Option Node). option_map_or (λ n. n.inputs) o []) at

    here : bag_at bags head ≡ bag_of files node.op (map (bag_at bags) node.inputs)
    here = bag_here files nodes head node good at

    edges_alike : is_source node.op ≡ false → Alike (head_bag node.op (input_bags (widths_at nodes head) rows)) (bag_at bags head)
    edges_alike other =
        let come = subst (λ (ins : List VertexInput). AllZip (HoldsBag files nodes) ins rows) (inputs_of_edges nodes head node at other) hold in
        let read = input_bags (widths_at nodes head) rows in
        let same : read ≡ input_bags (input_widths (widths_of nodes) node.inputs) rows = ap (λ (ins : List ℕ). input_bags (input_widths (widths_of nodes) ins) rows) inputs_are in
        let all = alike_at (input_bags (input_widths (widths_of nodes) node.inputs) rows) (map (bag_at bags) node.inputs) (inputs_alike head 0 node.inputs rows come) in
        let both = bags_same files node.op (input_bags (input_widths (widths_of nodes) node.inputs) rows) (map (bag_at bags) node.inputs) all in
        subst (λ (bag : Bag). Alike bag (bag_at bags head)) (sym (ap (head_bag node.op) same ∙ from_files node.op (input_bags (input_widths (widths_of nodes) node.inputs) rows) other))
        (subst (Alike (bag_of files node.op (input_bags (input_widths (widths_of nodes) node.inputs) rows))) (sym here) both)

    source_inputs : (table : List ℕ) → is_source node.op ≡ true → head_inputs nodes head ≡ files_input head ∷ []
    source_inputs table is =
        ap (λ (o : Option Node). if option_map_or (λ n. is_source n.op) o false then files_input head ∷ [] else map (vertex_input nodes) (option_map_or (λ n. edges_into head 0 n.inputs) o [])) at
        ∙ ap (λ b. if b then files_input head ∷ [] else map (vertex_input nodes) (edges_into head 0 node.inputs)) is

    source_alike : (op : Op) → node.op ≡ op → is_source op ≡ true → Alike (head_bag op (input_bags (widths_at nodes head) rows)) (bag_at bags head)
    source_alike (Source table columns) is e = on rows (subst (λ (ins : List VertexInput). AllZip (HoldsBag files nodes) ins rows) (source_inputs table (ap is_source is)) hold)
      where
        wide : (bag_at bags head).width ≡ length columns
        wide = ap (λ (bag : Bag). bag.width) (here ∙ ap (λ (o : Op). bag_of files o (map (bag_at bags) node.inputs)) is)

        joined : (widths : List ℕ) (read : List Row) → flat_map (λ bag. bag.rows) (input_bags widths (read ∷ [])) ≡ read
        joined [] read = append-nil read
        joined (width ∷ []) read = append-nil read
        joined (width ∷ more ∷ widths) read = append-nil read

        on : (given : List (List Row)) → AllZip (HoldsBag files nodes) (files_input head ∷ []) given → Alike (head_bag (Source table columns) (input_bags (widths_at nodes head) given)) (bag_at bags head)
        on [] h = absurd h
        on (read ∷ []) h = record {
          width = sym wide;
          rows = subst (λ (all : List Row). SameBag all (bag_at bags head).rows) (sym (joined (widths_at nodes head) read)) h.0.same;
        }
        on (read ∷ more ∷ given) h = absurd h.1
    source_alike (Filter test) is e = absurd (false≢true e)
    source_alike (Project exprs) is e = absurd (false≢true e)
    source_alike (Explode column separator) is e = absurd (false≢true e)
    source_alike Union is e = absurd (false≢true e)
    source_alike (Aggregate keys aggs) is e = absurd (false≢true e)
    source_alike Distinct is e = absurd (false≢true e)
    source_alike (Join kind keys) is e = absurd (false≢true e)
    source_alike (Sink name) is e = absurd (false≢true e)

    pub head_alike : Alike (head_bag (op_at nodes head) (input_bags (widths_at nodes head) rows)) (bag_at bags head)
    head_alike =
        subst (λ (op : Op). Alike (head_bag op (input_bags (widths_at nodes head) rows)) (bag_at bags head)) (sym (op_is nodes head node at))
        (by (is_source node.op) refl)
      where
        by : (b : Bool) → is_source node.op ≡ b → Alike (head_bag node.op (input_bags (widths_at nodes head) rows)) (bag_at bags head)
        by true is = source_alike node.op refl is
        by false is = edges_alike is

  -- ---- the chain

  two_items : (xs : List ℕ) → length xs ≡ 2 → xs ≡ get_or xs 0 0 ∷ get_or xs 1 0 ∷ []
  two_items [] e = absurd (omega (arith, e))
  two_items (x ∷ []) e = absurd (omega (arith, e))
  two_items (x ∷ y ∷ []) e = refl
  two_items (x ∷ y ∷ z ∷ xs) e = absurd (omega (arith, e))

  reads_none : (op : Op) (inputs : List Bag) → is_source op ≡ false → bag_of no_files op inputs ≡ bag_of files op inputs
  reads_none (Source table columns) inputs e = absurd (false≢true (sym e))
  reads_none (Filter test) inputs e = refl
  reads_none (Project exprs) inputs e = refl
  reads_none (Explode column separator) inputs e = refl
  reads_none Union inputs e = refl
  reads_none (Aggregate keys aggs) inputs e = refl
  reads_none Distinct inputs e = refl
  reads_none (Join kind keys) inputs e = refl
  reads_none (Sink name) inputs e = refl

  no_source : (op : Op) (b : Bool) → is_source op ≡ b → (may_rebalance op || is_join op) ≡ true → b ≡ false
  no_source op false e may = refl
  no_source (Source table columns) true e may = absurd (false≢true may)
  no_source (Filter test) true e may = absurd (false≢true e)
  no_source (Project exprs) true e may = absurd (false≢true e)
  no_source (Explode column separator) true e may = absurd (false≢true e)
  no_source Union true e may = absurd (false≢true e)
  no_source (Aggregate keys aggs) true e may = absurd (false≢true e)
  no_source Distinct true e may = absurd (false≢true e)
  no_source (Join kind keys) true e may = absurd (false≢true e)
  no_source (Sink name) true e may = absurd (false≢true e)

  -- a node on the bags of its inputs gives its bag
  node_alike : (node : ℕ) (it : Node) (inputs : List Bag) (from : List ℕ) → slice_get nodes node ≡ Some it → it.inputs ≡ from → is_source it.op ≡ false → AllZip Alike inputs (map (bag_at bags) from)
      → Alike (bag_of no_files (op_at nodes node) inputs) (bag_at bags node)
  node_alike node it inputs from at are other all =
      let here = bag_here files nodes node it good at ∙ ap (λ (ins : List ℕ). bag_of files it.op (map (bag_at bags) ins)) are in
      let same = bags_same files it.op inputs (map (bag_at bags) from) (alike_at inputs (map (bag_at bags) from) all) in
      subst (λ (bag : Bag). Alike bag (bag_at bags node)) (sym (ap (λ (o : Op). bag_of no_files o inputs) (op_is nodes node it at) ∙ reads_none it.op inputs other))
      (subst (Alike (bag_of files it.op inputs)) (sym here) same)

  module _ (widened : List Widening) where
    abbrev edge_of : ℕ → Side → Edge
    edge_of node side = record { from = get_or (inputs_at nodes node) (build_place side) 0; into = node; place = build_place side }

    abbrev Builds : List ℕ → List (List Row) → Type 0
    Builds chain builds = AllZip (HoldsBag files nodes) (map (vertex_input nodes) (filter_map (build_edge nodes widened) chain)) builds

    abbrev BuildsAt : ℕ → Option Side → List ℕ → List (List Row) → Type 0
    BuildsAt node side chain builds = AllZip (HoldsBag files nodes) (map (vertex_input nodes) (cons_option (option_map (edge_of node) side) (filter_map (build_edge nodes widened) chain))) builds

    below : (side : Side) {n : ℕ} → n ≡ 2 → build_place side < n
    below Left e = omega (arith, e)
    below Right e = omega (arith, e)

    -- the rows of the build side
    built_alike : (node : ℕ) (it : Node) (side : Side) (chain : List ℕ) (builds : List (List Row)) → slice_get nodes node ≡ Some it → length it.inputs ≡ 2 → BuildsAt node (Some side) chain builds
        → Alike (build_bag nodes node (Some side) builds) (bag_at bags (get_or it.inputs (build_place side) 0))
    built_alike node it side chain [] at two hold = absurd hold
    built_alike node it side chain (rows ∷ builds) at two hold =
        let inputs : inputs_at nodes node ≡ it.inputs = ap (λ (o : Option Node). option_map_or (λ n. n.inputs) o []) at in
        let from = get_or (inputs_at nodes node) (build_place side) 0 in
        let alike : Alike (record { width = get_or (widths_of nodes) from 0; rows = rows }) (bag_at bags from) = record { width = width_is from; rows = hold.0.same } in
        let width : get_or (widths_at nodes node) (build_place side) 0 ≡ get_or (widths_of nodes) from 0 = width_from (inputs_at nodes node) (build_place side) (below side (ap length inputs ∙ two)) in
        subst (λ (l : List ℕ). Alike (build_bag nodes node (Some side) (rows ∷ builds)) (bag_at bags (get_or l (build_place side) 0))) inputs
        (record { width = width ∙ alike.width; rows = alike.rows })

    builds_behind : (node : ℕ) (side : Side) (chain : List ℕ) (builds : List (List Row)) → BuildsAt node (Some side) chain builds → Builds chain (rest_of builds)
    builds_behind node side chain [] hold = absurd hold
    builds_behind node side chain (rows ∷ builds) hold = hold.1

    -- a chained node and those behind it
    step_alike : (before node : ℕ) (bag : Bag) (chain : List ℕ) (builds : List (List Row)) (side : Option Side) → build_side nodes widened node ≡ side → TakesAfter nodes widened before node → Alike bag (bag_at bags before)
        → BuildsAt node side chain builds
        → Alike (bag_of no_files (op_at nodes node) (taken_bags side bag (build_bag nodes node side builds))) (bag_at bags node) × Builds chain (builds_left side builds)
    step_alike before node bag chain builds None is by alike hold = (on by.takes, hold)
      where
        on : TakesRows by.it before ⊎ TakesProbe by.it (build_side nodes widened node) before → Alike (bag_of no_files (op_at nodes node) (bag ∷ [])) (bag_at bags node)
        on (inl rows) = node_alike node by.it (bag ∷ []) (before ∷ []) by.at rows.input (no_source by.it.op (is_source by.it.op) refl (ap (λ (b : Bool). b || is_join by.it.op) rows.row)) (alike, tt)
        on (inr probe) = absurd (none-some probe.build (sym is ∙ probe.is))
    step_alike before node bag chain builds (Some side) is by alike hold = (on by.takes, builds_behind node side chain builds hold)
      where
        joins : (op : Op) → is_join op ≡ true → is_source op ≡ false
        joins op e = no_source op (is_source op) refl (either (may_rebalance op) (is_join op) e)
          where
            either : (a b : Bool) → b ≡ true → (a || b) ≡ true
            either true b e = refl
            either false b e = e

        by_side : (side : Side) → TakesProbe by.it (Some side) before → BuildsAt node (Some side) chain builds
            → Alike (bag_of no_files (op_at nodes node) (taken_bags (Some side) bag (build_bag nodes node (Some side) builds))) (bag_at bags node)
        by_side Left probe hold =
            let same : Some Left ≡ Some probe.build = probe.is in
            let before_is : get_or by.it.inputs 1 0 ≡ before = ap (λ (o : Option Side). get_or by.it.inputs (option_map_or probe_place o 0) 0) same ∙ probe.input in
            let two = two_items by.it.inputs probe.two ∙ ap (λ (n : ℕ). get_or by.it.inputs 0 0 ∷ n ∷ []) before_is in
            node_alike node by.it (build_bag nodes node (Some Left) builds ∷ bag ∷ []) (get_or by.it.inputs 0 0 ∷ before ∷ []) by.at two (joins by.it.op probe.join)
            (built_alike node by.it Left chain builds by.at probe.two hold, (alike, tt))
        by_side Right probe hold =
            let same : Some Right ≡ Some probe.build = probe.is in
            let before_is : get_or by.it.inputs 0 0 ≡ before = ap (λ (o : Option Side). get_or by.it.inputs (option_map_or probe_place o 0) 0) same ∙ probe.input in
            let two = two_items by.it.inputs probe.two ∙ ap (λ (n : ℕ). n ∷ get_or by.it.inputs 1 0 ∷ []) before_is in
            node_alike node by.it (bag ∷ build_bag nodes node (Some Right) builds ∷ []) (before ∷ get_or by.it.inputs 1 0 ∷ []) by.at two (joins by.it.op probe.join)
            (alike, (built_alike node by.it Right chain builds by.at probe.two hold, tt))

        on : TakesRows by.it before ⊎ TakesProbe by.it (build_side nodes widened node) before
            → Alike (bag_of no_files (op_at nodes node) (taken_bags (Some side) bag (build_bag nodes node (Some side) builds))) (bag_at bags node)
        on (inl rows) = absurd (none-some side (sym (rows_unwidened nodes widened node by.it by.at rows.row) ∙ is))
        on (inr probe) = by_side side (subst (λ (o : Option Side). TakesProbe by.it o before) is probe) hold

    pub chain_alike : (head : ℕ) (chain : List ℕ) (bag : Bag) (builds : List (List Row)) → IsChain nodes widened head (head ∷ chain) → Builds chain builds → Alike bag (bag_at bags head)
        → Alike (chain_bag nodes widened chain bag builds) (bag_at bags (last_in (head ∷ chain)))
    chain_alike head [] bag builds of hold alike = alike
    chain_alike head (node ∷ chain) bag builds of hold alike =
        let side = build_side nodes widened node in
        let by = takes_after nodes widened good head node (sym (of.next 0 (omega arith))) in
        let next = step_alike head node bag chain builds side refl by alike hold in
        let given = bag_of no_files (op_at nodes node) (taken_bags side bag (build_bag nodes node side builds)) in
        subst (λ (last : ℕ). Alike (chain_bag nodes widened chain given (builds_left side builds)) (bag_at bags last)) (sym (last_on head node chain))
        (chain_alike node chain given (builds_left side builds) (rest_of_chain nodes widened head head node chain of) next.1 next.0)
