-- A task's chain, one node after the other.
use Rattle.std.proofs.Common.{◌≡◌, ℕ, suc, ◌+◌, ◌-◌, ◌<◌, ◌≤◌, ◌⊎◌, inl, inr, true, false, All, IsTrue, List, [], ◌∷◌, length, map, drop, get_or, Option, Some, None, slice_get, refl, sym, ◌∙◌, ap, subst, arith}
use Rattle.std.specs.Arc.{arc_value}
use Rattle.std.specs.List.{cons_option, filter_map}
use Rattle.std.specs.Option.{option_map, option_map_or}
use Rattle.std.proofs.lemmas.Bool.{false≢true}
use Rattle.std.proofs.lemmas.List.Elements.{All-cons, All-nil, All-drop}
use Rattle.std.proofs.lemmas.Option.{none-some}
use Rattle.row_core.specs.Bags.{SameBag}
use Rattle.bag_laws.specs.Rows.{OneRow as Row}
use Rattle.bag_laws.proofs.Laws.{same_refl}
use Rattle.operator_laws.specs.Texts.{ConstantsFit}
use Rattle.operator_laws.proofs.Laws.{bags_same}
use Rattle.plan_model.specs.Nodes.{Alike, HasItsWidth, IsGood, bag_widths}
use Rattle.plan_model.specs.Operators.{is_source}
use Rattle.plan_model.specs.Plans.{Bag, bag_at, bag_of}
use Rattle.plan_model.specs.Widths.{input_widths, widths_of}
use Rattle.plan_model.specs.declared.node.Node.{Node}
use Rattle.plan_model.specs.declared.op.Op.{Op}
use Rattle.plan_model.specs.declared.op.Op.TheVariants.{Source, Filter, Project, Explode, Union, Aggregate, Distinct, Join, Sink}
use Rattle.plan_model.specs.declared.side.Side.{Side}
use Rattle.plan_model.specs.declared.side.Side.TheVariants.{Left, Right}
use Rattle.vertex_builder.specs.Chains.{IsChain, TakesAfter, TakesProbe, TakesRows}
use Rattle.vertex_builder.specs.Edges.{build_place, build_side, chained_after, is_join, probe_place}
use Rattle.vertex_builder.specs.Vertices.{build_edge, chain_builds, inputs_at, last_in, last_of, vertex_input}
use Rattle.vertex_builder.specs.declared.edge.Edge.{Edge}
use Rattle.vertex_builder.specs.declared.vertex_input.VertexInput.{VertexInput}
use Rattle.vertex_builder.specs.declared.widening.Widening.{Widening}
use Rattle.vertex_builder.proofs.Laws.{rows_unwidened, takes_after}
use Rattle.vertex_laws.specs.VertexRows.{build_bag, builds_left, chain_bag, head_count, no_files, op_at, taken_bags, widths_at}
use Rattle.task_body.specs.Inputs.{build_read, builds_behind, input_bag, input_rows, rows_read, width_into}
use Rattle.task_body.specs.Plans.{ConstantsFitAt, IsEncodable}
use Rattle.task_body.specs.TaskRows.{task_head, task_inputs, task_rows, task_width}
use Rattle.task_body.specs.declared.task.Task.{Task}
use Rattle.task_body.specs.declared.task_input.TaskInput.{TaskInput}
use Rattle.task_body.proofs.Alike.{alike_itself, alike_on, one_alike, two_alike}
use Rattle.task_body.proofs.Heads.{build_widths, chain_some, drop_ats, good_on, head_width, inputs_are, node_narrow, op_is, read_drop, wide_of, width_on}
use Rattle.task_body.proofs.Inputs.{input_fits, reads_none}

-- ---- chains of the same bags

pub taken_alike : (side : Option Side) (bag other build more : Bag) → Alike bag other → Alike build more → (place : ℕ)
    → Alike (bag_at (taken_bags side bag build) place) (bag_at (taken_bags side other more) place)
taken_alike None bag other build more alike built place = one_alike bag other alike place
taken_alike (Some Left) bag other build more alike built place = two_alike build bag more other built alike place
taken_alike (Some Right) bag other build more alike built place = two_alike bag build other more alike built place

module _ (nodes : List Node) (widened : List Widening) where
  chain_alike : (chain : List ℕ) (bag other : Bag) (builds : List (List Row)) → Alike bag other
      → Alike (chain_bag nodes widened chain bag builds) (chain_bag nodes widened chain other builds)
  chain_alike [] bag other builds alike = alike
  chain_alike (node ∷ chain) bag other builds alike =
      let side = build_side nodes widened node in
      let build = build_bag nodes node side builds in
      let op = op_at nodes node in
      chain_alike chain (bag_of no_files op (taken_bags side bag build)) (bag_of no_files op (taken_bags side other build)) (builds_left side builds)
      (bags_same no_files op (taken_bags side bag build) (taken_bags side other build) (taken_alike side bag other build build alike (alike_itself build)))

  -- the chain without its first node
  rest_of_chain : (x y : ℕ) (rest : List ℕ) → IsChain nodes widened x (x ∷ y ∷ rest) → IsChain nodes widened y (y ∷ rest)
  rest_of_chain x y rest of = record {
    first = refl;
    next = λ k lt.
        let to : suc (k + 1) ≡ k + 1 + 1 = omega arith in
        let at : k + 1 ≡ suc k = omega arith in
        ap (slice_get (x ∷ y ∷ rest)) to ∙ of.next (k + 1) (omega (arith, lt)) ∙ ap (λ (n : ℕ). chained_after nodes widened (get_or (x ∷ y ∷ rest) n 0)) at;
  }

last_on : (x y : ℕ) (rest : List ℕ) → last_in (x ∷ y ∷ rest) ≡ last_in (y ∷ rest)
last_on x y rest =
    let n = length rest in
    let two : suc (suc n) - 1 ≡ suc n = omega arith in
    let one : n ≡ suc n - 1 = omega arith in
    ap (λ (k : ℕ). get_or (x ∷ y ∷ rest) k 0) two ∙ ap (λ (k : ℕ). get_or (y ∷ rest) k 0) one

two_items : (xs : List ℕ) → length xs ≡ 2 → xs ≡ get_or xs 0 0 ∷ get_or xs 1 0 ∷ []
two_items [] e = absurd (omega (arith, e))
two_items (x ∷ []) e = absurd (omega (arith, e))
two_items (x ∷ y ∷ []) e = refl
two_items (x ∷ y ∷ z ∷ xs) e = absurd (omega (arith, e))

join_reads : (op : Op) → is_join op ≡ true → is_source op ≡ false
join_reads (Source table columns) is = absurd (false≢true is)
join_reads (Filter test) is = refl
join_reads (Project exprs) is = refl
join_reads (Explode column separator) is = refl
join_reads Union is = refl
join_reads (Aggregate keys aggs) is = refl
join_reads Distinct is = refl
join_reads (Join kind keys) is = refl
join_reads (Sink name) is = refl

-- ---- where a task stands in its chain

-- The rows of the first node of what is left, from which the nodes behind it and the build sides
-- that are left give what the task gives.
pub record IsAt (task : Task) (batch : Bag) (chain : List ℕ) (builds : List TaskInput) : Type 0 where
  pub some : 0 < length chain
  pub of : IsChain (arc_value task.plan) task.widened (get_or chain 0 0) chain
  pub last : last_in chain ≡ last_of task.vertex
  pub width : batch.width ≡ get_or (widths_of (arc_value task.plan)) (get_or chain 0 0) 0
  pub fit : IsEncodable batch
  pub constants : ConstantsFitAt (arc_value task.plan) chain
  pub widths : map wide_of builds
      ≡ map (width_into (arc_value task.plan)) (map (vertex_input (arc_value task.plan)) (chain_builds (arc_value task.plan) task.widened chain))
  pub given : Alike
      (chain_bag (arc_value task.plan) task.widened (drop 1 chain) batch
      (rows_read (arc_value task.plan) (map (vertex_input (arc_value task.plan)) (chain_builds (arc_value task.plan) task.widened chain)) builds))
      (chain_bag (arc_value task.plan) task.widened (drop 1 task.vertex.nodes) (task_head task) (drop (head_count (arc_value task.plan) task.vertex) (task_inputs task)))

-- the next node, and what it takes
pub record IsNext (task : Task) (batch : Bag) (node : ℕ) (builds : List TaskInput) : Type 0 where
  pub it : Node
  pub at : slice_get (arc_value task.plan) node ≡ Some it
  pub joins : (side : Side) → build_side (arc_value task.plan) task.widened node ≡ Some side → IsTrue (is_join (op_at (arc_value task.plan) node))
  pub built : (side : Side) → build_side (arc_value task.plan) task.widened node ≡ Some side → 0 < length builds
  pub same : bag_widths (taken_bags (build_side (arc_value task.plan) task.widened node) batch (build_read (op_at (arc_value task.plan) node) builds))
      ≡ input_widths (widths_of (arc_value task.plan)) it.inputs
  pub good : IsGood (op_at (arc_value task.plan) node)
      (taken_bags (build_side (arc_value task.plan) task.widened node) batch (build_read (op_at (arc_value task.plan) node) builds))
  pub constants : ConstantsFit (op_at (arc_value task.plan) node)

module _ (task : Task) where
  abbrev nodes : List Node
  nodes = arc_value task.plan

  abbrev widened : List Widening
  widened = task.widened

  -- where it begins
  pub begins : (head : Bag) → Alike head (task_head task) → IsEncodable head → IsAt task head task.vertex.nodes (drop (head_count nodes task.vertex) task.inputs.items)
  begins head same fit =
      let count = head_count nodes task.vertex in
      let behind = map (vertex_input nodes) (chain_builds nodes widened task.vertex.nodes) in
      let builds = drop count task.inputs.items in
      let read : drop count (task_inputs task) ≡ rows_read nodes behind builds =
      read_drop nodes count task.vertex.inputs task.inputs.items ∙ ap (λ (l : List VertexInput). rows_read nodes l builds) (drop_ats task) in
      record {
        some = chain_some task;
        of = task.is.chain;
        last = refl;
        width = same.width ∙ head_width task;
        fit = fit;
        constants = task.constants;
        widths = build_widths task;
        given = subst (λ (l : List (List Row)). Alike (chain_bag nodes widened (drop 1 task.vertex.nodes) head (rows_read nodes behind builds)) (chain_bag nodes widened (drop 1 task.vertex.nodes) (task_head task) l))
            (sym read) (chain_alike nodes widened (drop 1 task.vertex.nodes) head (task_head task) (rows_read nodes behind builds) same);
      }

  -- where it ends
  pub ends : (batch : Bag) (chain : List ℕ) (builds : List TaskInput) → IsAt task batch chain builds → length chain ≤ 1 → SameBag batch.rows (task_rows task) × (batch.width ≡ task_width task)
  ends batch [] builds at few = absurd (omega (arith, at.some))
  ends batch (x ∷ []) builds at few = (at.given.rows, at.width ∙ ap (λ (n : ℕ). get_or (widths_of nodes) n 0) at.last)
  ends batch (x ∷ y ∷ rest) builds at few = absurd (omega (arith, few))

  module _ (batch : Bag) (x node : ℕ) (rest : List ℕ) (builds : List TaskInput) (at : IsAt task batch (x ∷ node ∷ rest) builds) where
    abbrev op : Op
    op = op_at nodes node

    abbrev edge_of : Side → Edge
    edge_of side = record { from = get_or (inputs_at nodes node) (build_place side) 0; into = node; place = build_place side }

    -- the inputs behind, where the node has this build side
    abbrev ats : Option Side → List VertexInput
    ats side = map (vertex_input nodes) (cons_option (option_map edge_of side) (filter_map (build_edge nodes widened) rest))

    taken : TakesAfter nodes widened x node
    taken = takes_after nodes widened task.faultless x node (sym (at.of.next 0 (omega arith)))

    abbrev Widths : Option Side → Type 0
    Widths side = map wide_of builds ≡ map (width_into nodes) (ats side)

    -- one that takes the rows before alone
    rows_next : (by : TakesAfter nodes widened x node) → TakesRows by.it x → bag_widths (batch ∷ []) ≡ input_widths (widths_of nodes) by.it.inputs
    rows_next by takes = ap (λ (n : ℕ). n ∷ []) at.width ∙ ap (λ (l : List ℕ). input_widths (widths_of nodes) l) (sym takes.input)

    record HasBuild (side : Side) : Type 0 where
      pub build : TaskInput
      pub others : List TaskInput
      pub is : builds ≡ build ∷ others
      pub width : build.width ≡ get_or (widths_of nodes) (get_or (inputs_at nodes node) (build_place side) 0) 0
      pub widths : map wide_of others ≡ map (width_into nodes) (map (vertex_input nodes) (filter_map (build_edge nodes widened) rest))

    has_build : (side : Side) → Widths (Some side) → HasBuild side
    has_build side widths = on builds refl widths
      where
        on : (l : List TaskInput) → builds ≡ l → map wide_of l ≡ map (width_into nodes) (ats (Some side)) → HasBuild side
        on [] is same = absurd (omega (arith, ap length same))
        on (build ∷ others) is same = record {
          build = build;
          others = others;
          is = is;
          width = ap (λ (l : List ℕ). get_or l 0 0) same;
          widths = ap (drop 1) same;
        }

    -- the widths of the two that a widened join takes
    probe_next : (by : TakesAfter nodes widened x node) (side : Side) → TakesProbe by.it (Some side) x → (has : HasBuild side)
        → bag_widths (taken_bags (Some side) batch (input_bag op has.build)) ≡ input_widths (widths_of nodes) by.it.inputs
    probe_next by Left probe has =
        let before : get_or by.it.inputs 1 0 ≡ x = ap (λ (o : Option Side). get_or by.it.inputs (option_map_or probe_place o 0) 0) probe.is ∙ probe.input in
        let from : get_or (inputs_at nodes node) 0 0 ≡ get_or by.it.inputs 0 0 = ap (λ (l : List ℕ). get_or l 0 0) (inputs_are nodes node by.it by.at) in
        let two = two_items by.it.inputs probe.two in
        (λ i. (has.width ∙ ap (λ (n : ℕ). get_or (widths_of nodes) n 0) from) i ∷ (at.width ∙ ap (λ (n : ℕ). get_or (widths_of nodes) n 0) (sym before)) i ∷ [])
        ∙ ap (λ (l : List ℕ). input_widths (widths_of nodes) l) (sym two)
    probe_next by Right probe has =
        let before : get_or by.it.inputs 0 0 ≡ x = ap (λ (o : Option Side). get_or by.it.inputs (option_map_or probe_place o 0) 0) probe.is ∙ probe.input in
        let from : get_or (inputs_at nodes node) 1 0 ≡ get_or by.it.inputs 1 0 = ap (λ (l : List ℕ). get_or l 1 0) (inputs_are nodes node by.it by.at) in
        let two = two_items by.it.inputs probe.two in
        (λ i. (at.width ∙ ap (λ (n : ℕ). get_or (widths_of nodes) n 0) (sym before)) i ∷ (has.width ∙ ap (λ (n : ℕ). get_or (widths_of nodes) n 0) from) i ∷ [])
        ∙ ap (λ (l : List ℕ). input_widths (widths_of nodes) l) (sym two)

    build_fits : (side : Side) → is_source op ≡ false → (has : HasBuild side) → IsEncodable (input_bag op has.build)
    build_fits side reads has =
        input_fits op has.build (reads_none op has.build.width reads)
        (subst (λ (n : ℕ). n ≤ 256) (sym has.width) (node_narrow nodes task.faultless (get_or (inputs_at nodes node) (build_place side) 0)))

    wide_taken : (side : Side) (build : Bag) → IsEncodable build → All HasItsWidth (taken_bags (Some side) batch build)
    wide_taken Left build fit = All-cons HasItsWidth build (batch ∷ []) fit.wide (All-cons HasItsWidth batch [] at.fit.wide (All-nil HasItsWidth))
    wide_taken Right build fit = All-cons HasItsWidth batch (build ∷ []) at.fit.wide (All-cons HasItsWidth build [] fit.wide (All-nil HasItsWidth))

    -- what the node takes, by its build side
    record Takes (side : Option Side) : Type 0 where
      pub joins : (build : Side) → side ≡ Some build → IsTrue (is_join op)
      pub built : (build : Side) → side ≡ Some build → 0 < length builds
      pub same : bag_widths (taken_bags side batch (build_read op builds)) ≡ input_widths (widths_of nodes) taken.it.inputs
      pub wide : All HasItsWidth (taken_bags side batch (build_read op builds))

    takes : (side : Option Side) → build_side nodes widened node ≡ side → Widths side → Takes side
    takes None is widths = record {
      joins = λ build e. absurd (none-some build e);
      built = λ build e. absurd (none-some build e);
      same = on taken.takes;
      wide = All-cons HasItsWidth batch [] at.fit.wide (All-nil HasItsWidth);
    }
      where
        on : TakesRows taken.it x ⊎ TakesProbe taken.it (build_side nodes widened node) x → bag_widths (batch ∷ []) ≡ input_widths (widths_of nodes) taken.it.inputs
        on (inl rows) = rows_next taken rows
        on (inr probe) = absurd (none-some probe.build (sym is ∙ probe.is))
    takes (Some side) is widths = on taken.takes
      where
        has : HasBuild side
        has = has_build side widths

        on : TakesRows taken.it x ⊎ TakesProbe taken.it (build_side nodes widened node) x → Takes (Some side)
        on (inl rows) = absurd (none-some side (sym (rows_unwidened nodes widened node taken.it taken.at rows.row) ∙ is))
        on (inr probe) =
            let join : is_join op ≡ true = ap is_join (op_is nodes node taken.it taken.at) ∙ probe.join in
            let by_side = subst (λ (o : Option Side). TakesProbe taken.it o x) is probe in
            let same = probe_next taken side by_side has in
            let wide = wide_taken side (input_bag op has.build) (build_fits side (join_reads op join) has) in
            record {
              joins = λ build e. join;
              built = λ build e. subst (λ (l : List TaskInput). 0 < length l) (sym has.is) (omega arith);
              same = subst (λ (l : List TaskInput). bag_widths (taken_bags (Some side) batch (build_read op l)) ≡ input_widths (widths_of nodes) taken.it.inputs) (sym has.is) same;
              wide = subst (λ (l : List TaskInput). All HasItsWidth (taken_bags (Some side) batch (build_read op l))) (sym has.is) wide;
            }

    pub is_next : IsNext task batch node builds
    is_next =
        let side = build_side nodes widened node in
        let has = takes side refl at.widths in
        let inputs = taken_bags side batch (build_read op builds) in
        record {
          it = taken.it;
          at = taken.at;
          joins = has.joins;
          built = has.built;
          same = has.same;
          good = subst (λ (o : Op). IsGood o inputs) (sym (op_is nodes node taken.it taken.at)) (good_on nodes task.faultless node taken.it taken.at inputs has.same has.wide);
          constants = at.constants 1 0 (omega arith);
        }

    -- ---- behind the node

    module _ (given : Bag) where
      abbrev Whole : Bag
      Whole = chain_bag nodes widened (drop 1 task.vertex.nodes) (task_head task) (drop (head_count nodes task.vertex) (task_inputs task))

      -- what the chain gives, where the node has this build side
      abbrev GivesBy : Option Side → Type 0
      GivesBy side = let rows = rows_read nodes (ats side) builds in
          Alike (chain_bag nodes widened rest (bag_of no_files op (taken_bags side batch (build_bag nodes node side rows))) (builds_left side rows)) Whole

      abbrev behind : List VertexInput
      behind = map (vertex_input nodes) (filter_map (build_edge nodes widened) rest)

      record Leaves (side : Option Side) : Type 0 where
        pub widths : map wide_of (builds_behind side builds) ≡ map (width_into nodes) behind
        pub gives : Alike (chain_bag nodes widened rest given (rows_read nodes behind (builds_behind side builds))) Whole

      width_at : (side : Side) → length (inputs_at nodes node) ≡ 2 → get_or (widths_at nodes node) (build_place side) 0 ≡ get_or (widths_of nodes) (get_or (inputs_at nodes node) (build_place side) 0) 0
      width_at side two = on side (inputs_at nodes node) two
        where
          on : (side : Side) (l : List ℕ) → length l ≡ 2 → get_or (input_widths (widths_of nodes) l) (build_place side) 0 ≡ get_or (widths_of nodes) (get_or l (build_place side) 0) 0
          on side [] e = absurd (omega (arith, e))
          on side (a ∷ []) e = absurd (omega (arith, e))
          on Left (a ∷ b ∷ l) e = refl
          on Right (a ∷ b ∷ l) e = refl

      leaves : (side : Option Side) → build_side nodes widened node ≡ side → Widths side → GivesBy side → Alike given (bag_of no_files op (taken_bags side batch (build_read op builds))) → Leaves side
      leaves None is widths whole same = record {
        widths = widths;
        gives = alike_on (chain_bag nodes widened rest given (rows_read nodes behind builds))
            (chain_bag nodes widened rest (bag_of no_files op (batch ∷ [])) (rows_read nodes behind builds)) Whole
            (chain_alike nodes widened rest given (bag_of no_files op (batch ∷ [])) (rows_read nodes behind builds) same) whole;
      }
      leaves (Some side) is widths whole same = on taken.takes
        where
          has : HasBuild side
          has = has_build side widths

          on : TakesRows taken.it x ⊎ TakesProbe taken.it (build_side nodes widened node) x → Leaves (Some side)
          on (inl rows) = absurd (none-some side (sym (rows_unwidened nodes widened node taken.it taken.at rows.row) ∙ is))
          on (inr probe) =
              let two : length (inputs_at nodes node) ≡ 2 = ap length (inputs_are nodes node taken.it taken.at) ∙ probe.two in
              let rows = rows_read nodes (ats (Some side)) (has.build ∷ has.others) in
              let built : Alike (input_bag op has.build) (build_bag nodes node (Some side) rows) =
              record { width = has.width ∙ sym (width_at side two); rows = same_refl (input_rows op has.build) } in
              let read = taken_bags (Some side) batch (input_bag op has.build) in
              let meant = taken_bags (Some side) batch (build_bag nodes node (Some side) rows) in
              let given_is = subst (λ (l : List TaskInput). Alike given (bag_of no_files op (taken_bags (Some side) batch (build_read op l)))) has.is same in
              let both = alike_on given (bag_of no_files op read) (bag_of no_files op meant) given_is
              (bags_same no_files op read meant (taken_alike (Some side) batch batch (input_bag op has.build) (build_bag nodes node (Some side) rows) (alike_itself batch) built)) in
              let left = rows_read nodes behind has.others in
              let whole_is = subst (λ (l : List TaskInput). let r = rows_read nodes (ats (Some side)) l in
              Alike (chain_bag nodes widened rest (bag_of no_files op (taken_bags (Some side) batch (build_bag nodes node (Some side) r))) (builds_left (Some side) r)) Whole) has.is whole in
              record {
                widths = subst (λ (l : List TaskInput). map wide_of (drop 1 l) ≡ map (width_into nodes) behind) (sym has.is) has.widths;
                gives = subst (λ (l : List TaskInput). Alike (chain_bag nodes widened rest given (rows_read nodes behind (drop 1 l))) Whole) (sym has.is)
                    (alike_on (chain_bag nodes widened rest given left) (chain_bag nodes widened rest (bag_of no_files op meant) left) Whole
                    (chain_alike nodes widened rest given (bag_of no_files op meant) left both) whole_is);
              }

      pub goes_on : Alike given (bag_of no_files op (taken_bags (build_side nodes widened node) batch (build_read op builds))) → IsEncodable given
          → IsAt task given (node ∷ rest) (builds_behind (build_side nodes widened node) builds)
      goes_on same fit =
          let side = build_side nodes widened node in
          let has = takes side refl at.widths in
          let left = leaves side refl at.widths at.given same in
          let inputs = taken_bags side batch (build_read op builds) in
          record {
            some = omega arith;
            of = rest_of_chain nodes widened x node rest (on_first at.of);
            last = sym (last_on x node rest) ∙ at.last;
            width = same.width ∙ ap (λ (o : Op). (bag_of no_files o inputs).width) (op_is nodes node taken.it taken.at) ∙ width_on nodes task.faultless node taken.it taken.at inputs has.same;
            fit = fit;
            constants = All-drop (λ n. ConstantsFit (op_at nodes n)) 1 (x ∷ node ∷ rest) at.constants;
            widths = left.widths;
            given = left.gives;
          }
        where
          on_first : IsChain nodes widened (get_or (x ∷ node ∷ rest) 0 0) (x ∷ node ∷ rest) → IsChain nodes widened x (x ∷ node ∷ rest)
          on_first of = of

-- ---- of a chain of two nodes or more

pub next_is : (task : Task) (batch : Bag) (chain : List ℕ) (builds : List TaskInput) → IsAt task batch chain builds → 1 < length chain → IsNext task batch (get_or chain 1 0) builds
next_is task batch [] builds at more = absurd (omega (arith, more))
next_is task batch (x ∷ []) builds at more = absurd (omega (arith, more))
next_is task batch (x ∷ node ∷ rest) builds at more = is_next task batch x node rest builds at

pub on_is : (task : Task) (batch : Bag) (chain : List ℕ) (builds : List TaskInput) (given : Bag) → IsAt task batch chain builds → 1 < length chain
    → Alike given (bag_of no_files (op_at (arc_value task.plan) (get_or chain 1 0))
    (taken_bags (build_side (arc_value task.plan) task.widened (get_or chain 1 0)) batch (build_read (op_at (arc_value task.plan) (get_or chain 1 0)) builds)))
    → IsEncodable given
    → IsAt task given (drop 1 chain) (builds_behind (build_side (arc_value task.plan) task.widened (get_or chain 1 0)) builds)
on_is task batch [] builds given at more same fit = absurd (omega (arith, more))
on_is task batch (x ∷ []) builds given at more same fit = absurd (omega (arith, more))
on_is task batch (x ∷ node ∷ rest) builds given at more same fit = goes_on task batch x node rest builds at given same fit
