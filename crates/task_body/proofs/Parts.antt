-- The outputs of a task take its rows, and what is cut for each of them is what the task may give.
use Rattle.std.proofs.Common.{◌≡◌, ℕ, zero, suc, ◌+◌, ◌<◌, ◌≤◌, ◌==◌, ◌&&◌, nat_eq, nat_lt, Bool, true, false, ◌⊎◌, inl, inr, All, IsTrue, List, [], ◌∷◌, ◌++◌, length, map, filter, get_or, Option, Some, None, slice_get, refl, sym, ◌∙◌, ap, subst, arith, cond, if◌then◌else◌}
use Rattle.std.specs.Arc.{arc_value}
use Rattle.std.specs.List.{AllByRecursion, AllZip, list_all, range_with_len}
use Rattle.std.specs.Option.{option_map_or}
use Rattle.std.proofs.lemmas.Bool.{cases_lt, eqb-true, eqb-false, false≢true}
use Rattle.std.proofs.lemmas.Bool.Decides.{nat_tests}
use Rattle.std.proofs.lemmas.List.{get_or_past}
use Rattle.std.proofs.lemmas.Option.{slice_get_within}
use Rattle.std.proofs.lemmas.List.Elements.{All-from_recursion}
use Rattle.bag_laws.specs.Rows.{OneRow as Row}
use Rattle.plan_model.specs.Checks.{columns_fit, plan_faults, takes}
use Rattle.plan_model.specs.Nodes.{sink_at}
use Rattle.plan_model.specs.Widths.{input_widths, widths_of}
use Rattle.plan_model.specs.declared.node.Node.{Node}
use Rattle.plan_model.specs.declared.op.Op.{Op}
use Rattle.plan_model.specs.declared.op.Op.TheVariants.{Source, Filter, Project, Explode, Union, Aggregate, Distinct, Join, Sink}
use Rattle.plan_model.specs.declared.ship.Ship.{Ship}
use Rattle.plan_model.specs.declared.ship.Ship.TheVariants.{Forward, Hash, Rebalance, Broadcast}
use Rattle.plan_model.proofs.Laws.{good_node, widths_here}
use Rattle.row_core.specs.Bags.{SameBag}
use Rattle.row_cells.specs.Cutting.{ships_to, IsCutInto}
use Rattle.row_view.specs.Encoded.{Spells}
use Rattle.rect_cover.specs.Cells.{gathered}
use Rattle.task_parts.specs.Tasks.{hash_cell, GoesBy, IsCut}
use Rattle.task_parts.proofs.Laws.{by_bags}
use Rattle.vertex_builder.specs.Edges.{consumer_edges, edge_ship, edges_from, edges_into, edges_of, op_ship, ship_into, side_columns}
use Rattle.vertex_builder.specs.Vertices.{cells_of, last_of, text_output, vertex_output, vertex_outputs}
use Rattle.vertex_builder.specs.declared.edge.Edge.{Edge}
use Rattle.vertex_builder.specs.declared.vertex_output.VertexOutput.{VertexOutput}
use Rattle.task_body.specs.Outputs.{TakesRows}
use Rattle.task_body.specs.Parts.{Gives, SpellRows}
use Rattle.task_body.specs.TaskRows.{task_rows, task_width}
use Rattle.task_body.specs.declared.task.Task.{Task}

-- ---- the edges of a plan

-- the edge is the one at its place among the inputs of its consumer
record IsInput (nodes : List Node) (edge : Edge) : Type 0 where
  pub node : Node
  pub at : slice_get nodes edge.into ≡ Some node
  pub input : slice_get node.inputs edge.place ≡ Some edge.from

module _ (P : Edge → Type 0) where
  all_on : (xs ys : List Edge) → AllByRecursion P xs → AllByRecursion P ys → AllByRecursion P (xs ++ ys)
  all_on [] ys a b = b
  all_on (x ∷ xs) ys a b = (a.0, all_on xs ys a.1 b)

  all_kept : (p : Edge → Bool) (xs : List Edge) → AllByRecursion P xs → AllByRecursion (λ edge. P edge × (p edge ≡ true)) (filter p xs)
  all_kept p [] all = tt
  all_kept p (x ∷ xs) all = by (p x) refl (all_kept p xs all.1)
    where
      by : (b : Bool) → p x ≡ b → AllByRecursion (λ edge. P edge × (p edge ≡ true)) (filter p xs) → AllByRecursion (λ edge. P edge × (p edge ≡ true)) (cond b (x ∷ filter p xs) (filter p xs))
      by true is rest = ((all.0, is), rest)
      by false is rest = rest

behind_front : {X : Type 0} (xs ys : List X) (k : ℕ) → slice_get (xs ++ ys) (length xs + k) ≡ slice_get ys k
behind_front [] ys k = let at : 0 + k ≡ k = omega arith in ap (slice_get ys) at
behind_front (x ∷ xs) ys k =
    let at : suc (length xs) + k ≡ suc (length xs + k) = omega arith in
    ap (slice_get (x ∷ xs ++ ys)) at ∙ behind_front xs ys k

into_inputs : (nodes : List Node) (into : ℕ) (node : Node) → slice_get nodes into ≡ Some node → (before ins : List ℕ) → before ++ ins ≡ node.inputs
    → AllByRecursion (IsInput nodes) (edges_into into (length before) ins)
into_inputs nodes into node at before [] are = tt
into_inputs nodes into node at before (i ∷ ins) are = (
  record {
    node = node;
    at = at;
    input =
        let here : length before ≡ length before + 0 = omega arith in
        ap (λ (l : List ℕ). slice_get l (length before)) (sym are) ∙ ap (slice_get (before ++ i ∷ ins)) here ∙ behind_front before (i ∷ ins) 0;
  },
  subst (λ (n : ℕ). AllByRecursion (IsInput nodes) (edges_into into n ins)) (longer before i)
      (into_inputs nodes into node at (before ++ i ∷ []) ins (assoc before i ins ∙ are)),
)
  where
    longer : (xs : List ℕ) (x : ℕ) → length (xs ++ x ∷ []) ≡ length xs + 1
    longer [] x = refl
    longer (y ∷ xs) x = ap suc (longer xs x) ∙ omega arith

    assoc : (xs : List ℕ) (x : ℕ) (ys : List ℕ) → (xs ++ x ∷ []) ++ ys ≡ xs ++ x ∷ ys
    assoc [] x ys = refl
    assoc (y ∷ xs) x ys = ap (λ (l : List ℕ). y ∷ l) (assoc xs x ys)

all_inputs : (before nodes : List Node) → AllByRecursion (IsInput (before ++ nodes)) (edges_from (length before) nodes)
all_inputs before [] = tt
all_inputs before (node ∷ nodes) =
    let here : length before ≡ length before + 0 = omega arith in
    all_on (IsInput (before ++ node ∷ nodes)) (edges_into (length before) 0 node.inputs) (edges_from (length before + 1) nodes)
    (into_inputs (before ++ node ∷ nodes) (length before) node (ap (slice_get (before ++ node ∷ nodes)) here ∙ behind_front before (node ∷ nodes) 0) [] node.inputs refl)
    (subst (λ (n : ℕ). AllByRecursion (IsInput (before ++ node ∷ nodes)) (edges_from n nodes)) (longer before)
    (subst (λ (l : List Node). AllByRecursion (IsInput l) (edges_from (length (before ++ node ∷ [])) nodes)) (assoc before) (all_inputs (before ++ node ∷ []) nodes)))
  where
    longer : (xs : List Node) → length (xs ++ node ∷ []) ≡ length xs + 1
    longer [] = refl
    longer (y ∷ xs) = ap suc (longer xs) ∙ omega arith

    assoc : (xs : List Node) → (xs ++ node ∷ []) ++ nodes ≡ xs ++ node ∷ nodes
    assoc [] = refl
    assoc (y ∷ xs) = ap (λ (l : List Node). y ∷ l) (assoc xs)

-- ---- the columns of a key

-- the width of an input
width_from : (ws : List ℕ) (ins : List ℕ) (place from : ℕ) → slice_get ins place ≡ Some from → get_or (input_widths ws ins) place 0 ≡ get_or ws from 0
width_from ws [] place from is = absurd (none_is is)
  where
    none_is : ◌≡◌ {A = Option ℕ} None (Some from) → ⊥
    none_is e = false≢true (ap (λ (o : Option ℕ). option_map_or (λ (n : ℕ). true) o false) e)
width_from ws (i ∷ ins) zero from is = ap (λ (o : Option ℕ). option_map_or (λ (n : ℕ). get_or ws n 0) o 0) is
width_from ws (i ∷ ins) (suc place) from is = width_from ws ins place from is

both_first : (a b : Bool) → (a && b) ≡ true → a ≡ true
both_first true b e = refl
both_first false b e = e

both_second : (a b : Bool) → (a && b) ≡ true → b ≡ true
both_second true b e = e
both_second false b e = absurd (false≢true e)

both_true : (a b : Bool) → a ≡ true → b ≡ true → (a && b) ≡ true
both_true true b e f = f
both_true false b e f = e

lt_true : (m n : ℕ) → m < n → nat_lt m n ≡ true
lt_true m n lt = grind (arith, nat_tests)

lt_false : (m n : ℕ) → n ≤ m → nat_lt m n ≡ false
lt_false m n le = grind (arith, nat_tests)

below_range : (a n width : ℕ) → a + n ≤ width → list_all (λ column. nat_lt column width) (range_with_len a n) ≡ true
below_range a zero width le = refl
below_range a (suc n) width le =
    both_true (nat_lt a width) (list_all (λ column. nat_lt column width) (range_with_len (a + 1) n)) (lt_true a width (omega (arith, le))) (below_range (a + 1) n width (omega (arith, le)))

below_side : (left right place width : ℕ) (keys : List (ℕ × ℕ)) → list_all (λ pair. nat_lt pair.0 left && nat_lt pair.1 right) keys ≡ true
    → (place ≡ 0 → left ≡ width) → ((place ≡ 0 → ⊥) → right ≡ width) → list_all (λ column. nat_lt column width) (side_columns place keys) ≡ true
below_side left right place width [] e first second = refl
below_side left right place width (pair ∷ keys) e first second =
    let here = nat_lt pair.0 left && nat_lt pair.1 right in
    let rest = list_all (λ pair. nat_lt pair.0 left && nat_lt pair.1 right) keys in
    let both = both_first here rest e in
    both_true _ _
    (by (place == 0) refl (both_first (nat_lt pair.0 left) (nat_lt pair.1 right) both) (both_second (nat_lt pair.0 left) (nat_lt pair.1 right) both))
    (below_side left right place width keys (both_second here rest e) first second)
  where
    by : (b : Bool) → (place == 0) ≡ b → nat_lt pair.0 left ≡ true → nat_lt pair.1 right ≡ true → nat_lt (if b then pair.0 else pair.1) width ≡ true
    by true is lt more = subst (λ (n : ℕ). nat_lt pair.0 n ≡ true) (first (eqb-true place 0 is)) lt
    by false is lt more = subst (λ (n : ℕ). nat_lt pair.1 n ≡ true) (second (eqb-false place 0 is)) more

one_place : (ins : List ℕ) (place from : ℕ) → nat_eq (length ins) 1 ≡ true → slice_get ins place ≡ Some from → place ≡ 0
one_place ins place from one is = let lt = slice_get_within ins place from is in let long = eqb-true (length ins) 1 one in omega arith

two_places : (ins : List ℕ) (place from : ℕ) → nat_eq (length ins) 2 ≡ true → slice_get ins place ≡ Some from → (place ≡ 0 → ⊥) → place ≡ 1
two_places ins place from two is other = let lt = slice_get_within ins place from is in let long = eqb-true (length ins) 2 two in omega (arith, other)

-- an operator wants its rows by columns that they have
op_goes : (op : Op) (ws ins : List ℕ) (count place from : ℕ) → takes op (length ins) ≡ true → columns_fit op (input_widths ws ins) ≡ true → slice_get ins place ≡ Some from
    → (cells_of count (op_ship op place (get_or ws from 0)) ≡ 1 ⊎ (cells_of count (op_ship op place (get_or ws from 0)) ≡ count))
    × IsTrue (ships_to (get_or ws from 0) (cells_of count (op_ship op place (get_or ws from 0))) (op_ship op place (get_or ws from 0)))
op_goes (Source table columns) ws ins count place from number fit is = (inl refl, refl)
op_goes (Filter test) ws ins count place from number fit is = (inl refl, refl)
op_goes (Project exprs) ws ins count place from number fit is = (inl refl, refl)
op_goes (Explode column separator) ws ins count place from number fit is = (inl refl, refl)
op_goes Union ws ins count place from number fit is = (inr refl, refl)
op_goes (Aggregate keys aggs) ws ins count place from number fit is =
    let width = get_or ws from 0 in
    let zero_is = one_place ins place from number is in
    let same : get_or (input_widths ws ins) 0 0 ≡ width = ap (λ (n : ℕ). get_or (input_widths ws ins) n 0) (sym zero_is) ∙ width_from ws ins place from is in
    let fits = both_first (list_all (λ key. nat_lt key (get_or (input_widths ws ins) 0 0)) keys) _ fit in
    (inr refl, subst (λ (n : ℕ). list_all (λ key. nat_lt key n) keys ≡ true) same fits)
op_goes Distinct ws ins count place from number fit is =
    let width = get_or ws from 0 in
    (inr refl, below_range 0 width width (omega arith))
op_goes (Join kind keys) ws ins count place from number fit is =
    let width = get_or ws from 0 in
    let here = width_from ws ins place from is in (
      inr refl,
      below_side (get_or (input_widths ws ins) 0 0) (get_or (input_widths ws ins) 1 0) place width keys fit
          (λ first. ap (λ (n : ℕ). get_or (input_widths ws ins) n 0) (sym first) ∙ here)
          (λ other. ap (λ (n : ℕ). get_or (input_widths ws ins) n 0) (sym (two_places ins place from number is other)) ∙ here),
    )
op_goes (Sink name) ws ins count place from number fit is = (inl refl, refl)

module _ (nodes : List Node) (good : plan_faults nodes ≡ []) (most : ℕ) (some : 0 < most) where
  edge_takes : (edge : Edge) → IsInput nodes edge → TakesRows (get_or (widths_of nodes) edge.from 0) (vertex_output nodes most edge)
  edge_takes edge is = by (is.node.rebalance) refl
    where
      width : ℕ
      width = get_or (widths_of nodes) edge.from 0

      ship_is : (b : Bool) → is.node.rebalance ≡ b → edge_ship nodes edge ≡ (if b then Rebalance else op_ship is.node.op edge.place (get_or (widths_of nodes) edge.from 0))
      ship_is b e = ap (λ (o : Option Node). option_map_or (λ n. ship_into n edge.place (get_or (widths_of nodes) edge.from 0)) o Forward) is.at
          ∙ ap (λ (c : Bool). if c then Rebalance else op_ship is.node.op edge.place (get_or (widths_of nodes) edge.from 0)) e

      to : (ship : Ship) → edge_ship nodes edge ≡ ship → 0 < cells_of most ship → IsTrue (ships_to (get_or (widths_of nodes) edge.from 0) (cells_of most ship) ship)
          → TakesRows (get_or (widths_of nodes) edge.from 0) (vertex_output nodes most edge)
      to ship e cells ships = record {
        some = subst (λ (s : Ship). 0 < cells_of most s) (sym e) cells;
        ships = subst (λ (s : Ship). IsTrue (ships_to (get_or (widths_of nodes) edge.from 0) (cells_of most s) s)) (sym e) ships;
      }

      some_cells : (n : ℕ) → (n ≡ 1) ⊎ (n ≡ most) → 0 < n
      some_cells n (inl e) = omega (arith, e)
      some_cells n (inr e) = omega (arith, e, some)

      by : (b : Bool) → is.node.rebalance ≡ b → TakesRows (get_or (widths_of nodes) edge.from 0) (vertex_output nodes most edge)
      by true e = to Rebalance (ship_is true e) some refl
      by false e =
          let it = good_node nodes edge.into is.node good is.at in
          let ws = widths_of nodes in
          let fit = ap (columns_fit is.node.op) (sym (widths_here nodes edge.into is.node good is.at)) ∙ it.columns in
          let goes = op_goes is.node.op ws is.node.inputs most edge.place edge.from it.number fit is.input in
          let ship = op_ship is.node.op edge.place (get_or ws edge.from 0) in
          to ship (ship_is false e) (some_cells (cells_of most ship) goes.0) goes.1

  outputs_take : (last : ℕ) → AllByRecursion (TakesRows (get_or (widths_of nodes) last 0)) (vertex_outputs nodes most last)
  outputs_take last = by (sink_at nodes last)
    where
      edges : AllByRecursion (λ edge. IsInput nodes edge × ((edge.from == last) ≡ true)) (consumer_edges nodes last)
      edges = all_kept (IsInput nodes) (λ edge. edge.from == last) (edges_of nodes) (all_inputs [] nodes)

      each : (l : List Edge) → AllByRecursion (λ edge. IsInput nodes edge × ((edge.from == last) ≡ true)) l → AllByRecursion (TakesRows (get_or (widths_of nodes) last 0)) (map (vertex_output nodes most) l)
      each [] all = tt
      each (edge ∷ l) all = (
        subst (λ (n : ℕ). TakesRows (get_or (widths_of nodes) n 0) (vertex_output nodes most edge)) (eqb-true edge.from last all.0.1) (edge_takes edge all.0.0),
        each l all.1,
      )

      by : (b : Bool) → AllByRecursion (TakesRows (get_or (widths_of nodes) last 0)) (if b then text_output ∷ [] else map (vertex_output nodes most) (consumer_edges nodes last))
      by true = (record { some = omega arith; ships = refl }, tt)
      by false = each (consumer_edges nodes last) edges

pub task_takes : (task : Task) → All (TakesRows (task_width task)) task.vertex.outputs
task_takes task =
    All-from_recursion (TakesRows (task_width task)) task.vertex.outputs
    (subst (AllByRecursion (TakesRows (task_width task))) (sym task.is.outputs)
    (outputs_take (arc_value task.plan) task.faultless task.max_parallelism task.some (last_of task.vertex)))

-- ---- what is cut is what the task may give

-- cells from a number on have no rows
abbrev below : ℕ → (ℕ → List Row) → ℕ → List Row
below n cells c = if nat_lt c n then cells c else []

below_is : (n : ℕ) (cells : ℕ → List Row) (c : ℕ) → c < n → below n cells c ≡ cells c
below_is n cells c lt = ap (λ (b : Bool). if b then cells c else []) (lt_true c n lt)

gathered_same : (n : ℕ) (cells others : ℕ → List Row) → ((c : ℕ) → c < n → others c ≡ cells c) → gathered n others ≡ gathered n cells
gathered_same zero cells others same = refl
gathered_same (suc n) cells others same = λ i. gathered_same n cells others (λ c lt. same c (omega (arith, lt))) i ++ same n (omega arith) i

goes_below : (ship : Ship) (attempt count n : ℕ) (cells : ℕ → List Row) → GoesBy ship attempt count n cells → GoesBy ship attempt count n (below count cells)
goes_below (Hash columns) attempt count n cells goes = λ cell lt. subst (All (λ row. hash_cell columns count row ≡ cell)) (sym (below_is count cells cell lt)) (goes cell lt)
goes_below Rebalance attempt count n cells goes = λ cell lt. ap (λ (rows : List Row). length rows) (below_is count cells cell lt) ∙ goes cell lt
goes_below Forward attempt count n cells goes = goes
goes_below Broadcast attempt count n cells goes = tt

cut_below : (attempt : ℕ) (output : VertexOutput) (rows : List Row) (cells : ℕ → List Row) → IsCut attempt output rows cells → IsCut attempt output rows (below output.cells cells)
cut_below attempt output rows cells cut = record {
  sum = subst (λ (all : List Row). SameBag all rows) (sym (gathered_same output.cells cells (below output.cells cells) (below_is output.cells cells))) cut.sum;
  goes = goes_below output.ship attempt output.cells (length rows) cells cut.goes;
}

module _ (width attempt : ℕ) (rows : List Row) where
  abbrev AreCut : List VertexOutput → List (List (List ℕ)) → Type 0
  AreCut outputs edges = AllZip (λ output bytes. IsCutInto width attempt output rows bytes) outputs edges

  pub cut_push : (outputs : List VertexOutput) (edges : List (List (List ℕ))) (output : VertexOutput) (edge : List (List ℕ)) → AreCut outputs edges → IsCutInto width attempt output rows edge
      → AreCut (outputs ++ output ∷ []) (edges ++ edge ∷ [])
  cut_push [] [] output edge cut one = (one, tt)
  cut_push [] (other ∷ edges) output edge cut one = absurd cut
  cut_push (other ∷ outputs) [] output edge cut one = absurd cut
  cut_push (other ∷ outputs) (more ∷ edges) output edge cut one = (cut.0, cut_push outputs edges output edge cut.1 one)

  counted : (outputs : List VertexOutput) (edges : List (List (List ℕ))) → AreCut outputs edges → map length edges ≡ map (λ output. output.cells) outputs
  counted [] [] cut = refl
  counted [] (edge ∷ edges) cut = absurd cut
  counted (output ∷ outputs) [] cut = absurd cut
  counted (output ∷ outputs) (edge ∷ edges) cut = λ i. cut.0.count i ∷ counted outputs edges cut.1 i

  -- what the bytes of an edge's cells spell, and those that it lacks
  spelled_one : (output : VertexOutput) (edge : List (List ℕ)) (cut : IsCutInto width attempt output rows edge) (c : ℕ) → Spells width (get_or edge c []) (below output.cells cut.cells c)
  spelled_one output edge cut c = elim (cases_lt c output.cells) [
    | inl lt ↦ subst (Spells width (get_or edge c [])) (sym (below_is output.cells cut.cells c lt)) (cut.spelled c lt)
    | inr le ↦
        let none : get_or edge c [] ≡ [] = get_or_past edge c [] (omega (arith, le, cut.count)) in
        let empty : below output.cells cut.cells c ≡ [] = ap (λ (b : Bool). if b then cut.cells c else []) (lt_false c output.cells le) in
        subst (λ (bytes : List ℕ). Spells width bytes (below output.cells cut.cells c)) (sym none) (subst (Spells width []) (sym empty) (tt, refl))
  ]

  spelled : (outputs : List VertexOutput) (edges : List (List (List ℕ))) → AreCut outputs edges → SpellRows width edges
  spelled [] [] cut e c = ([], (tt, refl))
  spelled [] (edge ∷ edges) cut e c = absurd cut
  spelled (output ∷ outputs) [] cut e c = absurd cut
  spelled (output ∷ outputs) (edge ∷ edges) cut zero c = (below output.cells cut.0.cells c, spelled_one output edge cut.0 c)
  spelled (output ∷ outputs) (edge ∷ edges) cut (suc e) c = spelled outputs edges cut.1 e c

  each_cut : (outputs : List VertexOutput) (edges : List (List (List ℕ))) (cut : AreCut outputs edges) (e : ℕ) → e < length outputs
      → IsCut attempt (get_or outputs e text_output) rows (λ c. (spelled outputs edges cut e c).0)
  unfolding spelled
  each_cut [] edges cut e lt = absurd (omega (arith, lt))
  each_cut (output ∷ outputs) [] cut e lt = absurd cut
  each_cut (output ∷ outputs) (edge ∷ edges) cut zero lt = cut_below attempt output rows cut.0.cells cut.0.cut
  each_cut (output ∷ outputs) (edge ∷ edges) cut (suc e) lt = each_cut outputs edges cut.1 e (omega (arith, lt))

pub gives : (task : Task) (width attempt : ℕ) (rows : List Row) (edges : List (List (List ℕ))) → width ≡ task_width task → attempt ≡ task.name.attempt → SameBag rows (task_rows task)
    → AllZip (λ output bytes. IsCutInto width attempt output rows bytes) task.vertex.outputs edges → Gives task edges
gives task width attempt rows edges width_is attempt_is same cut =
    let outputs = task.vertex.outputs in
    let it = subst (λ (w : ℕ). AllZip (λ output bytes. IsCutInto w task.name.attempt output rows bytes) outputs edges) width_is
    (subst (λ (a : ℕ). AllZip (λ output bytes. IsCutInto width a output rows bytes) outputs edges) attempt_is cut) in
    let spell = spelled (task_width task) task.name.attempt rows outputs edges it in (
      counted (task_width task) task.name.attempt rows outputs edges it,
      (spell, by_bags task.name.attempt outputs rows (task_rows task) (λ e c. (spell e c).0) same (record { each = each_cut (task_width task) task.name.attempt rows outputs edges it })),
    )
