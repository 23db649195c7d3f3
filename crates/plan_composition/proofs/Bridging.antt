-- The winners of each vertex have the plan's bag of its last node.
use Rattle.std.proofs.Common.{◌≡◌, ℕ, zero, suc, ◌+◌, ◌<◌, ◌≤◌, Bool, List, [], ◌∷◌, length, map, take, drop, get_or, Option, Some, None, refl, sym, ◌∙◌, ap, subst, arith, All, true, false, not, cond, ⊎_elim, if◌then◌else◌}
use Rattle.std.specs.Prelude.{⊤, IsTrue, nat_lt}
use Rattle.std.specs.List.{AllZip, flat_map, list_all}
use Rattle.std.specs.Option.{MatchOption, option_map, option_map_or, is_some, unwrap_or}
use Rattle.std.proofs.lemmas.Bool.{cases_eq, false≢true}
use Rattle.std.proofs.lemmas.Bool.Decides.{nat_tests}
use Rattle.std.proofs.lemmas.List.{length-map}
use Rattle.std.proofs.lemmas.List.Sums.{AllPass-from_list_all}
use Rattle.std.proofs.lemmas.List.Elements.{All-append, All-cons, All-head, All-nil, All-tail}
use Rattle.row_core.specs.Bags.{SameBag}
use Rattle.row_core.specs.Hashing.{hash_of_key}
use Rattle.bag_laws.specs.Rows.{OneRow as Row}
use Rattle.bag_laws.proofs.Laws.{same_on}
use Rattle.estate.specs.declared.part_name.PartName.{PartName}
use Rattle.plan_model.specs.Checks.{plan_faults}
use Rattle.plan_model.specs.Plans.{bag_at, bags_of}
use Rattle.plan_model.specs.declared.node.Node.{Node}
use Rattle.plan_model.specs.declared.ship.Ship.{Ship}
use Rattle.plan_model.specs.declared.ship.Ship.TheVariants.{Forward, Hash, Rebalance, Broadcast}
use Rattle.rect_cover.specs.Cells.{Input, Reads, gathered, rows_of}
use Rattle.rect_cover.specs.Covers.{IsCover}
use Rattle.rect_cover.specs.Vertices.{grids_of, readings, wholes}
use Rattle.rect_cover.specs.declared.grid.Grid.{Grid}
use Rattle.rect_cover.specs.declared.shape.Shape.{Shape}
use Rattle.task_parts.specs.Tasks.{GoesBy, IsCut, TaskMay}
use Rattle.vertex_builder.specs.Chains.{is_among}
use Rattle.vertex_builder.specs.Edges.{input_edges}
use Rattle.vertex_builder.specs.Vertices.{cells_of, chain_builds, files_input, head_inputs, head_of, is_source_at, last_of, text_output, vertex_input, IsVertex}
use Rattle.vertex_builder.specs.declared.edge.Edge.{Edge}
use Rattle.vertex_builder.specs.declared.vertex.Vertex.{Vertex}
use Rattle.vertex_builder.specs.declared.vertex_input.VertexInput.{VertexInput}
use Rattle.vertex_builder.specs.declared.vertex_output.VertexOutput.{VertexOutput}
use Rattle.vertex_builder.specs.declared.widening.Widening.{Widening}
use Rattle.vertex_laws.specs.Inputs.{AreShipped, HoldBags, HoldsBag, IsShipped}
use Rattle.vertex_laws.specs.VertexRows.{MayRepeat, head_count, op_at, op_shape, vertex_rows, vertex_shape}
use Rattle.graph_model.specs.declared.made_vertex.MadeVertex.{MadeVertex}
use Rattle.graph_model.specs.declared.sub.Sub.{Sub}
use Rattle.graph_model.specs.declared.subtask_state.SubtaskState.{SubtaskState}
use Rattle.graph_model.specs.declared.win.Win.{Win}
use Rattle.graph_model.specs.Legal.{IsDone}
use Rattle.graph_model.specs.Links.{IsLinked, LinkLaw, SingleLaw, output_number}
use Rattle.graph_model.specs.Reading.{HasWinnersRows, ReadsWinners, output_of}
use Rattle.graph_model.specs.Reads.{ReadEdge, file_grid, input_grid, node_grid, read_edge, read_edges, shape_at}
use Rattle.graph_model.specs.States.{Given, State, is_complete, is_decided, maker, no_subtask, sub_of, subtasks_at, vertex_at, winner_at, winner_name}
use Rattle.graph_model.specs.Valid.{IsValid, decision_of}
use Rattle.graph_model.proofs.Laws.{among_at, begins, in_range, maker_has, reads_at}
use Rattle.plan_composition.specs.Results.{output_rows, winner_part}
use Rattle.plan_composition.specs.Tasks.{HasSizes, Stored, file_rows, input_cells, named, no_part, subtask_rows}
use Rattle.plan_composition.proofs.Cells.{CellsGo, RowsGo, at_named, both_left, both_right, rows_same}
use Rattle.plan_composition.proofs.Files.{files_bag, sum_all}
use Rattle.plan_composition.proofs.Truth.{AreWinnersTrue}

-- ---- the law that is cited

abbrev pub SumLaw : Type 0
SumLaw = (files : List ℕ → List (List ℕ)) (nodes : List Node) (widened : List Widening) (max_parallelism : ℕ) (vertex : Vertex) (hash : Row → ℕ) (inputs : List Input) (subtasks : List Reads)
    → plan_faults nodes ≡ [] → MayRepeat nodes widened → IsVertex nodes widened max_parallelism vertex → head_of vertex < length nodes
    → AreShipped hash max_parallelism vertex inputs → IsCover (vertex_shape nodes vertex inputs) subtasks → HoldBags files nodes vertex (wholes inputs)
    → SameBag (flat_map (λ subtask. vertex_rows nodes widened vertex (readings inputs 0 subtask)) subtasks) (bag_at (bags_of files nodes) (last_of vertex)).rows

-- ---- lists

zip_map : {A B : Type 0} (R : A → B → Type 0) (f : A → B) (xs : List A) → All (λ x. R x (f x)) xs → AllZip R xs (map f xs)
zip_map R f [] all = tt
zip_map R f (x ∷ xs) all = (All-head (λ y. R y (f y)) x xs all, zip_map R f xs (All-tail (λ y. R y (f y)) x xs all))

-- ---- complete vertices

complete_winner : (vs : List MadeVertex) (sub : Sub) → IsTrue (is_complete (vertex_at vs sub.vertex)) → sub.subtask < length (subtasks_at vs sub.vertex) → (win : Win) × (winner_at vs sub ≡ Some win)
complete_winner vs sub is lt =
    let subtasks = subtasks_at vs sub.vertex in
    let all = both_right (is_decided (vertex_at vs sub.vertex)) (list_all (λ subtask. is_some subtask.winner) subtasks) is in
    let pass = AllPass-from_list_all (λ (t : SubtaskState). is_some t.winner) subtasks all sub.subtask no_subtask lt in
    by (get_or subtasks sub.subtask no_subtask).winner pass
  where
    by : (o : Option Win) → is_some o ≡ true → (win : Win) × (o ≡ Some win)
    by None e = absurd (false≢true e)
    by (Some win) e = (win, refl)

pub complete_some : (vs : List MadeVertex) (v : ℕ) → IsTrue (is_complete (vertex_at vs v)) → 0 < length (subtasks_at vs v)
complete_some vs v is = lt (length (subtasks_at vs v)) (both_left (is_decided (vertex_at vs v)) (list_all (λ subtask. is_some subtask.winner) (subtasks_at vs v)) is)
  where
    lt : (n : ℕ) → nat_lt 0 n ≡ true → 0 < n
    lt n e = grind (arith, nat_tests)

-- the first vertex that has a node is one of the list, where some vertex has it
maker_below : (vs : List MadeVertex) (v node : ℕ) → v < length vs → is_among (vertex_at vs v).vertex.nodes node ≡ true → maker vs node < length vs
maker_below [] v node lt has = absurd (omega (arith, lt))
maker_below (made ∷ vs) v node lt has = by v lt has (is_among made.vertex.nodes node) refl (λ u less has. maker_below vs u node less has)
  where
    by : (v : ℕ) → v < length (made ∷ vs) → is_among (vertex_at (made ∷ vs) v).vertex.nodes node ≡ true → (b : Bool) → is_among made.vertex.nodes node ≡ b
        → ((u : ℕ) → u < length vs → is_among (vertex_at vs u).vertex.nodes node ≡ true → maker vs node < length vs) → cond (not b) (1 + maker vs node) 0 < length (made ∷ vs)
    by v lt has true is rest = omega arith
    by zero lt has false is rest = absurd (false≢true (sym is ∙ has))
    by (suc v) lt has false is rest = let less = rest v (omega (arith, lt)) has in omega (arith, less)

-- ---- where rows stand

shipped_by : (max : ℕ) (ship : Ship) (input : Input) → input.grid.cells ≡ cells_of max ship
    → ((p : ℕ) → p < input.grid.producers → (attempt : ℕ) × (n : ℕ) × GoesBy ship attempt (cells_of max ship) n (input.rows p))
    → IsShipped hash_of_key max ship input
shipped_by max Forward input cells each = tt
shipped_by max (Hash columns) input cells each = record {
  cells = cells;
  stands = record {
    stands = λ p s lt less. let (attempt, n, goes) = each p lt in goes s (subst (λ (count : ℕ). s < count) cells less);
  };
}
shipped_by max Rebalance input cells each = tt
shipped_by max Broadcast input cells each = tt

-- ---- files

-- an input that comes from no node has a source's files, and no ship
abbrev IsRead : List Node → VertexInput → Type 0
IsRead nodes input = MatchOption input.from ((is_source_at nodes input.into ≡ true) × (input.ship ≡ Forward)) (λ node. ⊤)

edges_read : (nodes : List Node) (edges : List Edge) → All (IsRead nodes) (map (vertex_input nodes) edges)
edges_read nodes [] = All-nil (IsRead nodes)
edges_read nodes (edge ∷ edges) = All-cons (IsRead nodes) (vertex_input nodes edge) (map (vertex_input nodes) edges) tt (edges_read nodes edges)

head_read : (nodes : List Node) (head : ℕ) → All (IsRead nodes) (head_inputs nodes head)
head_read nodes head = by (is_source_at nodes head) refl
  where
    by : (b : Bool) → is_source_at nodes head ≡ b → All (IsRead nodes) (if b then files_input head ∷ [] else map (vertex_input nodes) (input_edges nodes head))
    by true is = All-cons (IsRead nodes) (files_input head) [] (is, refl) (All-nil (IsRead nodes))
    by false is = edges_read nodes (input_edges nodes head)

inputs_read : (nodes : List Node) (widened : List Widening) (max : ℕ) (vertex : Vertex) → IsVertex nodes widened max vertex → All (IsRead nodes) vertex.inputs
inputs_read nodes widened max vertex is =
    let builds = chain_builds nodes widened vertex.nodes in
    subst (λ (l : List VertexInput). All (IsRead nodes) l) (sym is.inputs)
    (All-append (IsRead nodes) (head_inputs nodes (get_or vertex.nodes 0 0)) (map (vertex_input nodes) builds) (head_read nodes (get_or vertex.nodes 0 0)) (edges_read nodes builds))

-- ---- the bridge

module _ (law : SumLaw) (go_cells : CellsGo) (go_rows : RowsGo) (links : LinkLaw) (single : SingleLaw)
    (given : Given) (stored : Stored) (state : State) (good : plan_faults given.nodes ≡ []) (sizes : HasSizes given stored.files) (valid : IsValid given state) (done : IsDone given state)
    (true_wins : AreWinnersTrue given stored state) (reads_winners : ReadsWinners stored.parts state.vertices) where
  abbrev vs : List MadeVertex
  vs = state.vertices

  abbrev nodes : List Node
  nodes = given.nodes

  abbrev max : ℕ
  max = given.settings.max_parallelism

  -- the part of the winner of what is read
  abbrev won : ReadEdge → PartName
  won edge = winner_part vs edge.sub

  abbrev den : ℕ → List Row
  den node = (bag_at (bags_of stored.files nodes) node).rows

  part_is : (sub : Sub) (win : Win) → winner_at vs sub ≡ Some win → winner_part vs sub ≡ win.name
  part_is sub win is = ap (λ (o : Option Win). unwrap_or (option_map (λ w. w.name) o) no_part) is

  all_complete : (v : ℕ) → v < length vs → IsTrue (is_complete (vertex_at vs v))
  all_complete v lt =
      let made = valid.made v lt in
      let vertex = (vertex_at vs v).vertex in
      let head = head_of vertex in
      let first = begins vertex.nodes head made.is.chain.first in
      let has : is_among vertex.nodes head ≡ true = among_at vertex.nodes 0 first.0 in
      let below = maker_below vs v head lt has in
      let same : maker vs head ≡ v = single given state good valid (maker vs head) v head below lt (maker_has vs head below) has in
      subst (λ (n : ℕ). IsTrue (is_complete (vertex_at vs n))) same (done head made.within)

  -- a winner's part is cut by each output
  cut_is : (sub : Sub) (e : ℕ) → sub.subtask < length (subtasks_at vs sub.vertex) → e < length (vertex_at vs sub.vertex).vertex.outputs
      → (win : Win) × (winner_at vs sub ≡ Some win)
      × IsCut win.name.attempt (get_or (vertex_at vs sub.vertex).vertex.outputs e text_output) (subtask_rows given stored vs state.widened (named (read_edges vs sub) win.inputs) sub) (stored.parts (winner_part vs sub) e)
  cut_is sub e lt less =
      let some : 0 < length (subtasks_at vs sub.vertex) = omega (arith, lt) in
      let (win, is) = complete_winner vs sub (all_complete sub.vertex (in_range vs sub.vertex some)) lt in
      let own : sub_of win.name ≡ sub = (valid.winners sub win is).own in
      let P : Sub → Type 0 = λ s. TaskMay win.name.attempt (vertex_at vs s.vertex).vertex.outputs (subtask_rows given stored vs state.widened (named (read_edges vs s) win.inputs) s) (stored.parts win.name) in
      let may : P sub = subst P own (true_wins sub win is) in
      let Q : PartName → Type 0 = λ n. IsCut win.name.attempt (get_or (vertex_at vs sub.vertex).vertex.outputs e text_output) (subtask_rows given stored vs state.widened (named (read_edges vs sub) win.inputs) sub) (stored.parts n e) in
      (win, is, subst Q (sym (part_is sub win is)) (may.each e less))

  -- what a subtask read of the parts that it named is what it reads of the winners
  read_won : (sub : Sub) (win : Win) → winner_at vs sub ≡ Some win
      → SameBag (subtask_rows given stored vs state.widened (named (read_edges vs sub) win.inputs) sub) (subtask_rows given stored vs state.widened won sub)
  read_won sub win is = rows_same go_cells go_rows given stored vs (named (read_edges vs sub) win.inputs) won state.widened sub
      (λ edge has there cell.
      let some : 0 < length (subtasks_at vs edge.sub.vertex) = omega (arith, there) in
      let (winner, was) = complete_winner vs edge.sub (all_complete edge.sub.vertex (in_range vs edge.sub.vertex some)) there in
      let name : winner_name vs edge.sub ≡ Some winner.name = ap (option_map (λ (w : Win). w.name)) was in
      let part = named (read_edges vs sub) win.inputs edge in
      subst (λ (n : PartName). SameBag (stored.parts part (output_of vs edge) cell) (stored.parts n (output_of vs edge) cell)) (sym (part_is edge.sub winner was))
      (at_named (HasWinnersRows stored.parts vs) (read_edges vs sub) win.inputs (reads_winners sub win is) edge has winner.name name cell))

  -- ---- one input

  -- the vertices below v have the plan's bags
  abbrev AreBelow : ℕ → Type 0
  AreBelow v = (u e : ℕ) → u < v → e < length (vertex_at vs u).vertex.outputs → SameBag (output_rows stored.parts vs u e) (den (last_of (vertex_at vs u).vertex))

  abbrev Shipped : VertexInput → Type 0
  Shipped input = IsShipped hash_of_key max input.ship (input_cells given stored vs won input)

  abbrev Holds : VertexInput → Type 0
  Holds input = HoldsBag stored.files nodes input (rows_of (input_cells given stored vs won input))

  -- the cells of an input that comes from there
  abbrev cells_from : VertexInput → Option ℕ → Input
  cells_from input from = record {
    grid = option_map_or (node_grid given vs input) from (file_grid given input.into);
    rows = λ p s. option_map_or (λ node. let edge = read_edge input (maker vs node) p in stored.parts (won edge) (output_of vs edge) s) from (file_rows stored.files (op_at nodes input.into) p);
  }

  shipped : (v : ℕ) (input : VertexInput) (from : Option ℕ) → MatchOption from ⊤ (λ node. IsLinked given vs v input node)
      → MatchOption from ((is_source_at nodes input.into ≡ true) × (input.ship ≡ Forward)) (λ node. ⊤)
      → IsShipped hash_of_key max input.ship (cells_from input from)
  shipped v input None linked read = subst (λ (ship : Ship). IsShipped hash_of_key max ship (cells_from input None)) (sym read.1) tt
  shipped v input (Some node) linked read = shipped_by max input.ship (cells_from input (Some node)) refl
      (λ p lt.
      let u = maker vs node in
      let outputs = (vertex_at vs u).vertex.outputs in
      let e = output_number outputs input.into input.place in
      let sub : Sub = record { vertex = u; subtask = p } in
      let (win, is, cut) = cut_is sub e lt linked.within in
      let n = length (subtask_rows given stored vs state.widened (named (read_edges vs sub) win.inputs) sub) in
      (win.name.attempt, n, subst (λ (o : VertexOutput). GoesBy o.ship win.name.attempt o.cells n (stored.parts (winner_part vs sub) e)) linked.output cut.goes))

  holds : (v : ℕ) → AreBelow v → (input : VertexInput) (from : Option ℕ) → MatchOption from ⊤ (λ node. IsLinked given vs v input node)
      → MatchOption from ((is_source_at nodes input.into ≡ true) × (input.ship ≡ Forward)) (λ node. ⊤)
      → SameBag (rows_of (cells_from input from)) (den (unwrap_or from input.into))
  holds v below input None linked read = files_bag given stored.files good sizes input.into read.0
  holds v below input (Some node) linked read =
      let u = maker vs node in
      let outputs = (vertex_at vs u).vertex.outputs in
      let e = output_number outputs input.into input.place in
      let cells : (get_or outputs e text_output).cells ≡ cells_of max input.ship = ap (λ (o : VertexOutput). o.cells) linked.output in
      let here = below u e linked.before linked.within in
      let of : ℕ → List Row = λ c. gathered (length (subtasks_at vs u)) (λ k. gathered c (λ s. stored.parts (winner_part vs (record { vertex = u; subtask = k })) e s)) in
      subst (λ (c : ℕ). SameBag (of c) (den node)) cells (subst (λ (n : ℕ). SameBag (output_rows stored.parts vs u e) (den n)) (sym linked.last) here)

  grids_take : (n : ℕ) (inputs : List VertexInput) → grids_of (take n (map (input_cells given stored vs won) inputs)) ≡ take n (map (input_grid given vs) inputs)
  grids_take zero inputs = refl
  grids_take (suc n) [] = refl
  grids_take (suc n) (input ∷ inputs) = ap (λ (l : List Grid). input_grid given vs input ∷ l) (grids_take n inputs)

  grids_all : (inputs : List VertexInput) → grids_of (map (input_cells given stored vs won) inputs) ≡ map (input_grid given vs) inputs
  grids_all [] = refl
  grids_all (input ∷ inputs) = ap (λ (l : List Grid). input_grid given vs input ∷ l) (grids_all inputs)

  grids_drop : (n : ℕ) (inputs : List VertexInput) → grids_of (drop n (map (input_cells given stored vs won) inputs)) ≡ drop n (map (input_grid given vs) inputs)
  grids_drop zero inputs = grids_all inputs
  grids_drop (suc n) [] = refl
  grids_drop (suc n) (input ∷ inputs) = grids_drop n inputs

  shape_is : (vertex : Vertex) → vertex_shape nodes vertex (map (input_cells given stored vs won) vertex.inputs) ≡ shape_at given vs vertex
  shape_is vertex =
      let count = head_count nodes vertex in
      let of : List Grid → List Grid → Shape = λ heads wide. record { kind = op_shape (op_at nodes (head_of vertex)); heads = heads; wide = wide } in
      let wide = grids_of (drop count (map (input_cells given stored vs won) vertex.inputs)) in
      ap (λ (l : List Grid). of l wide) (grids_take count vertex.inputs) ∙ ap (of (take count (map (input_grid given vs) vertex.inputs))) (grids_drop count vertex.inputs)

  -- ---- one vertex

  vertex_bag : (v e : ℕ) → v < length vs → AreBelow v → e < length (vertex_at vs v).vertex.outputs → SameBag (output_rows stored.parts vs v e) (den (last_of (vertex_at vs v).vertex))
  vertex_bag v e lt below less =
      let vertex = (vertex_at vs v).vertex in
      let subtasks = subtasks_at vs v in
      let decision = decision_of subtasks in
      let inputs = map (input_cells given stored vs won) vertex.inputs in
      let cells = (get_or vertex.outputs e text_output).cells in
      let made = valid.made v lt in
      let gives : Reads → List Row = λ reads. vertex_rows nodes state.widened vertex (readings inputs 0 reads) in
      let part : ℕ → List Row = λ k. gathered cells (λ c. stored.parts (winner_part vs (record { vertex = v; subtask = k })) e c) in
      let long = length-map subtasks (λ (t : SubtaskState). t.reads) in
      let each : (k : ℕ) → k < length decision → SameBag (part k) (gives (get_or decision k [])) = λ k under. one k (subst (λ (n : ℕ). k < n) long under) in
      let all = sum_all part gives decision [] (length subtasks) (sym long) each in
      let linked = links given state good valid v lt in
      let read = inputs_read nodes state.widened max vertex made.is in
      let ships : AllZip (λ at input. IsShipped hash_of_key max at.ship input) vertex.inputs inputs =
      zip_map (λ at input. IsShipped hash_of_key max at.ship input) (input_cells given stored vs won) vertex.inputs
      (λ k d within. shipped v (get_or vertex.inputs k d) (get_or vertex.inputs k d).from (linked k d within) (read k d within)) in
      let bags : AllZip (HoldsBag stored.files nodes) vertex.inputs (map (λ input. rows_of (input_cells given stored vs won input)) vertex.inputs) =
      zip_map (HoldsBag stored.files nodes) (λ input. rows_of (input_cells given stored vs won input)) vertex.inputs
      (λ k d within. record { same = holds v below (get_or vertex.inputs k d) (get_or vertex.inputs k d).from (linked k d within) (read k d within) }) in
      let held : HoldBags stored.files nodes vertex (wholes inputs) = subst (λ (l : List (List Row)). AllZip (HoldsBag stored.files nodes) vertex.inputs l) (whole_map vertex.inputs) bags in
      let cover : IsCover (vertex_shape nodes vertex inputs) decision =
      subst (λ (shape : Shape). IsCover shape decision) (sym (shape_is vertex)) (valid.decided v (complete_some vs v (all_complete v lt))).cover in
      same_on all (law stored.files nodes state.widened max vertex hash_of_key inputs decision good valid.joins made.is made.within ships cover held)
    where
      whole_map : (inputs : List VertexInput) → map (λ input. rows_of (input_cells given stored vs won input)) inputs ≡ wholes (map (input_cells given stored vs won) inputs)
      whole_map [] = refl
      whole_map (input ∷ inputs) = ap (λ (l : List (List Row)). rows_of (input_cells given stored vs won input) ∷ l) (whole_map inputs)

      one : (k : ℕ) → k < length (subtasks_at vs v)
          → SameBag (gathered (get_or (vertex_at vs v).vertex.outputs e text_output).cells (λ c. stored.parts (winner_part vs (record { vertex = v; subtask = k })) e c))
          (vertex_rows nodes state.widened (vertex_at vs v).vertex (readings (map (input_cells given stored vs won) (vertex_at vs v).vertex.inputs) 0 (get_or (decision_of (subtasks_at vs v)) k [])))
      one k under =
          let sub : Sub = record { vertex = v; subtask = k } in
          let vertex = (vertex_at vs v).vertex in
          let inputs = map (input_cells given stored vs won) vertex.inputs in
          let (win, is, cut) = cut_is sub e under less in
          subst (λ (r : Reads). SameBag (gathered (get_or vertex.outputs e text_output).cells (λ c. stored.parts (winner_part vs sub) e c)) (vertex_rows nodes state.widened vertex (readings inputs 0 r)))
          (reads_at (subtasks_at vs v) k) (same_on cut.sum (read_won sub win is))

  pub below_bags : (n : ℕ) → n ≤ length vs → AreBelow n
  below_bags zero le u e lt less = absurd (omega (arith, lt))
  below_bags (suc n) le u e lt less = ⊎_elim
      (λ (same : u ≡ n). vertex_bag u e (omega (arith, le, same)) (λ x y under within. below_bags n (omega (arith, le)) x y (omega (arith, under, same)) within) less)
      (λ (differ : u ≡ n → ⊥). below_bags n (omega (arith, le)) u e (omega (arith, lt, differ)) less)
      (cases_eq u n)
