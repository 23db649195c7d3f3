-- What a subtask reads of equal parts are equal bags.
use Rattle.std.proofs.Common.{◌≡◌, ℕ, suc, ◌<◌, ◌==◌, Bool, List, [], ◌∷◌, length, map, filter, get_or, Option, Some, None, refl, sym, ◌∙◌, ap, subst, arith, true, false, ◌&&◌, ◌||◌, cond, eqb, inl, inr, ⊎_elim}
use Rattle.std.specs.Prelude.{◌⊎◌, Contains, nat_lt, nat_le, if◌then◌else◌}
use Rattle.std.specs.List.{AllZip, list_all, range_with_len}
use Rattle.std.specs.Option.{option_map_or}
use Rattle.std.proofs.lemmas.Bool.{false≢true}
use Rattle.std.proofs.lemmas.List.FromFn.{length-range_with_len, get_or-range_with_len}
use Rattle.std.proofs.lemmas.List.Folds.{sum_by-zero}
use Rattle.std.proofs.lemmas.List.Elements.{Contains-append_cases, Contains-append_left, Contains-append_right, Contains-get_or}
use Rattle.row_core.specs.Bags.{SameBag}
use Rattle.bag_laws.specs.Rows.{OneRow as Row}
use Rattle.bag_laws.proofs.Laws.{same_refl}
use Rattle.estate.specs.declared.part_name.PartName.{PartName}
use Rattle.plan_model.specs.declared.node.Node.{Node}
use Rattle.rect_cover.specs.Cells.{Reads, rects_of, is_inside, times, reading}
use Rattle.rect_cover.specs.Vertices.{readings}
use Rattle.rect_cover.specs.declared.grid.Grid.{Grid}
use Rattle.rect_cover.specs.declared.rect.Rect.{Rect}
use Rattle.vertex_builder.specs.declared.vertex.Vertex.{Vertex}
use Rattle.vertex_builder.specs.declared.vertex_input.VertexInput.{VertexInput}
use Rattle.vertex_builder.specs.declared.widening.Widening.{Widening}
use Rattle.vertex_laws.specs.VertexRows.{op_at, vertex_rows}
use Rattle.graph_model.specs.declared.made_vertex.MadeVertex.{MadeVertex}
use Rattle.graph_model.specs.declared.sub.Sub.{Sub}
use Rattle.graph_model.specs.Reading.{output_of}
use Rattle.graph_model.specs.Reads.{ReadEdge, file_grid, input_edges, input_grid, inputs_edges, node_edges, node_grid, read_edge, read_edges, touched, touches_producer}
use Rattle.graph_model.specs.States.{Given, maker, subtask_at, subtasks_at, vertex_at}
use Rattle.graph_model.proofs.Laws.{in_map, in_nothing, in_one}
use Rattle.plan_composition.specs.Tasks.{Stored, cell_rows, file_rows, input_cells, is_same_edge, named, subtask_rows}

-- what a subtask reads goes by the bags of the cells that it reads
abbrev pub CellsGo : Type 0
CellsGo = (grid : Grid) (rows others : ℕ → ℕ → List Row) (rects : List Rect)
    → ((p s : ℕ) → p < grid.producers → s < grid.cells → (times rects p s ≡ 0) ⊎ SameBag (rows p s) (others p s))
    → SameBag (reading grid rows rects) (reading grid others rects)

-- what a vertex gives goes by the bags of what is read at its inputs
abbrev pub RowsGo : Type 0
RowsGo = (nodes : List Node) (widened : List Widening) (vertex : Vertex) (read others : List (List Row)) → AllZip SameBag read others
    → SameBag (vertex_rows nodes widened vertex read) (vertex_rows nodes widened vertex others)

-- ---- the names of what is read

pub both_left : (a b : Bool) → (a && b) ≡ true → a ≡ true
both_left true b e = refl
both_left false b e = absurd (false≢true e)

pub both_right : (a b : Bool) → (a && b) ≡ true → b ≡ true
both_right true b e = e
both_right false b e = absurd (false≢true e)

eq_of : (m n : ℕ) → (m == n) ≡ true → m ≡ n
eq_of m n e = grind arith

of_eq : (n : ℕ) → (n == n) ≡ true
of_eq n = grind arith

same_itself : (edge : ReadEdge) → is_same_edge edge edge ≡ true
same_itself edge =
    ap (λ (b : Bool). (b && (edge.place == edge.place)) && ((edge.sub.vertex == edge.sub.vertex) && (edge.sub.subtask == edge.sub.subtask))) (of_eq edge.into)
    ∙ ap (λ (b : Bool). b && ((edge.sub.vertex == edge.sub.vertex) && (edge.sub.subtask == edge.sub.subtask))) (of_eq edge.place)
    ∙ ap (λ (b : Bool). b && (edge.sub.subtask == edge.sub.subtask)) (of_eq edge.sub.vertex)
    ∙ of_eq edge.sub.subtask

same_edge : (a b : ReadEdge) → is_same_edge a b ≡ true → a ≡ b
same_edge a b e =
    let front = both_left ((a.into == b.into) && (a.place == b.place)) ((a.sub.vertex == b.sub.vertex) && (a.sub.subtask == b.sub.subtask)) e in
    let back = both_right ((a.into == b.into) && (a.place == b.place)) ((a.sub.vertex == b.sub.vertex) && (a.sub.subtask == b.sub.subtask)) e in
    let i = eq_of a.into b.into (both_left (a.into == b.into) (a.place == b.place) front) in
    let p = eq_of a.place b.place (both_right (a.into == b.into) (a.place == b.place) front) in
    let v = eq_of a.sub.vertex b.sub.vertex (both_left (a.sub.vertex == b.sub.vertex) (a.sub.subtask == b.sub.subtask) back) in
    let k = eq_of a.sub.subtask b.sub.subtask (both_right (a.sub.vertex == b.sub.vertex) (a.sub.subtask == b.sub.subtask) back) in
    (λ x. record { into = i x; place = p x; sub = record { vertex = v x; subtask = k x } })

-- what holds of each edge and the name that stands there holds of the edge and its name
pub at_named : (R : ReadEdge → PartName → Type 0) (edges : List ReadEdge) (names : List PartName) → AllZip R edges names
    → (edge : ReadEdge) → Contains edges edge → R edge (named edges names edge)
at_named R [] names all edge has = absurd (in_nothing edge has)
at_named R (first ∷ edges) [] all edge has = absurd all
at_named R (first ∷ edges) (name ∷ names) all edge has = by_first (is_same_edge first edge) refl (at_named R edges names all.1 edge)
  where
    by_first : (b : Bool) → is_same_edge first edge ≡ b → (Contains edges edge → R edge (named edges names edge)) → R edge (if b then name else named edges names edge)
    by_first true is rest = subst (λ (e : ReadEdge). R e name) (same_edge first edge is) all.0
    by_first false is rest = ⊎_elim
        (λ (one : Contains (first ∷ []) edge). absurd (false≢true (sym is ∙ ap (is_same_edge first) (in_one first edge one) ∙ same_itself first)))
        (λ (more : Contains edges edge). rest more)
        (Contains-append_cases (first ∷ []) edges edge has)

-- ---- a cell that is read is of a producer that is touched

untouched : (rects : List Rect) (p s : ℕ) → touches_producer rects p ≡ false → list_all (λ rect. eqb (cond (is_inside rect p s) 1 0) 0) rects ≡ true
untouched [] p s e = refl
untouched (rect ∷ rects) p s e =
    let (here, rest) = both_false (nat_le rect.p0 p && nat_lt p rect.p1) (touches_producer rects p) e in
    ap (λ (b : Bool). eqb (cond (b && (nat_le rect.s0 s && nat_lt s rect.s1)) 1 0) 0 && list_all (λ rect. eqb (cond (is_inside rect p s) 1 0) 0) rects) here
    ∙ untouched rects p s rest
  where
    both_false : (a b : Bool) → (a || b) ≡ false → (a ≡ false) × (b ≡ false)
    both_false true b e = absurd (false≢true (sym e))
    both_false false b e = (refl, e)

times_none : (rects : List Rect) (p s : ℕ) → touches_producer rects p ≡ false → times rects p s ≡ 0
times_none rects p s e = eq_of (times rects p s) 0 (sum_by-zero (λ (rect : Rect). cond (is_inside rect p s) 1 0) rects ∙ untouched rects p s e)

in_range : (count p : ℕ) → p < count → Contains (range_with_len 0 count) p
in_range count p lt =
    let at : get_or (range_with_len 0 count) p 0 ≡ p = get_or-range_with_len 0 count p 0 lt ∙ omega arith in
    subst (λ (n : ℕ). Contains (range_with_len 0 count) n) at (Contains-get_or (range_with_len 0 count) p 0 (subst (λ (n : ℕ). p < n) (sym (length-range_with_len 0 count)) lt))

in_filter : (f : ℕ → Bool) (xs : List ℕ) (x : ℕ) → f x ≡ true → Contains xs x → Contains (filter f xs) x
in_filter f [] x is has = absurd (in_nothing x has)
in_filter f (y ∷ ys) x is has = ⊎_elim
    (λ (one : Contains (y ∷ []) x).
    let same : x ≡ y = in_one y x one in
    let passes : f y ≡ true = ap f (sym same) ∙ is in
    subst (λ (b : Bool). Contains (if b then y ∷ filter f ys else filter f ys) x) (sym passes)
    (subst (λ (z : ℕ). Contains (y ∷ filter f ys) z) (sym same) (Contains-get_or (y ∷ filter f ys) 0 y (omega arith))))
    (λ (more : Contains ys x). either (f y) (in_filter f ys x is more))
    (Contains-append_cases (y ∷ []) ys x has)
  where
    either : (b : Bool) → Contains (filter f ys) x → Contains (if b then y ∷ filter f ys else filter f ys) x
    either true rest = Contains-append_right (y ∷ []) (filter f ys) x rest
    either false rest = rest

touched_edge : (vs : List MadeVertex) (input : VertexInput) (node : ℕ) (rects : List Rect) (p : ℕ) → p < length (subtasks_at vs (maker vs node)) → touches_producer rects p ≡ true
    → Contains (node_edges vs input rects node) (read_edge input (maker vs node) p)
touched_edge vs input node rects p lt is =
    let count = length (subtasks_at vs (maker vs node)) in
    in_map (read_edge input (maker vs node)) (touched rects count) p (in_filter (touches_producer rects) (range_with_len 0 count) p is (in_range count p lt))

-- ---- what is read of parts whose cells are equal bags

module _ (go_cells : CellsGo) (go_rows : RowsGo) (given : Given) (stored : Stored) (vs : List MadeVertex) (part other : ReadEdge → PartName) where
  -- the two parts have equal bags in each cell that the edge leads to
  abbrev Agree : ReadEdge → Type 0
  Agree edge = (cell : ℕ) → SameBag (stored.parts (part edge) (output_of vs edge) cell) (stored.parts (other edge) (output_of vs edge) cell)

  -- so they do at each of these edges, where the producer is decided and has the subtask
  abbrev pub AllAgree : List ReadEdge → Type 0
  AllAgree edges = (edge : ReadEdge) → Contains edges edge → edge.sub.subtask < length (subtasks_at vs edge.sub.vertex) → Agree edge

  abbrev rows_from : VertexInput → (ReadEdge → PartName) → Option ℕ → ℕ → ℕ → List Row
  rows_from input which from p s = option_map_or
      (λ node. let edge = read_edge input (maker vs node) p in stored.parts (which edge) (output_of vs edge) s)
      from (file_rows stored.files (op_at given.nodes input.into) p)

  one_reading : (input : VertexInput) (rects : List Rect) → AllAgree (input_edges vs input rects)
      → SameBag (reading (input_grid given vs input) (cell_rows given stored vs part input) rects) (reading (input_grid given vs input) (cell_rows given stored vs other input) rects)
  one_reading input rects agree = by_from input.from agree
    where
      by_from : (from : Option ℕ) → AllAgree (option_map_or (node_edges vs input rects) from [])
          → SameBag (reading (option_map_or (node_grid given vs input) from (file_grid given input.into)) (rows_from input part from) rects)
          (reading (option_map_or (node_grid given vs input) from (file_grid given input.into)) (rows_from input other from) rects)
      by_from None agree = same_refl (reading (file_grid given input.into) (rows_from input part None) rects)
      by_from (Some node) agree = go_cells (node_grid given vs input node) (rows_from input part (Some node)) (rows_from input other (Some node)) rects
          (λ p s lt less. by_touch p s lt (touches_producer rects p) refl)
        where
          by_touch : (p s : ℕ) → p < length (subtasks_at vs (maker vs node)) → (b : Bool) → touches_producer rects p ≡ b
              → (times rects p s ≡ 0) ⊎ SameBag (rows_from input part (Some node) p s) (rows_from input other (Some node) p s)
          by_touch p s lt true is = inr (agree (read_edge input (maker vs node) p) (touched_edge vs input node rects p lt is) lt s)
          by_touch p s lt false is = inl (times_none rects p s is)

  all_readings : (inputs : List VertexInput) (first : ℕ) (reads : Reads) → AllAgree (inputs_edges vs inputs first reads)
      → AllZip SameBag (readings (map (input_cells given stored vs part) inputs) first reads) (readings (map (input_cells given stored vs other) inputs) first reads)
  all_readings [] first reads agree = tt
  all_readings (input ∷ inputs) first reads agree =
      let here = input_edges vs input (rects_of reads first) in
      let rest = inputs_edges vs inputs (suc first) reads in (
        one_reading input (rects_of reads first) (λ edge has. agree edge (Contains-append_left here rest edge has)),
        all_readings inputs (suc first) reads (λ edge has. agree edge (Contains-append_right here rest edge has)),
      )

  pub rows_same : (widened : List Widening) (sub : Sub) → AllAgree (read_edges vs sub)
      → SameBag (subtask_rows given stored vs widened part sub) (subtask_rows given stored vs widened other sub)
  rows_same widened sub agree =
      let vertex = (vertex_at vs sub.vertex).vertex in
      let reads = (subtask_at vs sub).reads in
      go_rows given.nodes widened vertex (readings (map (input_cells given stored vs part) vertex.inputs) 0 reads) (readings (map (input_cells given stored vs other) vertex.inputs) 0 reads)
      (all_readings vertex.inputs 0 reads agree)
