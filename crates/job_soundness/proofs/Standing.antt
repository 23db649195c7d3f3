-- A part with a new name is put: the parts that were done stay true.
use Rattle.std.proofs.Common.{◌≡◌, ◌≢◌, ℕ, suc, ◌<◌, Bool, true, false, List, [], ◌∷◌, ◌++◌, length, map, refl, sym, ◌∙◌, ap, subst, arith, Contains, inl, inr, ⊎_elim, if◌then◌else◌}
use Rattle.std.specs.Prelude.{◌⊎◌, slice_index_or}
use Rattle.std.specs.Option.{option_map_or}
use Rattle.std.proofs.lemmas.List.Elements.{All-weaker, All-contains, Contains-append_left, Contains-get_or}
use Rattle.bag_laws.specs.Rows.{OneRow as Row}
use Rattle.estate.specs.Holding.{IsFresh, StoredPart}
use Rattle.estate.specs.Parts.{edges_of, is_same_name}
use Rattle.estate.specs.declared.part_name.PartName.{PartName}
use Rattle.estate.proofs.Laws.{name_itself, names_apart}
use Rattle.rect_cover.specs.Cells.{Input}
use Rattle.rect_cover.specs.Vertices.{readings}
use Rattle.task_parts.specs.Tasks.{TaskMay}
use Rattle.vertex_builder.specs.declared.vertex_input.VertexInput.{VertexInput}
use Rattle.vertex_builder.specs.declared.widening.Widening.{Widening}
use Rattle.vertex_laws.specs.VertexRows.{op_at, vertex_rows}
use Rattle.graph_model.specs.declared.event.Event.{Event}
use Rattle.graph_model.specs.declared.event.Event.TheVariants.{Opened, Started, Made, Widened, Decided, Done, Reset, Trouble, Ended}
use Rattle.graph_model.specs.declared.made_vertex.MadeVertex.{MadeVertex}
use Rattle.graph_model.specs.Legal.{after}
use Rattle.graph_model.specs.Reading.{output_of}
use Rattle.graph_model.specs.Reads.{ReadEdge, input_grid, read_edge, read_edges}
use Rattle.graph_model.specs.States.{Given, State, maker, sub_of, subtask_at, vertex_at}
use Rattle.plan_composition.specs.Tasks.{IsTruePart, file_rows, is_same_edge, named, no_part}
use Rattle.job_soundness.specs.Decoded.{AreRows, rows_in}
use Rattle.job_soundness.specs.Jobs.{Files, Job}
use Rattle.job_soundness.specs.Truth.{WasPut, part_rows, stored_in, IsDoneTruly, IsTrueEvent, AreTrue}

-- ---- names

put_more : (part : StoredPart) (ever : List StoredPart) (name : PartName) → WasPut ever name → WasPut (ever ++ part ∷ []) name
put_more part ever name (p, has, is) = (p, Contains-append_left ever (part ∷ []) p has, is)

pub put_apart : (part : StoredPart) (ever : List StoredPart) (name : PartName) → IsFresh part.name ever → WasPut ever name → part.name ≢ name
put_apart part ever name fresh (p, has, is) same = fresh p has (is ∙ sym same)

no_part_apart : (part : StoredPart) → 0 < part.name.epoch → part.name ≢ no_part
no_part_apart part first same = let epoch : part.name.epoch ≡ 0 = ap (λ (n : PartName). n.epoch) same in omega (arith, first, epoch)

-- the edges of another name
edges_before : (part : StoredPart) (ever : List StoredPart) (name : PartName) → part.name ≢ name → edges_of name (ever ++ part ∷ []) ≡ edges_of name ever
edges_before part [] name apart = ap (λ (b : Bool). if b then part.edges else []) (names_apart part.name name apart)
edges_before part (p ∷ ever) name apart = ap (λ (l : List (List (List ℕ))). if is_same_name p.name name then p.edges else l) (edges_before part ever name apart)

-- and of the new one
pub edges_new : (part : StoredPart) (ever : List StoredPart) → IsFresh part.name ever → edges_of part.name (ever ++ part ∷ []) ≡ part.edges
edges_new part [] fresh = ap (λ (b : Bool). if b then part.edges else []) (name_itself part.name)
edges_new part (p ∷ ever) fresh =
    let apart : p.name ≢ part.name = fresh p (Contains-get_or (p ∷ ever) 0 p (omega arith)) in
    ap (λ (b : Bool). if b then p.edges else edges_of part.name (ever ++ part ∷ [])) (names_apart p.name part.name apart)
    ∙ edges_new part ever (λ other has. fresh other (Contains-behind p ever other has))
  where
    Contains-behind : (p : StoredPart) (ever : List StoredPart) (other : StoredPart) → Contains ever other → Contains (p ∷ ever) other
    Contains-behind p ever other (k, lt, is) = (suc k, omega (arith, lt), is)

abbrev cell_in : List (List (List ℕ)) → ℕ → ℕ → List ℕ
cell_in edges edge cell = slice_index_or (slice_index_or edges edge []) cell []

abbrev rows_at : List (List (List ℕ)) → ℕ → ℕ → List Row
rows_at edges edge cell = rows_in (cell_in edges edge cell)

rows_before : (part : StoredPart) (ever : List StoredPart) (name : PartName) → part.name ≢ name → part_rows (ever ++ part ∷ []) name ≡ part_rows ever name
rows_before part ever name apart = ap rows_at (edges_before part ever name apart)

-- a part that is read is among the inputs, or none
among : (edges : List ReadEdge) (inputs : List PartName) (edge : ReadEdge) → Contains inputs (named edges inputs edge) ⊎ (named edges inputs edge ≡ no_part)
among [] inputs edge = inr refl
among (first ∷ edges) [] edge = inr refl
among (first ∷ edges) (name ∷ inputs) edge = by (is_same_edge first edge) (among edges inputs edge)
  where
    by : (b : Bool) → Contains inputs (named edges inputs edge) ⊎ (named edges inputs edge ≡ no_part)
        → Contains (name ∷ inputs) (if b then name else named edges inputs edge) ⊎ ((if b then name else named edges inputs edge) ≡ no_part)
    by true rest = inl (Contains-get_or (name ∷ inputs) 0 name (omega arith))
    by false (inl (k, lt, is)) = inl (suc k, omega (arith, lt), is)
    by false (inr none) = inr none

-- ---- what a task reads, of what each edge gives

module _ (given : Given) (files : Files) (vertices : List MadeVertex) (widened : List Widening) (name : PartName) where
  abbrev input_by : (ReadEdge → ℕ → ℕ → List Row) → VertexInput → Input
  input_by rows input = record {
    grid = input_grid given vertices input;
    rows = λ p s. option_map_or (λ node. let edge = read_edge input (maker vertices node) p in rows edge (output_of vertices edge) s) input.from (file_rows files (op_at given.nodes input.into) p);
  }

  abbrev rows_by : (ReadEdge → ℕ → ℕ → List Row) → List Row
  rows_by rows =
      let vertex = (vertex_at vertices (sub_of name).vertex).vertex in
      vertex_rows given.nodes widened vertex (readings (map (input_by rows) vertex.inputs) 0 (subtask_at vertices (sub_of name)).reads)

  may_put : (inputs : List PartName) (part : StoredPart) (ever : List StoredPart) → part.name ≢ name → ((edge : ReadEdge) → part.name ≢ named (read_edges vertices (sub_of name)) inputs edge)
      → IsTruePart given (stored_in files ever) vertices widened name inputs → IsTruePart given (stored_in files (ever ++ part ∷ [])) vertices widened name inputs
  may_put inputs part ever apart others may =
      let read = named (read_edges vertices (sub_of name)) inputs in
      let outputs = (vertex_at vertices (sub_of name).vertex).vertex.outputs in
      let new : ReadEdge → ℕ → ℕ → List Row = λ edge. part_rows (ever ++ part ∷ []) (read edge) in
      let old : ReadEdge → ℕ → ℕ → List Row = λ edge. part_rows ever (read edge) in
      let same : new ≡ old = λ i edge. rows_before part ever (read edge) (others edge) i in
      let before : TaskMay name.attempt outputs (rows_by old) (part_rows ever name) = may in
      let own = subst (λ (rows : ℕ → ℕ → List Row). TaskMay name.attempt outputs (rows_by old) rows) (sym (rows_before part ever name apart)) before in
      subst (λ (rows : List Row). TaskMay name.attempt outputs rows (part_rows (ever ++ part ∷ []) name)) (sym (ap rows_by same)) own

-- ---- events

module _ (job : Job) (files : Files) (ever : List StoredPart) (part : StoredPart) (fresh : IsFresh part.name ever) (first : 0 < part.name.epoch) where
  done_put : (state : State) (name : PartName) (inputs : List PartName) (sizes : List (List ℕ)) → IsDoneTruly job files ever state name inputs sizes → IsDoneTruly job files (ever ++ part ∷ []) state name inputs sizes
  done_put state name inputs sizes done =
      let apart : part.name ≢ name = put_apart part ever name fresh done.put in
      let edges = edges_before part ever name apart in
      let read = named (read_edges state.vertices (sub_of name)) inputs in
      let others : (edge : ReadEdge) → part.name ≢ read edge = λ edge. ⊎_elim
      (λ (has : Contains inputs (read edge)). put_apart part ever (read edge) fresh (All-contains (WasPut ever) inputs (read edge) done.read has))
      (λ (none : read edge ≡ no_part). subst (λ (n : PartName). part.name ≢ n) (sym none) (no_part_apart part first))
      (among (read_edges state.vertices (sub_of name)) inputs edge) in
      record {
        put = put_more part ever name done.put;
        read = All-weaker (WasPut ever) (WasPut (ever ++ part ∷ [])) (put_more part ever) inputs done.read;
        sized = done.sized ∙ ap (λ (l : List (List (List ℕ))). map (λ cells. map length cells) l) (sym edges);
        rows = λ edge cell. subst (λ (l : List (List (List ℕ))). AreRows (cell_in l edge cell)) (sym edges) (done.rows edge cell);
        may = may_put job.given files state.vertices state.widened name inputs part ever apart others done.may;
      }

  event_put : (state : State) (event : Event) → IsTrueEvent job files ever state event → IsTrueEvent job files (ever ++ part ∷ []) state event
  event_put state (Opened epoch) is = tt
  event_put state (Started text sizes) is = tt
  event_put state (Made vertex nodes) is = tt
  event_put state (Widened node side) is = tt
  event_put state (Decided vertex decision) is = tt
  event_put state (Done name inputs sizes) is = done_put state name inputs sizes is
  event_put state (Reset gone subs) is = tt
  event_put state (Trouble cause) is = tt
  event_put state (Ended failed) is = tt

  pub true_put : (state : State) (events : List Event) → AreTrue job files ever state events → AreTrue job files (ever ++ part ∷ []) state events
  true_put state [] are = tt
  true_put state (event ∷ events) (is, are) = (event_put state event is, true_put (after job.given state event) events are)
