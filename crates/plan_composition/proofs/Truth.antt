-- A part that was true when it came stays true.
use Rattle.std.proofs.Common.{◌≡◌, ◌≢◌, ℕ, ◌<◌, List, [], ◌∷◌, ◌++◌, length, map, take, drop, get_or, Option, Some, None, refl, sym, ◌∙◌, ap, subst, arith, All, false, inl, inr, ⊎_elim}
use Rattle.std.specs.Prelude.{⊤, ◌⊎◌, IsTrue, nat_eq, if◌then◌else◌}
use Rattle.std.specs.Option.{MatchOption, option_map_or}
use Rattle.std.proofs.lemmas.Bool.{false≢true}
use Rattle.std.proofs.lemmas.List.Elements.{All-head, All-tail, All-weaker}
use Rattle.bag_laws.specs.Rows.{OneRow as Row}
use Rattle.estate.specs.declared.part_name.PartName.{PartName}
use Rattle.plan_model.specs.Checks.{plan_faults}
use Rattle.plan_model.specs.Plans.{Bag, bag_of}
use Rattle.plan_model.specs.declared.node.Node.{Node}
use Rattle.plan_model.specs.declared.side.Side.{Side}
use Rattle.rect_cover.specs.Cells.{Input, Reads}
use Rattle.rect_cover.specs.Vertices.{readings}
use Rattle.task_parts.specs.Tasks.{TaskMay}
use Rattle.vertex_builder.specs.Chains.{is_among}
use Rattle.vertex_builder.specs.Edges.{build_side, is_join_at}
use Rattle.vertex_builder.specs.Vertices.{cells_of, head_of}
use Rattle.vertex_builder.specs.declared.vertex.Vertex.{Vertex}
use Rattle.vertex_builder.specs.declared.vertex_input.VertexInput.{VertexInput}
use Rattle.vertex_builder.specs.declared.widening.Widening.{Widening}
use Rattle.vertex_builder.proofs.Laws.{neither_left, neither_right, same_yes, widening_other}
use Rattle.vertex_laws.specs.VertexRows.{build_bag, builds_left, chain_bag, head_bag, head_count, input_bags, no_files, op_at, taken_bags, vertex_rows, widths_at}
use Rattle.graph_model.specs.declared.event.Event.{Event}
use Rattle.graph_model.specs.declared.event.Event.TheVariants.{Opened, Started, Made, Widened, Decided, Done, Reset, Trouble, Ended}
use Rattle.graph_model.specs.declared.made_vertex.MadeVertex.{MadeVertex}
use Rattle.graph_model.specs.declared.sub.Sub.{Sub}
use Rattle.graph_model.specs.declared.win.Win.{Win}
use Rattle.graph_model.specs.Folds.{HasFold, fold_from}
use Rattle.graph_model.specs.Legal.{IsLegal, MayWiden, after}
use Rattle.graph_model.specs.Links.{output_number}
use Rattle.graph_model.specs.Reading.{output_of}
use Rattle.graph_model.specs.Reads.{ReadEdge, file_grid, inputs_edges, node_grid, read_edge, read_edges}
use Rattle.graph_model.specs.States.{Given, State, started, maker, is_decided, no_subtask, put_winner, sub_of, subtask_at, subtasks_at, vertex_at, winner_at}
use Rattle.graph_model.specs.Valid.{IsFed, IsValid}
use Rattle.graph_model.proofs.Laws.{KeepsFed, KeepsReads, SameInput, SameNode, among_made, cases_sub, in_range, inputs_edges-same, keeps_decided, keeps_made, none_is_some, put-keeps, put-other, put-same, reads_at, same_node, some_is, valid_after, valid_started, without-keeps, without-was, won_decided}
use Rattle.plan_composition.specs.Tasks.{Stored, AreTrue, IsTrueEvent, IsTruePart, file_rows, input_cells, named}

-- ---- where what a decided subtask reads stays

record KeepsTasks (vs us : List MadeVertex) : Type 0 where
  pub node : (node : ℕ) → IsTrue (is_decided (vertex_at vs (maker vs node))) → SameNode us vs node
  pub source : (node : ℕ) → IsTrue (is_decided (vertex_at vs (maker vs node))) → (vertex_at us (maker us node)).vertex ≡ (vertex_at vs (maker vs node)).vertex
  pub vertex : (v : ℕ) → 0 < length (subtasks_at vs v) → (vertex_at us v).vertex ≡ (vertex_at vs v).vertex
  pub reads : (sub : Sub) → 0 < length (subtasks_at vs sub.vertex) → (subtask_at us sub).reads ≡ (subtask_at vs sub).reads

of_reads : (vs us : List MadeVertex) → KeepsReads vs us → KeepsTasks vs us
of_reads vs us keeps = record {
  node = λ node is. same_node vs us keeps node;
  source = λ node is. ap (λ (n : ℕ). (vertex_at us n).vertex) (keeps.makers node) ∙ keeps.vertex (maker vs node);
  vertex = λ v some. keeps.vertex v;
  reads = λ sub some. reads_at (subtasks_at us sub.vertex) sub.subtask ∙ ap (λ (l : List Reads). get_or l sub.subtask []) (keeps.reads sub.vertex) ∙ sym (reads_at (subtasks_at vs sub.vertex) sub.subtask);
}

of_fed : (vs us : List MadeVertex) → KeepsFed vs us → KeepsTasks vs us
of_fed vs us keeps = record {
  node = keeps.node;
  source = keeps.vertex;
  vertex = λ v some. ap (λ (m : MadeVertex). m.vertex) (keeps.still v some);
  reads = λ sub some. ap (λ (m : MadeVertex). (get_or m.subtasks sub.subtask no_subtask).reads) (keeps.still sub.vertex some);
}

module _ (given : Given) (stored : Stored) (vs us : List MadeVertex) (keeps : KeepsTasks vs us) where
  input_same : (read : ReadEdge → PartName) (input : VertexInput) → IsFed vs input → input_cells given stored us read input ≡ input_cells given stored vs read input
  input_same read input fed = by_from input.from fed
    where
      at : List MadeVertex → Option ℕ → Input
      at l from = record {
        grid = option_map_or (node_grid given l input) from (file_grid given input.into);
        rows = λ p s. option_map_or (λ node. let edge = read_edge input (maker l node) p in stored.parts (read edge) (output_of l edge) s) from (file_rows stored.files (op_at given.nodes input.into) p);
      }

      by_from : (from : Option ℕ) → MatchOption from ⊤ (λ node. IsTrue (is_decided (vertex_at vs (maker vs node)))) → at us from ≡ at vs from
      by_from None fed = refl
      by_from (Some node) fed =
          let of : ℕ → ℕ → Vertex → Input = λ m c vertex. record {
            grid = record { producers = c; cells = cells_of given.settings.max_parallelism input.ship; sizes = [] };
            rows = λ p s. stored.parts (read (read_edge input m p)) (output_number vertex.outputs input.into input.place) s;
          } in
          ap (λ (m : ℕ). of m (length (subtasks_at us (maker us node))) (vertex_at us (maker us node)).vertex) (keeps.node node fed).0
          ∙ ap (λ (c : ℕ). of (maker vs node) c (vertex_at us (maker us node)).vertex) (keeps.node node fed).1
          ∙ ap (of (maker vs node) (length (subtasks_at vs (maker vs node)))) (keeps.source node fed)

  inputs_same : (read : ReadEdge → PartName) (inputs : List VertexInput) → All (IsFed vs) inputs → map (input_cells given stored us read) inputs ≡ map (input_cells given stored vs read) inputs
  inputs_same read [] fed = refl
  inputs_same read (input ∷ inputs) fed =
      ap (λ (i : Input). i ∷ map (input_cells given stored us read) inputs) (input_same read input (All-head (IsFed vs) input inputs fed))
      ∙ ap (λ (l : List Input). input_cells given stored vs read input ∷ l) (inputs_same read inputs (All-tail (IsFed vs) input inputs fed))

  from_same : (from : Option ℕ) → MatchOption from ⊤ (λ node. IsTrue (is_decided (vertex_at vs (maker vs node)))) → MatchOption from ⊤ (λ node. SameNode us vs node)
  from_same None fed = tt
  from_same (Some node) fed = keeps.node node fed

  true_kept : (widened : List Widening) (name : PartName) (inputs : List PartName) → 0 < length (subtasks_at vs name.vertex) → All (IsFed vs) (vertex_at vs name.vertex).vertex.inputs
      → IsTruePart given stored vs widened name inputs → IsTruePart given stored us widened name inputs
  true_kept widened name inputs some fed is =
      let sub = sub_of name in
      let vertex = (vertex_at vs sub.vertex).vertex in
      let reads = (subtask_at vs sub).reads in
      let P : List MadeVertex → List ReadEdge → Vertex → Reads → Type 0 = λ l edges x r.
      TaskMay name.attempt x.outputs (vertex_rows given.nodes widened x (readings (map (input_cells given stored l (named edges inputs)) x.inputs) 0 r)) (stored.parts name) in
      let before : P vs (read_edges vs sub) vertex reads = is in
      let of : List Input → List Row = λ l. vertex_rows given.nodes widened vertex (readings l 0 reads) in
      let here : P us (read_edges vs sub) vertex reads =
      subst (λ (rows : List Row). TaskMay name.attempt vertex.outputs rows (stored.parts name)) (sym (ap of (inputs_same (named (read_edges vs sub) inputs) vertex.inputs fed))) before in
      let again : read_edges us sub ≡ read_edges vs sub =
      ap (λ (x : Vertex). inputs_edges us x.inputs 0 (subtask_at us sub).reads) (keeps.vertex sub.vertex some)
      ∙ ap (λ (r : Reads). inputs_edges us vertex.inputs 0 r) (keeps.reads sub some)
      ∙ inputs_edges-same us vs vertex.inputs 0 reads (All-weaker (IsFed vs) (SameInput us vs) (λ input. from_same input.from) vertex.inputs fed) in
      let a = subst (λ (edges : List ReadEdge). P us edges vertex reads) (sym again) here in
      let b = subst (λ (x : Vertex). P us (read_edges us sub) x reads) (sym (keeps.vertex sub.vertex some)) a in
      subst (λ (r : Reads). P us (read_edges us sub) (vertex_at us sub.vertex).vertex r) (sym (keeps.reads sub some)) b

-- ---- a widening

module _ (nodes : List Node) (old : List Widening) (more : Widening) where
  chain_same : (chain : List ℕ) (bag : Bag) (builds : List (List Row)) → is_among chain more.node ≡ false
      → chain_bag nodes (old ++ more ∷ []) chain bag builds ≡ chain_bag nodes old chain bag builds
  chain_same [] bag builds apart = refl
  chain_same (node ∷ chain) bag builds apart =
      let new = old ++ more ∷ [] in
      let none = neither_left (nat_eq more.node node) (is_among chain more.node) apart in
      let ne : more.node ≢ node = λ same. false≢true (sym none ∙ ap (nat_eq more.node) (sym same) ∙ same_yes more.node) in
      let side : build_side nodes new node ≡ build_side nodes old node = ap (λ (o : Option Side). if is_join_at nodes node then o else None) (widening_other old more node ne) in
      let of : Option Side → Bag = λ s. chain_bag nodes new chain (bag_of no_files (op_at nodes node) (taken_bags s bag (build_bag nodes node s builds))) (builds_left s builds) in
      let s = build_side nodes old node in
      ap of side ∙ chain_same chain (bag_of no_files (op_at nodes node) (taken_bags s bag (build_bag nodes node s builds))) (builds_left s builds) (neither_right (nat_eq more.node node) (is_among chain more.node) apart)

  rest_apart : (chain : List ℕ) → is_among chain more.node ≡ false → is_among (drop 1 chain) more.node ≡ false
  rest_apart [] apart = apart
  rest_apart (node ∷ chain) apart = neither_right (nat_eq more.node node) (is_among chain more.node) apart

  rows_widened : (vertex : Vertex) (read : List (List Row)) → is_among vertex.nodes more.node ≡ false
      → vertex_rows nodes (old ++ more ∷ []) vertex read ≡ vertex_rows nodes old vertex read
  rows_widened vertex read apart =
      let head = head_of vertex in
      let count = head_count nodes vertex in
      ap (λ (bag : Bag). bag.rows) (chain_same (drop 1 vertex.nodes) (head_bag (op_at nodes head) (input_bags (widths_at nodes head) (take count read)))
      (drop count read) (rest_apart vertex.nodes apart))

true_widened : (given : Given) (stored : Stored) (state : State) (node : ℕ) (side : Side) (name : PartName) (inputs : List PartName) → MayWiden given state node side
    → 0 < length (subtasks_at state.vertices name.vertex) → IsTruePart given stored state.vertices state.widened name inputs
    → IsTruePart given stored state.vertices (state.widened ++ record { node = node; side = side } ∷ []) name inputs
true_widened given stored state node side name inputs may some is =
    let vs = state.vertices in
    let sub = sub_of name in
    let vertex = (vertex_at vs sub.vertex).vertex in
    let read = readings (map (input_cells given stored vs (named (read_edges vs sub) inputs)) vertex.inputs) 0 (subtask_at vs sub).reads in
    let apart = among_made vs sub.vertex node (in_range vs sub.vertex some) may.unmade in
    subst (λ (rows : List Row). TaskMay name.attempt vertex.outputs rows (stored.parts name))
    (sym (rows_widened given.nodes state.widened (record { node = node; side = side }) vertex read apart)) is

-- ---- events

-- what is true of a decided subtask stays true
pub stays_true : (given : Given) (stored : Stored) (state : State) (event : Event) → plan_faults given.nodes ≡ [] → IsValid given state → IsLegal given state event
    → (name : PartName) (inputs : List PartName) → 0 < length (subtasks_at state.vertices name.vertex)
    → IsTruePart given stored state.vertices state.widened name inputs
    → IsTruePart given stored (after given state event).vertices (after given state event).widened name inputs
stays_true given stored state (Opened epoch) good valid legal name inputs some is = is
stays_true given stored state (Started job files) good valid legal name inputs some is = is
stays_true given stored state (Made v nodes) good valid legal name inputs some is =
    let us = (after given state (Made v nodes)).vertices in
    true_kept given stored state.vertices us (of_fed state.vertices us (keeps_made given state v nodes good valid legal)) state.widened name inputs some (valid.decided name.vertex some).fed is
stays_true given stored state (Widened node side) good valid legal name inputs some is = true_widened given stored state node side name inputs legal some is
stays_true given stored state (Decided v decision) good valid legal name inputs some is =
    let us = (after given state (Decided v decision)).vertices in
    true_kept given stored state.vertices us (of_fed state.vertices us (keeps_decided given state v decision valid legal)) state.widened name inputs some (valid.decided name.vertex some).fed is
stays_true given stored state (Done own reads sizes) good valid legal name inputs some is =
    let us = (after given state (Done own reads sizes)).vertices in
    let win : Win = record { name = own; inputs = reads; sizes = sizes } in
    true_kept given stored state.vertices us (of_reads state.vertices us (put-keeps state.vertices (sub_of own) (Some win))) state.widened name inputs some (valid.decided name.vertex some).fed is
stays_true given stored state (Reset gone subs) good valid legal name inputs some is =
    let us = (after given state (Reset gone subs)).vertices in
    true_kept given stored state.vertices us (of_reads state.vertices us (without-keeps state.vertices subs)) state.widened name inputs some (valid.decided name.vertex some).fed is
stays_true given stored state (Trouble cause) good valid legal name inputs some is = is
stays_true given stored state (Ended failed) good valid legal name inputs some is = is

-- a winner is one of before, or the part that is done
abbrev WasWinner : State → Event → Sub → Win → Type 0
WasWinner state (Done name inputs sizes) sub win = (winner_at state.vertices sub ≡ Some win) ⊎ (record { name = name; inputs = inputs; sizes = sizes } ≡ win)
WasWinner state event sub win = winner_at state.vertices sub ≡ Some win

was_winner : (given : Given) (state : State) (event : Event) → plan_faults given.nodes ≡ [] → IsValid given state → IsLegal given state event
    → (sub : Sub) (win : Win) → winner_at (after given state event).vertices sub ≡ Some win → WasWinner state event sub win
was_winner given state (Opened epoch) good valid legal sub win is = is
was_winner given state (Started job files) good valid legal sub win is = is
was_winner given state (Made v nodes) good valid legal sub win is =
    let keeps = keeps_made given state v nodes good valid legal in
    ap (λ (m : MadeVertex). (get_or m.subtasks sub.subtask no_subtask).winner) (sym (keeps.won sub win is)) ∙ is
was_winner given state (Widened node side) good valid legal sub win is = is
was_winner given state (Decided v decision) good valid legal sub win is =
    let keeps = keeps_decided given state v decision valid legal in
    ap (λ (m : MadeVertex). (get_or m.subtasks sub.subtask no_subtask).winner) (sym (keeps.won sub win is)) ∙ is
was_winner given state (Done name inputs sizes) good valid legal sub win is =
    let vs = state.vertices in
    let own : Sub = sub_of name in
    let new : Win = record { name = name; inputs = inputs; sizes = sizes } in
    ⊎_elim
    (λ (same : sub ≡ own). inr (some_is new win (sym (put-same vs own (Some new) legal.unfinished.decided) ∙ subst (λ (s : Sub). winner_at (put_winner vs own (Some new)) s ≡ Some win) same is)))
    (λ (ne : sub ≡ own → ⊥). inl (sym (put-other vs own sub (Some new) ne) ∙ is))
    (cases_sub sub own)
was_winner given state (Reset gone subs) good valid legal sub win is = without-was state.vertices subs sub win is
was_winner given state (Trouble cause) good valid legal sub win is = is
was_winner given state (Ended failed) good valid legal sub win is = is

-- the winners' parts are true
abbrev pub AreWinnersTrue : Given → Stored → State → Type 0
AreWinnersTrue given stored state = (sub : Sub) (win : Win) → winner_at state.vertices sub ≡ Some win
    → IsTruePart given stored state.vertices state.widened win.name win.inputs

old_true : (given : Given) (stored : Stored) (state : State) (event : Event) → plan_faults given.nodes ≡ [] → IsValid given state → IsLegal given state event → AreWinnersTrue given stored state
    → (sub : Sub) (win : Win) → winner_at state.vertices sub ≡ Some win
    → IsTruePart given stored (after given state event).vertices (after given state event).widened win.name win.inputs
old_true given stored state event good valid legal are sub win was =
    let own : win.name.vertex ≡ sub.vertex = ap (λ (s : Sub). s.vertex) (valid.winners sub win was).own in
    let some = subst (λ (v : ℕ). 0 < length (subtasks_at state.vertices v)) (sym own) (won_decided state.vertices sub win was) in
    stays_true given stored state event good valid legal win.name win.inputs some (are sub win was)

true_after : (given : Given) (stored : Stored) (state : State) (event : Event) → plan_faults given.nodes ≡ [] → IsValid given state → IsLegal given state event → AreWinnersTrue given stored state → IsTrueEvent given stored state event
    → AreWinnersTrue given stored (after given state event)
true_after given stored state (Done name inputs sizes) good valid legal are is sub win won =
    let event : Event = Done name inputs sizes in
    let us = (after given state event).vertices in
    ⊎_elim
    (λ (was : winner_at state.vertices sub ≡ Some win). old_true given stored state event good valid legal are sub win was)
    (λ (new : record { name = name; inputs = inputs; sizes = sizes } ≡ win).
    subst (λ (w : Win). IsTruePart given stored us state.widened w.name w.inputs) new
    (stays_true given stored state event good valid legal name inputs (omega (arith, legal.unfinished.decided)) is))
    (was_winner given state event good valid legal sub win won)
true_after given stored state (Opened epoch) good valid legal are is sub win won = old_true given stored state (Opened epoch) good valid legal are sub win (was_winner given state (Opened epoch) good valid legal sub win won)
true_after given stored state (Started job files) good valid legal are is sub win won = old_true given stored state (Started job files) good valid legal are sub win (was_winner given state (Started job files) good valid legal sub win won)
true_after given stored state (Made v nodes) good valid legal are is sub win won = old_true given stored state (Made v nodes) good valid legal are sub win (was_winner given state (Made v nodes) good valid legal sub win won)
true_after given stored state (Widened node side) good valid legal are is sub win won = old_true given stored state (Widened node side) good valid legal are sub win (was_winner given state (Widened node side) good valid legal sub win won)
true_after given stored state (Decided v decision) good valid legal are is sub win won = old_true given stored state (Decided v decision) good valid legal are sub win (was_winner given state (Decided v decision) good valid legal sub win won)
true_after given stored state (Reset gone subs) good valid legal are is sub win won = old_true given stored state (Reset gone subs) good valid legal are sub win (was_winner given state (Reset gone subs) good valid legal sub win won)
true_after given stored state (Trouble cause) good valid legal are is sub win won = old_true given stored state (Trouble cause) good valid legal are sub win (was_winner given state (Trouble cause) good valid legal sub win won)
true_after given stored state (Ended failed) good valid legal are is sub win won = old_true given stored state (Ended failed) good valid legal are sub win (was_winner given state (Ended failed) good valid legal sub win won)

true_from : (given : Given) (stored : Stored) (state : State) (events : List Event) → plan_faults given.nodes ≡ [] → IsValid given state → AreWinnersTrue given stored state → HasFold given state events → AreTrue given stored state events
    → AreWinnersTrue given stored (fold_from given state events)
true_from given stored state [] good valid are legal events = are
true_from given stored state (event ∷ events) good valid are (here, rest) (is, more) =
    true_from given stored (after given state event) events good (valid_after given state event good valid here) (true_after given stored state event good valid here are is) rest more

pub winners_true : (given : Given) (stored : Stored) (events : List Event) → plan_faults given.nodes ≡ [] → HasFold given started events → AreTrue given stored started events
    → AreWinnersTrue given stored (fold_from given started events)
winners_true given stored events good legal are = true_from given stored started events good (valid_started given) (λ sub win is. absurd (none_is_some win is)) legal are
