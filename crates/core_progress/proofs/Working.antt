-- Events that take work away.
use Rattle.std.proofs.Common.{◌≡◌, ℕ, zero, suc, ◌+◌, ◌*◌, ◌<◌, ◌≤◌, ◌^◌, Bool, true, false, cond, not, ◌||◌, ◌==◌, List, [], ◌∷◌, ◌++◌, length, map, get_or, set, filter, find, option_map, sum_by, count_by, slice_get, Option, Some, None, IsTrue, refl, sym, ◌∙◌, ap, subst, arith, Contains, append_assoc, if◌then◌else◌, nat_lt, nat_eq}
use Rattle.std.specs.List.{list_any, range_with_len}
use Rattle.std.specs.Option.{is_none}
use Rattle.std.proofs.lemmas.Bool.{and_parts, or_left, or_right, lt-ltb}
use Rattle.std.proofs.lemmas.List.{length-map, length-set, append-nil}
use Rattle.std.proofs.lemmas.List.Elements.{Contains-get_or}
use Rattle.std.proofs.lemmas.List.Folds.{list_any-append}
use Rattle.std.proofs.lemmas.List.FromFn.{get_or-range_with_len, length-range_with_len}
use Rattle.std.proofs.lemmas.List.Sums.{count_by-le-length, sum_by-set, sum_by_push}
use Rattle.plan_model.specs.declared.node.Node.{Node}
use Rattle.plan_model.specs.declared.side.Side.{Side}
use Rattle.vertex_builder.specs.Chains.{is_among}
use Rattle.vertex_builder.specs.Edges.{widening_of}
use Rattle.vertex_builder.specs.Vertices.{is_makeable}
use Rattle.vertex_builder.specs.declared.widening.Widening.{Widening}
use Rattle.vertex_builder.proofs.Laws.{same_yes}
use Rattle.vertex_laws.specs.VertexRows.{may_repeat, op_at}
use Rattle.rect_cover.specs.Cells.{Reads}
use Rattle.graph_model.specs.Legal.{MayDecide, MayMake, MayWiden, MayWin, heads_now, made_of}
use Rattle.graph_model.specs.States.{Given, State, complete_nodes, is_decided, made_nodes, no_subtask, no_vertex, put_decision, put_winner, sub_of, unwon, vertex_at, with_winner, won_at}
use Rattle.graph_model.specs.declared.made_vertex.MadeVertex.{MadeVertex}
use Rattle.graph_model.specs.declared.subtask_state.SubtaskState.{SubtaskState}
use Rattle.graph_model.specs.declared.win.Win.{Win}
use Rattle.estate.specs.declared.part_name.PartName.{PartName}
use Rattle.graph_model.proofs.Laws.{in_range, stands}
use Rattle.core_progress.specs.Progress.{is_unmade, is_unwidened, nodes_where, vertex_work, work_left}
use Rattle.core_progress.proofs.Counting.{count_less, in_filter, made_same}

not_from : (b : Bool) → not b ≡ true → b ≡ false
not_from true is = absurd (cc is)
not_from false is = refl

either_not : (a b : Bool) → not (a || b) ≡ true → not a ≡ true
either_not true b is = is
either_not false b is = refl

-- ---- a vertex is made

first_in : (nodes : List ℕ) (head : ℕ) → slice_get nodes 0 ≡ Some head → is_among nodes head ≡ true
first_in [] head is = absurd (cc is)
first_in (node ∷ nodes) head is =
    let same : node ≡ head = some_number node head is in
    subst (λ (n : ℕ). is_among (node ∷ nodes) n ≡ true) same (or_left (nat_eq node node) (is_among nodes node) (same_yes node))
  where
    some_number : (a b : ℕ) → Some a ≡ Some b → a ≡ b
    some_number a b is = cc is

more_made : (vs : List MadeVertex) (new : MadeVertex) → made_nodes (vs ++ new ∷ []) ≡ made_nodes vs ++ new.vertex.nodes
more_made [] new = append-nil new.vertex.nodes
more_made (m ∷ vs) new = ap (λ (l : List ℕ). m.vertex.nodes ++ l) (more_made vs new) ∙ sym (append_assoc m.vertex.nodes (made_nodes vs) new.vertex.nodes)

module _ (given : Given) (state : State) (v : ℕ) (nodes : List ℕ) (may : MayMake given state v nodes) where
  abbrev head : ℕ
  head = get_or nodes 0 0

  abbrev next : List MadeVertex
  next = state.vertices ++ made_of given state nodes ∷ []

  among_next : (node : ℕ) → is_among (made_nodes next) node ≡ (is_among (made_nodes state.vertices) node || is_among nodes node)
  among_next node = ap (λ (l : List ℕ). is_among l node) (more_made state.vertices (made_of given state nodes)) ∙ list_any-append (nat_eq node) (made_nodes state.vertices) nodes

  head_makeable : Contains (range_with_len 0 (length given.nodes)) head × (is_makeable given.nodes state.widened (made_nodes state.vertices) (complete_nodes state.vertices) head ≡ true)
  head_makeable =
      let test : ℕ → Bool = is_makeable given.nodes state.widened (made_nodes state.vertices) (complete_nodes state.vertices) in
      let all = range_with_len 0 (length given.nodes) in
      let found = stands (heads_now given state) head may.makeable in
      in_filter test all head (subst (Contains (filter test all)) found.2 (Contains-get_or (filter test all) found.0 0 found.1))

  head_unmade : is_unmade state.vertices head ≡ true
  head_unmade = (and_parts _ _ (and_parts _ _ head_makeable.1).0).1

  fewer_unmade : nodes_where given (is_unmade next) < nodes_where given (is_unmade state.vertices)
  fewer_unmade = count_less (is_unmade state.vertices) (is_unmade next)
      (λ node is. either_not (is_among (made_nodes state.vertices) node) (is_among nodes node) (sym (ap not (among_next node)) ∙ is))
      (range_with_len 0 (length given.nodes)) head head_makeable.0 head_unmade
      (ap not (among_next head ∙ or_right (is_among (made_nodes state.vertices) head) (is_among nodes head) (first_in nodes head (may.chain).first)))

  pub made_less : work_left given (record state { vertices = next }) < work_left given state
  made_less = less (sum_by vertex_work state.vertices) (sum_by vertex_work next) (nodes_where given (is_unmade state.vertices)) (nodes_where given (is_unmade next)) (nodes_where given (is_unwidened state.widened))
      (sum_by_push vertex_work state.vertices (made_of given state nodes)) fewer_unmade
    where
      less : (a b m n w : ℕ) → b ≡ a + 2 ^ 32 → n < m → b + n * (2 ^ 32 + 1) + w < a + m * (2 ^ 32 + 1) + w
      less a b m n w is lt = omega (arith, is, lt)

-- ---- a join is widened

joins_inside : (nodes : List Node) (node : ℕ) (side : Side) → IsTrue (may_repeat (op_at nodes node) side) → Contains (range_with_len 0 (length nodes)) node
joins_inside nodes node side is = in_range_of (length nodes) node (below nodes node side is)
  where
    below : (nodes : List Node) (node : ℕ) (side : Side) → IsTrue (may_repeat (op_at nodes node) side) → node < length nodes
    below [] node side is = absurd (cc is)
    below (n ∷ nodes) zero side is = omega arith
    below (n ∷ nodes) (suc node) side is = let lt = below nodes node side is in omega (arith, lt)

    in_range_of : (count node : ℕ) → node < count → Contains (range_with_len 0 count) node
    in_range_of count node lt = (node, omega (arith, lt, length-range_with_len 0 count), omega (arith, get_or-range_with_len 0 count node node lt))

lacks : (widened : List Widening) (node : ℕ) → widening_of widened node ≡ None → list_any (λ widening. widening.node == node) widened ≡ false
lacks [] node none = refl
lacks (w ∷ widened) node none = by (w.node == node) none (lacks widened node)
  where
    by : (b : Bool) → option_map (λ widening. widening.side) (cond b (Some w) (find (λ widening. widening.node == node) widened)) ≡ None
        → (widening_of widened node ≡ None → list_any (λ widening. widening.node == node) widened ≡ false) → (b || list_any (λ widening. widening.node == node) widened) ≡ false
    by true none rest = absurd (cc none)
    by false none rest = rest none

module _ (given : Given) (state : State) (node : ℕ) (side : Side) (may : MayWiden given state node side) where
  abbrev wider : List Widening
  wider = state.widened ++ record { node = node; side = side } ∷ []

  any_wider : (n : ℕ) → list_any (λ (w : Widening). w.node == n) wider ≡ (list_any (λ (w : Widening). w.node == n) state.widened || list_any (λ (w : Widening). w.node == n) (record { node = node; side = side } ∷ []))
  any_wider n = list_any-append (λ (w : Widening). w.node == n) state.widened (record { node = node; side = side } ∷ [])

  fewer_unwidened : nodes_where given (is_unwidened wider) < nodes_where given (is_unwidened state.widened)
  fewer_unwidened = count_less (is_unwidened state.widened) (is_unwidened wider)
      (λ n is. either_not (list_any (λ (w : Widening). w.node == n) state.widened) (list_any (λ (w : Widening). w.node == n) (record { node = node; side = side } ∷ [])) (sym (ap not (any_wider n)) ∙ is))
      (range_with_len 0 (length given.nodes)) node (joins_inside given.nodes node side may.repeats)
      (ap not (lacks state.widened node may.fresh))
      (ap not (any_wider node ∙ or_right (list_any (λ (w : Widening). w.node == node) state.widened) (list_any (λ (w : Widening). w.node == node) (record { node = node; side = side } ∷ [])) (or_left (node == node) false (same_yes node))))

  pub widened_less : work_left given (record state { widened = wider }) < work_left given state
  widened_less = omega (arith, fewer_unwidened)

-- ---- a vertex is decided

decided_work : (decision : List Reads) → 0 < length decision → length decision < 2 ^ 32 → (made : MadeVertex) → vertex_work (record made { subtasks = map unwon decision }) < 2 ^ 32
decided_work decision some few made = by (nat_lt 0 (length (map unwon decision)))
    (le (count_by-le-length (λ (t : SubtaskState). is_none t.winner) (map unwon decision)) (length-map decision unwon))
    (lt-ltb 0 (length (map unwon decision)) (omega (arith, some, length-map decision unwon)))
  where
    le : {m n k : ℕ} → m ≤ n → n ≡ k → m ≤ k
    le small is = omega (arith, small, is)

    by : (b : Bool) → count_by (λ (t : SubtaskState). is_none t.winner) (map unwon decision) ≤ length decision → b ≡ true → (if b then count_by (λ (t : SubtaskState). is_none t.winner) (map unwon decision) else 2 ^ 32) < 2 ^ 32
    by true small passes = omega (arith, small, few)
    by false small passes = absurd (cc passes)

undecided_work : (made : MadeVertex) → is_decided made ≡ false → vertex_work made ≡ 2 ^ 32
undecided_work made none = ap (λ (b : Bool). if b then count_by (λ (t : SubtaskState). is_none t.winner) made.subtasks else 2 ^ 32) none

set_work : (given : Given) (state : State) (v : ℕ) (made : MadeVertex) → v < length state.vertices → made.vertex ≡ (vertex_at state.vertices v).vertex → vertex_work made < vertex_work (vertex_at state.vertices v)
    → work_left given (record state { vertices = set state.vertices v made }) < work_left given state
set_work given state v made lt same less =
    let sums = sum_by-set vertex_work state.vertices v made no_vertex lt in
    let unmade : nodes_where given (is_unmade (set state.vertices v made)) ≡ nodes_where given (is_unmade state.vertices) =
    ap (λ (l : List ℕ). nodes_where given (λ node. not (is_among l node))) (made_same state.vertices v made same) in
    falls (sum_by vertex_work state.vertices) (sum_by vertex_work (set state.vertices v made)) (vertex_work (vertex_at state.vertices v)) (vertex_work made) (nodes_where given (is_unmade state.vertices)) (nodes_where given (is_unmade (set state.vertices v made))) (nodes_where given (is_unwidened state.widened))
    sums less unmade
  where
    falls : (a b x y m n w : ℕ) → b + x ≡ a + y → y < x → n ≡ m → b + n * (2 ^ 32 + 1) + w < a + m * (2 ^ 32 + 1) + w
    falls a b x y m n w sums less same = omega (arith, sums, less, same)

pub decided_less : (given : Given) (state : State) (v : ℕ) (decision : List Reads) → MayDecide given state v decision → work_left given (record state { vertices = put_decision state.vertices v decision }) < work_left given state
decided_less given state v decision may =
    let made = record (vertex_at state.vertices v) { subtasks = map unwon decision } in
    let small = decided_work decision (may.cover).some (may.cover).few (vertex_at state.vertices v) in
    let was = undecided_work (vertex_at state.vertices v) (may.decidable).undecided in
    set_work given state v made (may.decidable).made refl (omega (arith, small, was))

-- ---- a subtask is won

won_work : (made : MadeVertex) (k : ℕ) (win : Win) → k < length made.subtasks → (get_or made.subtasks k no_subtask).winner ≡ None → vertex_work (with_winner made k (Some win)) < vertex_work made
won_work made k win lt none =
    let f : SubtaskState → Bool = λ t. is_none t.winner in
    let new : SubtaskState = record (get_or made.subtasks k no_subtask) { winner = Some win } in
    let sums = sum_by-set (λ t. cond (f t) 1 0) made.subtasks k new no_subtask lt in
    let weigh : Option Win → ℕ = λ o. cond (is_none o) 1 0 in
    let old_one : weigh (get_or made.subtasks k no_subtask).winner ≡ weigh None = ap weigh none in
    let fewer : count_by f (won_at made.subtasks k (Some win)) < count_by f made.subtasks = omega (arith, sums, old_one) in
    let some : is_decided made ≡ true = lt-ltb 0 (length made.subtasks) (omega (arith, lt)) in
    let some_new : is_decided (with_winner made k (Some win)) ≡ true = lt-ltb 0 (length (won_at made.subtasks k (Some win))) (omega (arith, lt, length-set made.subtasks k new)) in
    by (is_decided made) (is_decided (with_winner made k (Some win))) (count_by f made.subtasks) (count_by f (won_at made.subtasks k (Some win))) some some_new fewer
  where
    by : (a b : Bool) (m n : ℕ) → a ≡ true → b ≡ true → n < m → (if b then n else 2 ^ 32) < (if a then m else 2 ^ 32)
    by true true m n passes is less = less
    by true false m n passes is less = absurd (cc is)
    by false b m n passes is less = absurd (cc passes)

pub won_less : (given : Given) (state : State) (name : PartName) (inputs : List PartName) (sizes : List (List ℕ)) (win : Win) → MayWin given state name inputs sizes
    → work_left given (record state { vertices = put_winner state.vertices (sub_of name) (Some win) }) < work_left given state
won_less given state name inputs sizes win may =
    let made = vertex_at state.vertices name.vertex in
    set_work given state name.vertex (with_winner made name.subtask (Some win))
    (in_range state.vertices name.vertex (omega (arith, (may.unfinished).decided))) refl
    (won_work made name.subtask win (may.unfinished).decided (may.unfinished).unwon)
