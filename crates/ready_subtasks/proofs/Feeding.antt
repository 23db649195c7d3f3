-- A vertex that is made or decided: its subtasks are ready, and readiness of the others stays.
use Rattle.std.proofs.Common.{◌≡◌, ℕ, zero, suc, ◌<◌, ◌≤◌, Bool, true, false, List, [], ◌∷◌, ◌++◌, length, map, get_or, set, refl, sym, ◌∙◌, ap, subst, arith, All, Option, Some, None, ⊎_elim}
use Rattle.std.specs.Prelude.{⊤, ◌==◌, ◌&&◌, nat_lt, not, replicate, IsTrue, IsFalse}
use Rattle.std.specs.List.{list_all, range_with_len}
use Rattle.std.specs.Option.{MatchOption, is_none, is_some, option_map_or}
use Rattle.std.proofs.lemmas.Bool.{cases_eq, cases_lt, false≢true}
use Rattle.std.proofs.lemmas.Bool.Decides.{nat_tests}
use Rattle.std.proofs.lemmas.List.{length-map, length-replicate, length-set, length_push, get_or-replicate, get_or_append_left, get_or_push, get_or-set_same, get_or-set_other, get_or_past, map-append}
use Rattle.std.proofs.lemmas.List.Elements.{All-filter, All-head, All-tail}
use Rattle.std.proofs.lemmas.List.Folds.{list_all-append, list_all-map, list_any_none}
use Rattle.std.proofs.lemmas.List.FromFn.{get_or-range_with_len, length-range_with_len}
use Rattle.attempt_names.specs.Attempts.{Attempts, is_of, no_attempts}
use Rattle.estate.specs.declared.part_name.PartName.{PartName}
use Rattle.graph_model.specs.Legal.{IsFilled, MayDecide, MayMake, made_of}
use Rattle.graph_model.specs.Reads.{ReadEdge, inputs_edges, input_edges, node_edges, read_edge, reads_from, touched, touches_producer}
use Rattle.graph_model.specs.States.{Given, State, are_won, is_complete, is_decided, is_finished, maker, no_subtask, no_vertex, put_decision, subtasks_at, unwon, vertex_at, winner_at}
use Rattle.graph_model.specs.Valid.{IsFed, IsOfSubtask, IsValid}
use Rattle.graph_model.specs.declared.made_vertex.MadeVertex.{MadeVertex}
use Rattle.graph_model.specs.declared.sub.Sub.{Sub}
use Rattle.graph_model.specs.declared.subtask_state.SubtaskState.{SubtaskState}
use Rattle.graph_model.specs.declared.win.Win.{Win}
use Rattle.graph_model.proofs.Laws.{KeepsFed, edges_on, get_or-map, keeps_decided, keeps_made}
use Rattle.number_set.specs.Members.{is_marked}
use Rattle.number_set.specs.Pairs.{group_at}
use Rattle.plan_model.specs.Checks.{plan_faults}
use Rattle.rect_cover.specs.Cells.{Reads, rects_of}
use Rattle.rect_cover.specs.declared.rect.Rect.{Rect}
use Rattle.vertex_builder.specs.declared.vertex_input.VertexInput.{VertexInput}
use Rattle.ready_subtasks.specs.Marks.{IsReadiness}
use Rattle.ready_subtasks.specs.Ready.{is_ready, is_running, sub_in}
use Rattle.ready_subtasks.proofs.Lists.{list_all-agree, map-map}

-- what a subtask reads from has winners
abbrev pub is_fed : List MadeVertex → Sub → Bool
is_fed vertices sub = list_all (is_finished vertices) (reads_from vertices sub)

-- ---- no vertex

pub readiness_started : (count : ℕ) → IsReadiness [] no_attempts (replicate count [])
readiness_started count = record {
  len = omega arith;
  sizes = λ v. ap (length {A = Bool}) (nothing v);
  running = λ k d lt. absurd (omega (arith, lt));
  is = λ sub lt. absurd (omega (arith, lt));
}
  where
    nothing : (v : ℕ) → group_at (replicate count []) v ≡ []
    nothing v = ⊎_elim
        (λ (lt : v < count). get_or-replicate count v [] [] lt)
        (λ (le : count ≤ v). let long : length {A = List Bool} (replicate count []) ≡ count = length-replicate count [] in get_or_past (replicate count []) v [] (omega (arith, long, le)))
        (cases_lt v count)

-- ---- what decided vertices keep

-- each winner stays
winners_fed : (vs us : List MadeVertex) → KeepsFed vs us → (sub : Sub) → winner_at us sub ≡ winner_at vs sub
winners_fed vs us keeps sub = by (winner_at us sub) (winner_at vs sub) refl refl
  where
    same : vertex_at us sub.vertex ≡ vertex_at vs sub.vertex → winner_at us sub ≡ winner_at vs sub
    same is = ap (λ (made : MadeVertex). (get_or made.subtasks sub.subtask no_subtask).winner) is

    by : (new old : Option Win) → winner_at us sub ≡ new → winner_at vs sub ≡ old → winner_at us sub ≡ winner_at vs sub
    by (Some win) old is was = same (keeps.won sub win is)
    by None (Some win) is was = same (keeps.stays sub win was)
    by None None is was = is ∙ sym was

ready_fed : (vs us : List MadeVertex) (a : Attempts) (sub : Sub) → KeepsFed vs us → 0 < length (subtasks_at vs sub.vertex)
    → All (IsFed vs) (vertex_at vs sub.vertex).vertex.inputs → is_ready us a sub ≡ is_ready vs a sub
ready_fed vs us a sub keeps some fed =
    let from : reads_from us sub ≡ reads_from vs sub = ap (map (λ (edge : ReadEdge). edge.sub)) (edges_on vs us keeps sub some fed) in
    let same : is_fed us sub ≡ is_fed vs sub =
    ap (list_all (is_finished us)) from
    ∙ list_all-agree (is_finished us) (is_finished vs) (reads_from vs sub) (λ k d lt. ap (λ (winner : Option Win). is_some winner) (winners_fed vs us keeps (get_or (reads_from vs sub) k d))) in
    ap (λ (winner : Option Win). is_none winner && is_fed us sub && not (is_running a sub)) (winners_fed vs us keeps sub)
    ∙ ap (λ (b : Bool). is_none (winner_at vs sub) && b && not (is_running a sub)) same

-- ---- a vertex is made

pub readiness_made : (given : Given) (state : State) (vertex : ℕ) (nodes : List ℕ) → plan_faults given.nodes ≡ [] → IsValid given state → MayMake given state vertex nodes
    → (a : Attempts) (marks : List (List Bool)) → IsReadiness state.vertices a marks → length state.vertices < length marks
    → IsReadiness (state.vertices ++ made_of given state nodes ∷ []) a marks
readiness_made given state vertex nodes good valid may a marks h room =
    let vs = state.vertices in
    let us = vs ++ made_of given state nodes ∷ [] in
    let keeps = keeps_made given state vertex nodes good valid may in
    record {
      len = let long = length_push vs (made_of given state nodes) in omega (arith, room, long);
      sizes = λ v. h.sizes v ∙ sym (counts v);
      running = λ k d lt. subst (λ (n : ℕ). (get_or a.running k d).subtask < n) (sym (counts (get_or a.running k d).vertex)) (h.running k d lt);
      is = λ sub lt.
          let decided = subst (λ (n : ℕ). sub.subtask < n) (counts sub.vertex) lt in
          let some : 0 < length (subtasks_at vs sub.vertex) = omega (arith, decided) in
          h.is sub decided ∙ sym (ready_fed vs us a sub keeps some (valid.decided sub.vertex some).fed);
    }
  where
    counts : (v : ℕ) → length (subtasks_at (state.vertices ++ made_of given state nodes ∷ []) v) ≡ length (subtasks_at state.vertices v)
    counts v = ⊎_elim
        (λ (lt : v < length state.vertices). ap (λ (made : MadeVertex). length made.subtasks) (get_or_append_left state.vertices (made_of given state nodes ∷ []) no_vertex v lt))
        (λ (le : length state.vertices ≤ v). ⊎_elim
        (λ (is : length state.vertices ≡ v).
        ap (λ (made : MadeVertex). length made.subtasks) (get_or_push state.vertices (made_of given state nodes) no_vertex v is)
        ∙ sym (ap (λ (made : MadeVertex). length made.subtasks) (get_or_past state.vertices v no_vertex le)))
        (λ (ne : length state.vertices ≡ v → ⊥).
        let long = length_push state.vertices (made_of given state nodes) in
        ap (λ (made : MadeVertex). length made.subtasks) (get_or_past (state.vertices ++ made_of given state nodes ∷ []) v no_vertex (omega (arith, le, ne, long)))
        ∙ sym (ap (λ (made : MadeVertex). length made.subtasks) (get_or_past state.vertices v no_vertex le)))
        (cases_eq (length state.vertices) v))
        (cases_lt v (length state.vertices))

-- ---- a vertex is decided

all_true : {X : Type 0} (p : X → Bool) (xs : List X) → All (λ x. p x ≡ true) xs → list_all p xs ≡ true
all_true p [] all = refl
all_true p (x ∷ xs) all = ap (λ (b : Bool). b && list_all p xs) (All-head (λ y. p y ≡ true) x xs all) ∙ all_true p xs (All-tail (λ y. p y ≡ true) x xs all)

both_right : (a b : Bool) → (a && b) ≡ true → b ≡ true
both_right true b is = is
both_right false b is = absurd (false≢true is)

both_left : (a b : Bool) → (a && b) ≡ true → a ≡ true
both_left true b is = refl
both_left false b is = is

each_true : {X : Type 0} (p : X → Bool) (xs : List X) (k : ℕ) (d : X) → list_all p xs ≡ true → k < length xs → p (get_or xs k d) ≡ true
each_true p [] k d all lt = absurd (omega (arith, lt))
each_true p (x ∷ xs) zero d all lt = both_left (p x) (list_all p xs) all
each_true p (x ∷ xs) (suc k) d all lt = each_true p xs k d (both_right (p x) (list_all p xs) all) (omega (arith, lt))

-- what is read of a complete vertex has winners
node_fed : (us : List MadeVertex) (input : VertexInput) (rects : List Rect) (node : ℕ) → is_complete (vertex_at us (maker us node)) ≡ true
    → list_all (is_finished us) (map (λ (edge : ReadEdge). edge.sub) (node_edges us input rects node)) ≡ true
node_fed us input rects node complete =
    let v = maker us node in
    let subtasks = subtasks_at us v in
    let n = length subtasks in
    let won = both_right (is_decided (vertex_at us v)) (are_won subtasks) complete in
    ap (list_all (is_finished us)) (map-map (λ (edge : ReadEdge). edge.sub) (read_edge input v) (touched rects n))
    ∙ list_all-map (is_finished us) (sub_in v) (touched rects n)
    ∙ all_true (λ p. is_finished us (sub_in v p)) (touched rects n)
    (All-filter (touches_producer rects) (λ p. is_finished us (sub_in v p) ≡ true) (range_with_len 0 n)
    (λ k d lt.
    let long = length-range_with_len 0 n in
    let less : k < n = omega (arith, lt, long) in
    let at : get_or (range_with_len 0 n) k d ≡ k = get_or-range_with_len 0 n k d less ∙ omega arith in
    subst (λ (p : ℕ). is_finished us (sub_in v p) ≡ true) (sym at) (each_true (λ (t : SubtaskState). is_some t.winner) subtasks k no_subtask won less)))

from_fed : (us : List MadeVertex) (input : VertexInput) (rects : List Rect) (from : Option ℕ) → MatchOption from ⊤ (λ node. IsTrue (is_complete (vertex_at us (maker us node))))
    → list_all (is_finished us) (map (λ (edge : ReadEdge). edge.sub) (option_map_or (node_edges us input rects) from [])) ≡ true
from_fed us input rects None filled = refl
from_fed us input rects (Some node) filled = node_fed us input rects node filled

inputs_fed : (us : List MadeVertex) (inputs : List VertexInput) (first : ℕ) (reads : Reads) → All (IsFilled us) inputs
    → list_all (is_finished us) (map (λ (edge : ReadEdge). edge.sub) (inputs_edges us inputs first reads)) ≡ true
inputs_fed us [] first reads filled = refl
inputs_fed us (input ∷ inputs) first reads filled =
    let sub : ReadEdge → Sub = λ edge. edge.sub in
    let here = input_edges us input (rects_of reads first) in
    let rest = inputs_edges us inputs (suc first) reads in
    ap (list_all (is_finished us)) (map-append sub here rest)
    ∙ list_all-append (is_finished us) (map sub here) (map sub rest)
    ∙ ap (λ (b : Bool). b && list_all (is_finished us) (map sub rest)) (from_fed us input (rects_of reads first) input.from (All-head (IsFilled us) input inputs filled))
    ∙ inputs_fed us inputs (suc first) reads (All-tail (IsFilled us) input inputs filled)

decided_lt : (n : ℕ) → IsTrue (nat_lt 0 n) → 0 < n
decided_lt n is = grind (arith, nat_tests)

-- a complete vertex stays
filled_on : (vs us : List MadeVertex) → KeepsFed vs us → (from : Option ℕ)
    → MatchOption from ⊤ (λ node. IsTrue (is_complete (vertex_at vs (maker vs node)))) → MatchOption from ⊤ (λ node. IsTrue (is_complete (vertex_at us (maker us node))))
filled_on vs us keeps None filled = tt
filled_on vs us keeps (Some node) filled =
    let v = maker vs node in
    let decided = both_left (is_decided (vertex_at vs v)) (are_won (subtasks_at vs v)) filled in
    let some = decided_lt (length (subtasks_at vs v)) decided in
    let makes = (keeps.node node decided).0 in
    ap (λ (u : ℕ). is_complete (vertex_at us u)) makes ∙ ap is_complete (keeps.still v some) ∙ filled

undecided : (n : ℕ) → IsFalse (nat_lt 0 n) → n ≡ 0
undecided n is = grind (arith, nat_tests)

three : (a b c : Bool) → a ≡ true → b ≡ true → c ≡ false → (a && b && not c) ≡ true
three a b c ta tb fc = ap (λ (x : Bool). x && b && not c) ta ∙ ap (λ (x : Bool). x && not c) tb ∙ ap not fc

is_of_vertex : (v k w j : ℕ) → (v == w && k == j) ≡ true → v ≡ w
is_of_vertex v k w j is = grind (arith, nat_tests)

names_apart : (v k : ℕ) (name : PartName) → (name.vertex ≡ v → ⊥) → is_of v k name ≡ false
names_apart v k name ne = by (is_of v k name) refl
  where
    by : (b : Bool) → is_of v k name ≡ b → b ≡ false
    by true is = absurd (ne (is_of_vertex name.vertex name.subtask v k is))
    by false is = refl

module _ (given : Given) (state : State) (v : ℕ) (decision : List Reads) (valid : IsValid given state) (may : MayDecide given state v decision) where
  abbrev vs : List MadeVertex
  vs = state.vertices

  abbrev changed : MadeVertex
  changed = record (vertex_at vs v) { subtasks = map unwon decision }

  abbrev us : List MadeVertex
  us = put_decision vs v decision

  keeps : KeepsFed vs us
  keeps = keeps_decided given state v decision valid may

  empty : length (subtasks_at vs v) ≡ 0
  empty = undecided (length (subtasks_at vs v)) may.decidable.undecided

  at_v : vertex_at us v ≡ changed
  at_v = get_or-set_same vs v changed no_vertex may.decidable.made

  at_other : (u : ℕ) → (u ≡ v → ⊥) → vertex_at us u ≡ vertex_at vs u
  at_other u ne = get_or-set_other vs v u changed no_vertex ne

  count_v : length (subtasks_at us v) ≡ length decision
  count_v = ap (λ (made : MadeVertex). length made.subtasks) at_v ∙ length-map decision unwon

  -- none of its subtasks has a winner
  unwon_at : (k : ℕ) → winner_at us (sub_in v k) ≡ None
  unwon_at k =
      ap (λ (made : MadeVertex). (get_or made.subtasks k no_subtask).winner) at_v
      ∙ ap (λ (t : SubtaskState). t.winner) (get_or-map unwon decision k [])

  -- what they read has
  fed_at : (k : ℕ) → is_fed us (sub_in v k) ≡ true
  fed_at k =
      let of : MadeVertex → List Sub = λ made. map (λ (edge : ReadEdge). edge.sub) (inputs_edges us made.vertex.inputs 0 (get_or made.subtasks k no_subtask).reads) in
      let inputs = (vertex_at vs v).vertex.inputs in
      ap (λ (made : MadeVertex). list_all (is_finished us) (of made)) at_v
      ∙ inputs_fed us inputs 0 (get_or changed.subtasks k no_subtask).reads
      (λ j d lt. filled_on vs us keeps (get_or inputs j d).from (may.decidable.inputs j d lt))

  -- and no attempt of them runs
  idle : (a : Attempts) (k : ℕ) → All (IsOfSubtask vs) a.running → is_running a (sub_in v k) ≡ false
  idle a k running = list_any_none (is_of v k) a.running (λ j d lt. names_apart v k (get_or a.running j d) (λ same.
      let decided = running j d lt in
      let none = ap (λ (u : ℕ). length (subtasks_at vs u)) same ∙ empty in
      omega (arith, decided, none)))

  own_ready : (a : Attempts) (k : ℕ) → All (IsOfSubtask vs) a.running → is_ready us a (sub_in v k) ≡ true
  own_ready a k running =
      three (is_none (winner_at us (sub_in v k))) (is_fed us (sub_in v k)) (is_running a (sub_in v k))
      (ap (λ (winner : Option Win). is_none winner) (unwon_at k)) (fed_at k) (idle a k running)

  pub readiness_decided : (a : Attempts) (marks : List (List Bool)) → IsReadiness vs a marks → IsReadiness us a (set marks v (replicate (length decision) true))
  readiness_decided a marks h =
      let count = length decision in
      let group = replicate count true in
      let inside : v < length marks = let few = h.len in let made = may.decidable.made in omega (arith, few, made) in
      let at_marks : group_at (set marks v group) v ≡ group = get_or-set_same marks v group [] inside in
      let long : length {A = Bool} group ≡ count = length-replicate count true in
      record {
        len = let few = h.len in let a = length-set vs v changed in let b = length-set marks v group in omega (arith, few, a, b);
        sizes = λ u. ⊎_elim
            (λ (is : u ≡ v).
            ap (λ (k : ℕ). length (group_at (set marks v group) k)) is ∙ ap (length {A = Bool}) at_marks ∙ long ∙ sym count_v ∙ ap (λ (k : ℕ). length (subtasks_at us k)) (sym is))
            (λ (ne : u ≡ v → ⊥).
            ap (length {A = Bool}) (get_or-set_other marks v u group [] ne) ∙ h.sizes u ∙ sym (ap (λ (made : MadeVertex). length made.subtasks) (at_other u ne)))
            (cases_eq u v);
        running = λ k d lt.
            let name = get_or a.running k d in
            let decided = h.running k d lt in
            subst (λ (made : MadeVertex). name.subtask < length made.subtasks) (sym (keeps.still name.vertex (omega (arith, decided)))) decided;
        is = λ sub lt. ⊎_elim
            (λ (is : sub.vertex ≡ v).
            let own : sub.subtask < count = subst (λ (n : ℕ). sub.subtask < n) (ap (λ (k : ℕ). length (subtasks_at us k)) is ∙ count_v) lt in
            ap (λ (k : ℕ). is_marked (group_at (set marks v group) k) sub.subtask) is ∙ ap (λ (l : List Bool). is_marked l sub.subtask) at_marks
            ∙ get_or-replicate count sub.subtask true false own
            ∙ sym (ap (λ (u : ℕ). is_ready us a (sub_in u sub.subtask)) is ∙ own_ready a sub.subtask h.running))
            (λ (ne : sub.vertex ≡ v → ⊥).
            let decided = subst (λ (made : MadeVertex). sub.subtask < length made.subtasks) (at_other sub.vertex ne) lt in
            let some : 0 < length (subtasks_at vs sub.vertex) = omega (arith, decided) in
            ap (λ (l : List Bool). is_marked l sub.subtask) (get_or-set_other marks v sub.vertex group [] ne) ∙ h.is sub decided
            ∙ sym (ready_fed vs us a sub keeps some (valid.decided sub.vertex some).fed))
            (cases_eq sub.vertex v);
      }
