-- The numbers of what a subtask reads: one producer more, one input more, and their subtasks.
use Rattle.std.proofs.Common.{◌≡◌, ℕ, zero, suc, ◌+◌, ◌<◌, ◌≤◌, Bool, true, false, ◌&&◌, cond, List, [], ◌∷◌, ◌++◌, length, map, get_or, Option, Some, None, refl, sym, ◌∙◌, ap, subst, arith, append_assoc, All}
use Rattle.std.specs.Prelude.{filter, if◌then◌else◌, nat_le, nat_lt}
use Rattle.std.specs.List.{range_with_len}
use Rattle.std.specs.Option.{option_map_or}
use Rattle.std.proofs.lemmas.Bool.Decides.{nat_tests}
use Rattle.std.proofs.lemmas.List.{append-nil, map-append}
use Rattle.std.proofs.lemmas.List.Elements.{All-append, All-cons, All-head, All-nil, All-tail, All-filter, filter-append}
use Rattle.std.proofs.lemmas.List.Folds.{list_any_none}
use Rattle.std.proofs.lemmas.List.FromFn.{get_or-range_with_len, length-range_with_len}
use Rattle.rect_cover.specs.Cells.{Reads, rects_of}
use Rattle.rect_cover.specs.declared.rect.Rect.{Rect}
use Rattle.vertex_builder.specs.declared.vertex_input.VertexInput.{VertexInput}
use Rattle.graph_model.specs.declared.made_vertex.MadeVertex.{MadeVertex}
use Rattle.graph_model.specs.declared.sub.Sub.{Sub}
use Rattle.graph_model.specs.Indexes.{sub_at}
use Rattle.graph_model.specs.Reads.{ReadEdge, read_edge, touched, touches_producer, node_edges, input_edges, inputs_edges}
use Rattle.graph_model.specs.States.{subtasks_at, maker}
use Rattle.event_graph.specs.Numbers.{IsNumbering, Numbering, node_numbers, input_numbers, inputs_numbers}

range_from : (a n : ℕ) → range_with_len a (n + 1) ≡ range_with_len a n ++ (a + n) ∷ []
range_from a zero = ap (λ (m : ℕ). m ∷ []) (omega arith)
range_from a (suc n) =
    let on : suc n + 1 ≡ suc (n + 1) = omega arith in
    let to : a + 1 + n ≡ a + suc n = omega arith in
    ap (range_with_len a) on
    ∙ ap (λ (rest : List ℕ). a ∷ rest) (range_from (a + 1) n ∙ ap (λ (m : ℕ). range_with_len (a + 1) n ++ m ∷ []) to)

pub range_more : (n : ℕ) → range_with_len 0 (n + 1) ≡ range_with_len 0 n ++ n ∷ []
range_more n = range_from 0 n ∙ ap (λ (m : ℕ). range_with_len 0 n ++ m ∷ []) (omega arith)

-- one producer more
pub touched_more : (first : ℕ) (rects : List Rect) (n : ℕ)
    → map (λ p. first + p) (touched rects (n + 1)) ≡ map (λ p. first + p) (touched rects n) ++ (if touches_producer rects n then (first + n) ∷ [] else [])
touched_more first rects n =
    let of : ℕ → ℕ = λ p. first + p in
    let all : touched rects (n + 1) ≡ touched rects n ++ filter (touches_producer rects) (n ∷ []) =
    ap (filter (touches_producer rects)) (range_more n) ∙ filter-append (touches_producer rects) (range_with_len 0 n) (n ∷ []) in
    ap (map of) all ∙ map-append of (touched rects n) (filter (touches_producer rects) (n ∷ []))
    ∙ ap (λ (l : List ℕ). map of (touched rects n) ++ l) (one (touches_producer rects n))
  where
    one : (b : Bool) → map (λ (p : ℕ). first + p) (cond b (n ∷ []) []) ≡ (if b then (first + n) ∷ [] else [])
    one true = refl
    one false = refl

-- producers that aren't touched
pub touched_to : (rects : List Rect) (n d : ℕ) → ((p : ℕ) → n ≤ p → p < n + d → touches_producer rects p ≡ false) → touched rects (n + d) ≡ touched rects n
touched_to rects n zero none = ap (touched rects) (omega arith)
touched_to rects n (suc d) none =
    let on : n + suc d ≡ (n + d) + 1 = omega arith in
    let here : filter (touches_producer rects) ((n + d) ∷ []) ≡ [] = ap (λ (b : Bool). cond b ((n + d) ∷ []) []) (none (n + d) (omega arith) (omega arith)) in
    ap (touched rects) on ∙ ap (filter (touches_producer rects)) (range_more (n + d)) ∙ filter-append (touches_producer rects) (range_with_len 0 (n + d)) ((n + d) ∷ [])
    ∙ ap (λ (l : List ℕ). touched rects (n + d) ++ l) here ∙ append-nil (touched rects (n + d))
    ∙ touched_to rects n d (λ p le lt. none p le (omega (arith, lt)))

pub touched_none : (rects : List Rect) (n : ℕ) → ((p : ℕ) → p < n → touches_producer rects p ≡ false) → touched rects n ≡ []
touched_none rects n none = let same : n ≡ 0 + n = omega arith in ap (touched rects) same ∙ touched_to rects 0 n (λ p le lt. none p (omega (arith, lt)))

pub none_below : (rects : List Rect) (least p : ℕ) → All (λ rect. least ≤ rect.p0) rects → p < least → touches_producer rects p ≡ false
none_below rects least p all lt = list_any_none (λ (rect : Rect). nat_le rect.p0 p && nat_lt p rect.p1) rects
    (λ k d inside. before (get_or rects k d).p0 (get_or rects k d).p1 (all k d inside))
  where
    before : (a b : ℕ) → least ≤ a → (nat_le a p && nat_lt p b) ≡ false
    before a b le = ap (λ (t : Bool). t && nat_lt p b) (grind_no a le)
      where
        grind_no : (a : ℕ) → least ≤ a → nat_le a p ≡ false
        grind_no a le = grind (arith, nat_tests)

pub none_past : (rects : List Rect) (end p : ℕ) → All (λ rect. rect.p1 ≤ end) rects → end ≤ p → touches_producer rects p ≡ false
none_past rects end p all past = list_any_none (λ (rect : Rect). nat_le rect.p0 p && nat_lt p rect.p1) rects
    (λ k d inside. behind (nat_le (get_or rects k d).p0 p) (get_or rects k d).p1 (all k d inside))
  where
    behind : (t : Bool) (b : ℕ) → b ≤ end → (t && nat_lt p b) ≡ false
    behind true b le = grind (arith, nat_tests)
    behind false b le = refl

-- one input more
pub inputs_more : (numbering : Numbering) (vs : List MadeVertex) (inputs : List VertexInput) (input : VertexInput) (first at : ℕ) (reads : Reads) → at ≡ first + length inputs
    → inputs_numbers numbering vs (inputs ++ input ∷ []) first reads ≡ inputs_numbers numbering vs inputs first reads ++ input_numbers numbering vs input (rects_of reads at)
inputs_more numbering vs [] input first at reads is =
    let same : first ≡ at = omega (arith, is) in
    append-nil (input_numbers numbering vs input (rects_of reads first)) ∙ ap (λ (n : ℕ). input_numbers numbering vs input (rects_of reads n)) same
inputs_more numbering vs (x ∷ inputs) input first at reads is =
    ap (λ (l : List ℕ). input_numbers numbering vs x (rects_of reads first) ++ l) (inputs_more numbering vs inputs input (suc first) at reads (omega (arith, is)))
    ∙ sym (append_assoc (input_numbers numbering vs x (rects_of reads first)) (inputs_numbers numbering vs inputs (suc first) reads) (input_numbers numbering vs input (rects_of reads at)))

-- the producers that are touched are below the count
pub below_count : (rects : List Rect) (count : ℕ) → All (λ p. p < count) (touched rects count)
below_count rects count = All-filter (touches_producer rects) (λ p. p < count) (range_with_len 0 count) each
  where
    each : All (λ p. p < count) (range_with_len 0 count)
    each k d lt =
        let less : k < count = subst (λ (n : ℕ). k < n) (length-range_with_len 0 count) lt in
        let is : get_or (range_with_len 0 count) k d ≡ 0 + k = get_or-range_with_len 0 count k d less in
        omega (arith, is, less)

-- ---- their subtasks

module _ (vs : List MadeVertex) (numbering : Numbering) (h : IsNumbering vs numbering) where
  -- producers of one vertex
  touched_subs : (input : VertexInput) (v : ℕ) (producers : List ℕ) → All (λ p. p < length (subtasks_at vs v)) producers
      → map (sub_at numbering.subs) (map (λ p. get_or numbering.places v 0 + p) producers) ≡ map (λ edge. edge.sub) (map (read_edge input v) producers)
  touched_subs input v [] below = refl
  touched_subs input v (p ∷ producers) below =
      let here = (h.numbered (record { vertex = v; subtask = p }) (All-head (λ (q : ℕ). q < length (subtasks_at vs v)) p producers below)).is in
      ap (λ (s : Sub). s ∷ map (sub_at numbering.subs) (map (λ q. get_or numbering.places v 0 + q) producers)) here
      ∙ ap (λ (l : List Sub). record { vertex = v; subtask = p } ∷ l) (touched_subs input v producers (All-tail (λ (q : ℕ). q < length (subtasks_at vs v)) p producers below))

  touched_within : (v : ℕ) (producers : List ℕ) → All (λ p. p < length (subtasks_at vs v)) producers → All (λ n. n < length numbering.subs) (map (λ p. get_or numbering.places v 0 + p) producers)
  touched_within v [] below = All-nil (λ n. n < length numbering.subs)
  touched_within v (p ∷ producers) below =
      All-cons (λ n. n < length numbering.subs) (get_or numbering.places v 0 + p) (map (λ q. get_or numbering.places v 0 + q) producers)
      (h.numbered (record { vertex = v; subtask = p }) (All-head (λ (q : ℕ). q < length (subtasks_at vs v)) p producers below)).within
      (touched_within v producers (All-tail (λ (q : ℕ). q < length (subtasks_at vs v)) p producers below))

  input_subs : (input : VertexInput) (rects : List Rect) (from : Option ℕ)
      → map (sub_at numbering.subs) (option_map_or (node_numbers numbering vs rects) from []) ≡ map (λ edge. edge.sub) (option_map_or (node_edges vs input rects) from [])
  input_subs input rects None = refl
  input_subs input rects (Some node) = let v = maker vs node in touched_subs input v (touched rects (length (subtasks_at vs v))) (below_count rects (length (subtasks_at vs v)))

  input_within : (rects : List Rect) (from : Option ℕ) → All (λ n. n < length numbering.subs) (option_map_or (node_numbers numbering vs rects) from [])
  input_within rects None = All-nil (λ n. n < length numbering.subs)
  input_within rects (Some node) = let v = maker vs node in touched_within v (touched rects (length (subtasks_at vs v))) (below_count rects (length (subtasks_at vs v)))

  pub inputs_subs : (inputs : List VertexInput) (first : ℕ) (reads : Reads) → map (sub_at numbering.subs) (inputs_numbers numbering vs inputs first reads) ≡ map (λ edge. edge.sub) (inputs_edges vs inputs first reads)
  inputs_subs [] first reads = refl
  inputs_subs (input ∷ inputs) first reads =
      let rects = rects_of reads first in
      map-append (sub_at numbering.subs) (input_numbers numbering vs input rects) (inputs_numbers numbering vs inputs (suc first) reads)
      ∙ ap (λ (l : List Sub). l ++ map (sub_at numbering.subs) (inputs_numbers numbering vs inputs (suc first) reads)) (input_subs input rects input.from)
      ∙ ap (λ (l : List Sub). map (λ edge. edge.sub) (input_edges vs input rects) ++ l) (inputs_subs inputs (suc first) reads)
      ∙ sym (map-append (λ (edge : ReadEdge). edge.sub) (input_edges vs input rects) (inputs_edges vs inputs (suc first) reads))

  pub inputs_within : (inputs : List VertexInput) (first : ℕ) (reads : Reads) → All (λ n. n < length numbering.subs) (inputs_numbers numbering vs inputs first reads)
  inputs_within [] first reads = All-nil (λ n. n < length numbering.subs)
  inputs_within (input ∷ inputs) first reads =
      All-append (λ n. n < length numbering.subs) (input_numbers numbering vs input (rects_of reads first)) (inputs_numbers numbering vs inputs (suc first) reads)
      (input_within (rects_of reads first) input.from) (inputs_within inputs (suc first) reads)
