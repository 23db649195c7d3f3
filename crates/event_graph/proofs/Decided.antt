-- The numbers of subtasks where a vertex is decided.
use Rattle.std.proofs.Common.{◌≡◌, ℕ, zero, suc, ◌+◌, ◌-◌, ◌<◌, ◌≤◌, false, List, [], ◌∷◌, ◌++◌, length, map, get_or, set, None, refl, sym, ◌∙◌, ap, subst, arith, All, ⊎_elim}
use Rattle.std.specs.Prelude.{nat_lt}
use Rattle.std.specs.Option.{is_some}
use Rattle.std.proofs.lemmas.Bool.{cases_eq, cases_lt}
use Rattle.std.proofs.lemmas.Bool.Decides.{nat_tests}
use Rattle.std.proofs.lemmas.List.{length-append, length-map, length-set, get_or_past, get_or_append_left, get_or-set_same, get_or-set_other}
use Rattle.std.proofs.lemmas.List.Elements.{All-head, All-tail, All-filter}
use Rattle.std.proofs.lemmas.List.FromFn.{get_or-map-range_with_len, length-map-range_with_len}
use Rattle.rect_cover.specs.Cells.{Reads}
use Rattle.graph_model.specs.declared.made_vertex.MadeVertex.{MadeVertex}
use Rattle.graph_model.specs.declared.sub.Sub.{Sub}
use Rattle.graph_model.specs.Indexes.{no_sub, sub_at}
use Rattle.graph_model.specs.Legal.{MayDecide}
use Rattle.graph_model.specs.Reads.{ReadEdge, reads_from}
use Rattle.graph_model.specs.States.{Given, State, no_subtask, no_vertex, vertex_at, subtasks_at, winner_at, is_finished, put_decision, unwon}
use Rattle.graph_model.specs.Valid.{IsValid}
use Rattle.graph_model.proofs.Laws.{KeepsFed, edges_on, keeps_decided}
use Rattle.reader_index.specs.Tasks.{is_done, is_of, read_by, reads_of, with_tasks}
use Rattle.reader_index.specs.declared.read.Read.{Read}
use Rattle.reader_index.proofs.Laws.{new_reads, old_reads, readers_more, same_done, tasks_count}
use Rattle.event_graph.specs.Numbers.{HasNumber, IsNumbered, IsNumbering, Numbering, number_of, own_subs, subs_read}

-- where the tasks that are read stand in the front of a list, the rest doesn't count
same_subs : (subs more : List Sub) (reads : List Read) → All (λ read. read.producer < length subs) reads
    → map (λ read. sub_at (subs ++ more) read.producer) reads ≡ map (λ read. sub_at subs read.producer) reads
same_subs subs more [] inside = refl
same_subs subs more (read ∷ reads) inside =
    let here : sub_at (subs ++ more) read.producer ≡ sub_at subs read.producer =
    get_or_append_left subs more no_sub read.producer (All-head (λ (r : Read). r.producer < length subs) read reads inside) in
    ap (λ (s : Sub). s ∷ map (λ r. sub_at (subs ++ more) r.producer) reads) here
    ∙ ap (λ (l : List Sub). sub_at subs read.producer ∷ l) (same_subs subs more reads (All-tail (λ (r : Read). r.producer < length subs) read reads inside))

-- what a task reads, by the subtasks of its producers
own_subs_read : (subs more : List Sub) (n : ℕ) (producers : List ℕ) → All (λ p. p < length subs) producers
    → map (λ read. sub_at (subs ++ more) read.producer) (map (read_by n) producers) ≡ map (sub_at subs) producers
own_subs_read subs more n [] inside = refl
own_subs_read subs more n (p ∷ producers) inside =
    let here : sub_at (subs ++ more) p ≡ sub_at subs p = get_or_append_left subs more no_sub p (All-head (λ (q : ℕ). q < length subs) p producers inside) in
    ap (λ (s : Sub). s ∷ map (λ read. sub_at (subs ++ more) read.producer) (map (read_by n) producers)) here
    ∙ ap (λ (l : List Sub). sub_at subs p ∷ l) (own_subs_read subs more n producers (All-tail (λ (q : ℕ). q < length subs) p producers inside))

unwon_at : (decision : List Reads) (k : ℕ) → (get_or (map unwon decision) k no_subtask).winner ≡ None
unwon_at [] k = refl
unwon_at (reads ∷ decision) zero = refl
unwon_at (reads ∷ decision) (suc k) = unwon_at decision k

module _ (given : Given) (state : State) (v : ℕ) (decision : List Reads) (valid : IsValid given state) (may : MayDecide given state v decision)
    (numbering : Numbering) (h : IsNumbering state.vertices numbering) (lists : List (List ℕ)) (long : length lists ≡ length decision)
    (inside : All (All (λ p. p < length numbering.subs)) lists)
    (reads : (k : ℕ) → k < length decision → map (sub_at numbering.subs) (get_or lists k []) ≡ reads_from (put_decision state.vertices v decision) (record { vertex = v; subtask = k })) where
  abbrev vs : List MadeVertex
  vs = state.vertices

  abbrev us : List MadeVertex
  us = put_decision vs v decision

  abbrev first : ℕ
  first = length numbering.subs

  abbrev count : ℕ
  count = length decision

  abbrev own : List Sub
  own = own_subs v count

  abbrev next : Numbering
  next = record {
    places = set numbering.places v first;
    subs = numbering.subs ++ own;
    tasks = with_tasks numbering.tasks lists;
  }

  keeps : KeepsFed vs us
  keeps = keeps_decided given state v decision valid may

  own_len : length own ≡ count
  own_len = length-map-range_with_len (λ (k : ℕ). sub_of k) 0 count
    where
      sub_of : ℕ → Sub
      sub_of k = record { vertex = v; subtask = k }

  subs_len : length next.subs ≡ first + count
  subs_len = length-append numbering.subs own ∙ ap (λ (m : ℕ). first + m) own_len

  tasks_len : length next.tasks.done ≡ first + count
  tasks_len = tasks_count numbering.tasks lists ∙ ap (λ (m : ℕ). m + length lists) (sym h.subs_len) ∙ ap (λ (m : ℕ). first + m) long

  in_places : v < length numbering.places
  in_places = let a = may.decidable.made in let b = h.places_len in omega (arith, a, b)

  at_v : vertex_at us v ≡ record (vertex_at vs v) { subtasks = map unwon decision }
  at_v = get_or-set_same vs v (record (vertex_at vs v) { subtasks = map unwon decision }) no_vertex may.decidable.made

  count_at : length (subtasks_at us v) ≡ count
  count_at = ap (λ (made : MadeVertex). length made.subtasks) at_v ∙ length-map decision unwon

  at_other : (u : ℕ) → (u ≡ v → ⊥) → vertex_at us u ≡ vertex_at vs u
  at_other u ne = get_or-set_other vs v u (record (vertex_at vs v) { subtasks = map unwon decision }) no_vertex ne

  none_before : (n : ℕ) → nat_lt 0 n ≡ false → 0 < n → ⊥
  none_before n is lt = grind (arith, nat_tests)

  -- a decided vertex of before is another
  other : (s : Sub) → s.subtask < length (subtasks_at vs s.vertex) → s.vertex ≡ v → ⊥
  other s lt same =
      let here = subst (λ (u : ℕ). s.subtask < length (subtasks_at vs u)) same lt in
      none_before (length (subtasks_at vs v)) may.decidable.undecided (omega (arith, here))

  place_other : (u : ℕ) → (u ≡ v → ⊥) → get_or next.places u 0 ≡ get_or numbering.places u 0
  place_other u ne = get_or-set_other numbering.places v u first 0 ne

  place_own : get_or next.places v 0 ≡ first
  place_own = get_or-set_same numbering.places v first 0 in_places

  sub_own : (k : ℕ) → k < count → sub_at next.subs (first + k) ≡ record { vertex = v; subtask = k }
  sub_own k lt = behind numbering.subs own k (subst (λ (m : ℕ). k < m) (sym own_len) lt) ∙ get_or-map-range_with_len (λ (j : ℕ). sub_of j) 0 count k k no_sub lt (omega arith)
    where
      sub_of : ℕ → Sub
      sub_of j = record { vertex = v; subtask = j }

      behind : (xs ys : List Sub) (j : ℕ) → j < length ys → get_or (xs ++ ys) (length xs + j) no_sub ≡ get_or ys j no_sub
      behind [] ys j less = let on : 0 + j ≡ j = omega arith in ap (λ (m : ℕ). get_or ys m no_sub) on
      behind (x ∷ xs) ys j less = let on : suc (length xs) + j ≡ suc (length xs + j) = omega arith in ap (λ (m : ℕ). get_or (x ∷ xs ++ ys) m no_sub) on ∙ behind xs ys j less

  numbered : (s : Sub) → s.subtask < length (subtasks_at us s.vertex) → IsNumbered next s
  numbered s lt = ⊎_elim
      (λ (same : s.vertex ≡ v).
      let less : s.subtask < count = subst (λ (m : ℕ). s.subtask < m) (ap (λ (u : ℕ). length (subtasks_at us u)) same ∙ count_at) lt in
      let number : number_of next s ≡ first + s.subtask = ap (λ (u : ℕ). get_or next.places u 0 + s.subtask) same ∙ ap (λ (m : ℕ). m + s.subtask) place_own in
      let at : ℕ → Sub = λ u. record { vertex = u; subtask = s.subtask } in
      record {
        within = omega (arith, number, less, subs_len);
        is = ap (sub_at next.subs) number ∙ sub_own s.subtask less ∙ ap at (sym same);
      })
      (λ (ne : s.vertex ≡ v → ⊥).
      let old = h.numbered s (subst (λ (made : MadeVertex). s.subtask < length made.subtasks) (at_other s.vertex ne) lt) in
      let number : number_of next s ≡ number_of numbering s = ap (λ (m : ℕ). m + s.subtask) (place_other s.vertex ne) in
      let within = old.within in
      record {
        within = omega (arith, number, within, subs_len);
        is = ap (sub_at next.subs) number ∙ get_or_append_left numbering.subs own no_sub (number_of numbering s) within ∙ old.is;
      })
      (cases_eq s.vertex v)

  old_number : (m : ℕ) → m < first → HasNumber us next m
  old_number m lt =
      let x = sub_at numbering.subs m in
      let old = h.numbers m lt in
      let ne = other x old.decided in
      let still = at_other x.vertex ne in
      let same : sub_at next.subs m ≡ x = get_or_append_left numbering.subs own no_sub m lt in
      let some : 0 < length (subtasks_at vs x.vertex) = let d = old.decided in omega (arith, d) in
      let less : m < length numbering.tasks.done = subst (λ (k : ℕ). m < k) h.subs_len lt in
      let under : All (λ read. read.producer < length numbering.subs) (reads_of numbering.tasks m) =
      All-filter (is_of m) (λ (read : Read). read.producer < length numbering.subs) numbering.tasks.reads (subst (λ (k : ℕ). All (λ read. read.producer < k) numbering.tasks.reads) (sym h.subs_len) h.producers) in
      let P : Sub → Type 0 = λ s. (s.subtask < length (subtasks_at us s.vertex)) × (number_of next s ≡ m) × (is_done next.tasks.done m ≡ is_finished us s) × (subs_read next m ≡ reads_from us s) in
      let here : P x = (
        subst (λ (made : MadeVertex). x.subtask < length made.subtasks) (sym still) old.decided,
        ap (λ (k : ℕ). k + x.subtask) (place_other x.vertex ne) ∙ old.is,
        same_done numbering.tasks lists m ∙ old.done ∙ ap (λ (made : MadeVertex). is_some (get_or made.subtasks x.subtask no_subtask).winner) (sym still),
        ap (λ (l : List Read). map (λ read. sub_at next.subs read.producer) l) (old_reads numbering.tasks lists m less)
            ∙ same_subs numbering.subs own (reads_of numbering.tasks m) under ∙ old.reads
            ∙ ap (λ (edges : List ReadEdge). map (λ edge. edge.sub) edges) (sym (edges_on vs us keeps x some (valid.decided x.vertex some).fed)),
      ) in
      let there = subst P (sym same) here in
      record { decided = there.0; is = there.1; done = there.2; reads = there.3 }

  new_number : (k m : ℕ) → k < count → m ≡ first + k → HasNumber us next m
  new_number k m lt is =
      let s : Sub = record { vertex = v; subtask = k } in
      let same : sub_at next.subs m ≡ s = ap (sub_at next.subs) is ∙ sub_own k lt in
      let past : is_done numbering.tasks.done m ≡ false = let l = h.subs_len in get_or_past numbering.tasks.done m false (omega (arith, is, l)) in
      let none : winner_at us s ≡ None = ap (λ (made : MadeVertex). (get_or made.subtasks k no_subtask).winner) at_v ∙ unwon_at decision k in
      let less : k < length lists = subst (λ (j : ℕ). k < j) (sym long) lt in
      let P : Sub → Type 0 = λ x. (x.subtask < length (subtasks_at us x.vertex)) × (number_of next x ≡ m) × (is_done next.tasks.done m ≡ is_finished us x) × (subs_read next m ≡ reads_from us x) in
      let here : P s = (
        subst (λ (j : ℕ). k < j) (sym count_at) lt,
        ap (λ (j : ℕ). j + k) place_own ∙ sym is,
        same_done numbering.tasks lists m ∙ past ∙ sym (ap is_some none),
        ap (λ (l : List Read). map (λ read. sub_at next.subs read.producer) l) (new_reads numbering.tasks lists k m less h.readers (is ∙ ap (λ (j : ℕ). j + k) h.subs_len))
            ∙ own_subs_read numbering.subs own m (get_or lists k []) (inside k [] less) ∙ reads k lt,
      ) in
      let there = subst P (sym same) here in
      record { decided = there.0; is = there.1; done = there.2; reads = there.3 }

  pub numbering_decided : All (λ read. read.producer < length next.tasks.done) next.tasks.reads → IsNumbering us next
  numbering_decided under = record {
    readers = readers_more numbering.tasks lists h.readers;
    producers = under;
    places_len =
        let a = length-set numbering.places v first in
        let b = length-set vs v (record (vertex_at vs v) { subtasks = map unwon decision }) in
        let d = h.places_len in
        omega (arith, a, b, d);
    subs_len = subs_len ∙ sym tasks_len;
    numbered = numbered;
    numbers = λ m lt. ⊎_elim
        (λ (old : m < first). old_number m old)
        (λ (le : first ≤ m). let is : m ≡ first + (m - first) = omega (arith, le) in new_number (m - first) m (omega (arith, lt, le, subs_len)) is)
        (cases_lt m first);
  }
