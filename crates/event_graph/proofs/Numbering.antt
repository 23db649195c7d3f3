-- The numbers of subtasks, where a winner comes or goes, a vertex is made, and a vertex is decided.
use Rattle.std.proofs.Common.{◌≡◌, ℕ, zero, suc, ◌+◌, ◌<◌, ◌≤◌, Bool, false, List, [], ◌∷◌, ◌++◌, length, map, get_or, Option, refl, sym, ◌∙◌, ap, subst, arith, All, ⊎_elim}
use Rattle.std.specs.Option.{is_some}
use Rattle.std.proofs.lemmas.Bool.{cases_eq, cases_lt}
use Rattle.std.proofs.lemmas.List.{length_push, length-set, get_or_push, get_or_past, get_or_append_left, get_or-set_same, get_or-set_other}
use Rattle.graph_model.specs.declared.made_vertex.MadeVertex.{MadeVertex}
use Rattle.graph_model.specs.declared.sub.Sub.{Sub}
use Rattle.graph_model.specs.declared.win.Win.{Win}
use Rattle.graph_model.specs.Indexes.{sub_at}
use Rattle.graph_model.specs.Reads.{ReadEdge}
use Rattle.graph_model.specs.States.{no_subtask, no_vertex, vertex_at, subtasks_at, is_finished, put_winner}
use Rattle.graph_model.specs.Valid.{IsFed}
use Rattle.graph_model.proofs.Laws.{KeepsFed, KeepsReads, edges_on, edges-same, put-keeps, put-same, put-other, same_count}
use Rattle.reader_index.specs.Tasks.{is_done, with_done}
use Rattle.event_graph.specs.Numbers.{IsNumbering, Numbering, number_of}

-- ---- a winner comes or goes

abbrev pub put_done : Numbering → Sub → Bool → Numbering
put_done numbering sub done = record numbering { tasks = with_done numbering.tasks (number_of numbering sub) done }

module _ (vs : List MadeVertex) (numbering : Numbering) (sub : Sub) (winner : Option Win) (h : IsNumbering vs numbering) (decided : sub.subtask < length (subtasks_at vs sub.vertex)) where
  abbrev us : List MadeVertex
  us = put_winner vs sub winner

  abbrev n : ℕ
  n = number_of numbering sub

  abbrev next : Numbering
  next = put_done numbering sub (is_some winner)

  keeps : KeepsReads vs us
  keeps = put-keeps vs sub winner

  count : (v : ℕ) → length (subtasks_at us v) ≡ length (subtasks_at vs v)
  count v = same_count vs us keeps v

  inside : n < length numbering.tasks.done
  inside = subst (λ (m : ℕ). n < m) h.subs_len (h.numbered sub decided).within

  done_at : (m : ℕ) → m < length numbering.subs → is_done next.tasks.done m ≡ is_finished us (sub_at numbering.subs m)
  done_at m lt =
      let x = sub_at numbering.subs m in
      let old = h.numbers m lt in
      ⊎_elim
      (λ (same : m ≡ n).
      let there : x ≡ sub = ap (sub_at numbering.subs) same ∙ (h.numbered sub decided).is in
      ap (λ (k : ℕ). is_done next.tasks.done k) same ∙ get_or-set_same numbering.tasks.done n (is_some winner) false inside
      ∙ ap (λ (o : Option Win). is_some o) (sym (put-same vs sub winner decided)) ∙ ap (is_finished us) (sym there))
      (λ (ne : m ≡ n → ⊥).
      let apart : x ≡ sub → ⊥ = λ e. ne (sym old.is ∙ ap (number_of numbering) e) in
      get_or-set_other numbering.tasks.done n m (is_some winner) false ne ∙ old.done ∙ ap (λ (o : Option Win). is_some o) (sym (put-other vs sub x winner apart)))
      (cases_eq m n)

  pub numbering_put : IsNumbering us next
  numbering_put = record {
    readers = subst (λ (k : ℕ). All (λ read. read.reader < k) numbering.tasks.reads) (sym (length-set numbering.tasks.done n (is_some winner))) h.readers;
    producers = subst (λ (k : ℕ). All (λ read. read.producer < k) numbering.tasks.reads) (sym (length-set numbering.tasks.done n (is_some winner))) h.producers;
    places_len = let a = h.places_len in let b = keeps.len in omega (arith, a, b);
    subs_len = h.subs_len ∙ sym (length-set numbering.tasks.done n (is_some winner));
    numbered = λ s lt.
        let old = h.numbered s (subst (λ (m : ℕ). s.subtask < m) (count s.vertex) lt) in
        record { within = old.within; is = old.is };
    numbers = λ m lt.
        let x = sub_at numbering.subs m in
        let old = h.numbers m lt in
        record {
          decided = subst (λ (k : ℕ). x.subtask < k) (sym (count x.vertex)) old.decided;
          is = old.is;
          done = done_at m lt;
          reads = old.reads ∙ ap (λ (edges : List ReadEdge). map (λ edge. edge.sub) edges) (sym (edges-same vs us keeps x));
        };
  }

-- ---- a vertex is made

pub push_none : (xs : List ℕ) (k : ℕ) → get_or (xs ++ 0 ∷ []) k 0 ≡ get_or xs k 0
push_none [] zero = refl
push_none [] (suc k) = refl
push_none (x ∷ xs) zero = refl
push_none (x ∷ xs) (suc k) = push_none xs k

pub numbering_made : (vs : List MadeVertex) (new : MadeVertex) (numbering : Numbering) (places : List ℕ) → new.subtasks ≡ [] → KeepsFed vs (vs ++ new ∷ [])
    → ((v : ℕ) → 0 < length (subtasks_at vs v) → All (IsFed vs) (vertex_at vs v).vertex.inputs) → length vs < length places
    → ((k : ℕ) → get_or places k 0 ≡ get_or numbering.places k 0) → IsNumbering vs numbering
    → IsNumbering (vs ++ new ∷ []) (record numbering { places = places })
numbering_made vs new numbering places none keeps fed more same h =
    let us = vs ++ new ∷ [] in
    let next : Numbering = record numbering { places = places } in
    let number : (s : Sub) → number_of next s ≡ number_of numbering s = λ s. ap (λ (k : ℕ). k + s.subtask) (same s.vertex) in
    record {
      readers = h.readers;
      producers = h.producers;
      places_len = let long = length_push vs new in omega (arith, long, more);
      subs_len = h.subs_len;
      numbered = λ s lt.
          let old = h.numbered s (before s.vertex s.subtask lt) in
          record {
            within = subst (λ (k : ℕ). k < length numbering.subs) (sym (number s)) old.within;
            is = ap (sub_at numbering.subs) (number s) ∙ old.is;
          };
      numbers = λ m lt.
          let x = sub_at numbering.subs m in
          let old = h.numbers m lt in
          let some : 0 < length (subtasks_at vs x.vertex) = let d = old.decided in omega (arith, d) in
          let still = keeps.still x.vertex some in
          record {
            decided = subst (λ (made : MadeVertex). x.subtask < length made.subtasks) (sym still) old.decided;
            is = number x ∙ old.is;
            done = old.done ∙ ap (λ (made : MadeVertex). is_some (get_or made.subtasks x.subtask no_subtask).winner) (sym still);
            reads = old.reads ∙ ap (λ (edges : List ReadEdge). map (λ edge. edge.sub) edges) (sym (edges_on vs us keeps x some (fed x.vertex some)));
          };
    }
  where
    -- who is decided now was decided before
    before : (v k : ℕ) → k < length (subtasks_at (vs ++ new ∷ []) v) → k < length (subtasks_at vs v)
    before v k lt = ⊎_elim
        (λ (old : v < length vs). subst (λ (made : MadeVertex). k < length made.subtasks) (get_or_append_left vs (new ∷ []) no_vertex v old) lt)
        (λ (le : length vs ≤ v). ⊎_elim
        (λ (is : v ≡ length vs).
        let here = subst (λ (made : MadeVertex). k < length made.subtasks) (get_or_push vs new no_vertex v (sym is)) lt in
        let empty = ap length none in
        absurd (omega (arith, here, empty)))
        (λ (ne : v ≡ length vs → ⊥).
        let long = length_push vs new in
        let here = subst (λ (made : MadeVertex). k < length made.subtasks) (get_or_past (vs ++ new ∷ []) v no_vertex (omega (arith, le, ne, long))) lt in
        absurd (omega (arith, here)))
        (cases_eq v (length vs)))
        (cases_lt v (length vs))

-- ---- more places, of which none counts yet

pub covered_is : (numbering next : Numbering) → next.subs ≡ numbering.subs → next.tasks ≡ numbering.tasks → record numbering { places = next.places } ≡ next
covered_is numbering next subs tasks =
    let a = sym subs in
    let b = sym tasks in
    (λ i. record { places = next.places; subs = a i; tasks = b i })

pub numbering_covered : (vs : List MadeVertex) (numbering next : Numbering) → IsNumbering vs numbering → length numbering.places ≤ length next.places
    → ((k : ℕ) → get_or next.places k 0 ≡ get_or numbering.places k 0) → next.subs ≡ numbering.subs → next.tasks ≡ numbering.tasks → IsNumbering vs next
numbering_covered vs numbering next h more same subs tasks =
    let number : (s : Sub) → number_of (record numbering { places = next.places }) s ≡ number_of numbering s = λ s. ap (λ (k : ℕ). k + s.subtask) (same s.vertex) in
    let at : IsNumbering vs (record numbering { places = next.places }) = record {
      readers = h.readers;
      producers = h.producers;
      places_len = let long = h.places_len in omega (arith, long, more);
      subs_len = h.subs_len;
      numbered = λ s lt. record {
        within = subst (λ (k : ℕ). k < length numbering.subs) (sym (number s)) (h.numbered s lt).within;
        is = ap (sub_at numbering.subs) (number s) ∙ (h.numbered s lt).is;
      };
      numbers = λ m lt.
          let old = h.numbers m lt in
          record { decided = old.decided; is = number (sub_at numbering.subs m) ∙ old.is; done = old.done; reads = old.reads };
    } in
    subst (λ (n : Numbering). IsNumbering vs n) (covered_is numbering next subs tasks) at
