-- Marks that are put, and the list of the marked subtasks.
use Rattle.std.proofs.Common.{◌≡◌, ℕ, ◌+◌, ◌-◌, ◌<◌, ◌≤◌, Bool, true, false, List, [], ◌∷◌, ◌++◌, length, map, filter, get_or, set, refl, sym, ◌∙◌, ap, arith, All, ⊎_elim}
use Rattle.std.specs.Prelude.{◌^◌, replicate}
use Rattle.std.specs.List.{flat_map, range_with_len}
use Rattle.std.proofs.lemmas.Bool.{cases_eq, cases_lt, false≢true}
use Rattle.std.proofs.lemmas.List.{length-set, length-replicate, get_or-replicate, get_or-set_same, get_or-set_other, get_or_past, set_past}
use Rattle.std.proofs.lemmas.List.Elements.{All-filter, All-map}
use Rattle.attempt_names.specs.Attempts.{Attempts}
use Rattle.graph_model.specs.declared.made_vertex.MadeVertex.{MadeVertex}
use Rattle.graph_model.specs.declared.sub.Sub.{Sub}
use Rattle.graph_model.specs.States.{no_vertex, subtasks_at}
use Rattle.graph_model.proofs.Laws.{same_sub}
use Rattle.number_set.specs.Members.{IsEmpty, is_marked, members}
use Rattle.number_set.specs.Pairs.{IsFirstPair, group_at, pair_of, pairs, pairs_at}
use Rattle.number_set.specs.declared.pair.Pair.{Pair}
use Rattle.ready_subtasks.specs.Marks.{AreSmall, IsReadiness, MarkedLaw, mark_at, marked_subs, put_mark, sub_of_pair}
use Rattle.ready_subtasks.specs.Ready.{is_ready, own_subs, sub_in, subs_of}
use Rattle.ready_subtasks.proofs.Lists.{all_flat_map, range_all, filter-begins, filter-flat_map, filter-map, filter-range, flat_map-agree, flat_map-begins, flat_map-nothing, flat_map-short, map-flat_map, map-map}

-- ---- one mark

-- a mark that is set stands in a group
pub group_within : (marks : List (List Bool)) (v : ℕ) → 0 < length (group_at marks v) → v < length marks
group_within marks v some = ⊎_elim (λ (lt : v < length marks). lt)
    (λ (le : length marks ≤ v). let none = ap (length {A = Bool}) (get_or_past marks v [] le) in absurd (omega (arith, none, some)))
    (cases_lt v (length marks))

pub mark_within : (marks : List Bool) (n : ℕ) → is_marked marks n ≡ true → n < length marks
mark_within marks n is = ⊎_elim (λ (lt : n < length marks). lt)
    (λ (le : length marks ≤ n). absurd (false≢true (sym (get_or_past marks n false le) ∙ is)))
    (cases_lt n (length marks))

pub put_len : (marks : List (List Bool)) (sub : Sub) (mark : Bool) → length (put_mark marks sub mark) ≡ length marks
put_len marks sub mark = length-set marks sub.vertex (set (group_at marks sub.vertex) sub.subtask mark)

pub put_sizes : (marks : List (List Bool)) (sub : Sub) (mark : Bool) (v : ℕ) → length (group_at (put_mark marks sub mark) v) ≡ length (group_at marks v)
put_sizes marks sub mark v =
    let group = set (group_at marks sub.vertex) sub.subtask mark in
    ⊎_elim
    (λ (is : v ≡ sub.vertex). ⊎_elim
    (λ (lt : sub.vertex < length marks).
    ap (λ (k : ℕ). length (group_at (put_mark marks sub mark) k)) is ∙ ap (length {A = Bool}) (get_or-set_same marks sub.vertex group [] lt)
    ∙ length-set (group_at marks sub.vertex) sub.subtask mark ∙ ap (λ (k : ℕ). length (group_at marks k)) (sym is))
    (λ (le : length marks ≤ sub.vertex). ap (λ (l : List (List Bool)). length (group_at l v)) (set_past marks sub.vertex group le))
    (cases_lt sub.vertex (length marks)))
    (λ (ne : v ≡ sub.vertex → ⊥). ap (length {A = Bool}) (get_or-set_other marks sub.vertex v group [] ne))
    (cases_eq v sub.vertex)

pub put_here : (marks : List (List Bool)) (sub : Sub) (mark : Bool) → sub.subtask < length (group_at marks sub.vertex) → mark_at (put_mark marks sub mark) sub ≡ mark
put_here marks sub mark lt =
    let inside = group_within marks sub.vertex (omega (arith, lt)) in
    ap (λ (l : List Bool). is_marked l sub.subtask) (get_or-set_same marks sub.vertex (set (group_at marks sub.vertex) sub.subtask mark) [] inside)
    ∙ get_or-set_same (group_at marks sub.vertex) sub.subtask mark false lt

pub put_there : (marks : List (List Bool)) (sub other : Sub) (mark : Bool) → (other ≡ sub → ⊥) → mark_at (put_mark marks sub mark) other ≡ mark_at marks other
put_there marks sub other mark ne =
    let group = set (group_at marks sub.vertex) sub.subtask mark in
    ⊎_elim
    (λ (is : other.vertex ≡ sub.vertex).
    let apart : other.subtask ≡ sub.subtask → ⊥ = λ same. ne (same_sub other sub is same) in
    ⊎_elim
    (λ (lt : sub.vertex < length marks).
    ap (λ (k : ℕ). is_marked (group_at (put_mark marks sub mark) k) other.subtask) is
    ∙ ap (λ (l : List Bool). is_marked l other.subtask) (get_or-set_same marks sub.vertex group [] lt)
    ∙ get_or-set_other (group_at marks sub.vertex) sub.subtask other.subtask mark false apart
    ∙ ap (λ (k : ℕ). is_marked (group_at marks k) other.subtask) (sym is))
    (λ (le : length marks ≤ sub.vertex). ap (λ (l : List (List Bool)). mark_at l other) (set_past marks sub.vertex group le))
    (cases_lt sub.vertex (length marks)))
    (λ (differ : other.vertex ≡ sub.vertex → ⊥). ap (λ (l : List Bool). is_marked l other.subtask) (get_or-set_other marks sub.vertex other.vertex group [] differ))
    (cases_eq other.vertex sub.vertex)

-- ---- numbers that a Sub can have

pub small_none : (count : ℕ) → count ≤ 2 ^ 32 → AreSmall (replicate count [])
small_none count few =
    let long : length {A = List Bool} (replicate count []) ≡ count = length-replicate count [] in
    record {
      vertices = omega (arith, long, few);
      subtasks = λ v. let none = ap (length {A = Bool}) (nothing v) in omega (arith, none);
    }
  where
    nothing : (v : ℕ) → group_at (replicate count []) v ≡ []
    nothing v = ⊎_elim
        (λ (lt : v < count). get_or-replicate count v [] [] lt)
        (λ (le : count ≤ v). let long : length {A = List Bool} (replicate count []) ≡ count = length-replicate count [] in get_or_past (replicate count []) v [] (omega (arith, long, le)))
        (cases_lt v count)

pub small_set : (marks : List (List Bool)) (v : ℕ) (group : List Bool) → AreSmall marks → length group < 2 ^ 32 → AreSmall (set marks v group)
small_set marks v group small few = record {
  vertices = let len = length-set marks v group in let old = small.vertices in omega (arith, len, old);
  subtasks = λ u. ⊎_elim
      (λ (is : u ≡ v). ⊎_elim
      (λ (lt : v < length marks).
      let here = ap (λ (k : ℕ). length (group_at (set marks v group) k)) is ∙ ap (length {A = Bool}) (get_or-set_same marks v group [] lt) in
      omega (arith, here, few))
      (λ (le : length marks ≤ v). let same = ap (λ (l : List (List Bool)). length (group_at l u)) (set_past marks v group le) in let old = small.subtasks u in omega (arith, same, old))
      (cases_lt v (length marks)))
      (λ (ne : u ≡ v → ⊥). let same = ap (length {A = Bool}) (get_or-set_other marks v u group [] ne) in let old = small.subtasks u in omega (arith, same, old))
      (cases_eq u v);
}

pub small_put : (marks : List (List Bool)) (sub : Sub) (mark : Bool) → AreSmall marks → AreSmall (put_mark marks sub mark)
small_put marks sub mark small = record {
  vertices = let len = put_len marks sub mark in let old = small.vertices in omega (arith, len, old);
  subtasks = λ v. let same = put_sizes marks sub mark v in let old = small.subtasks v in omega (arith, same, old);
}

-- ---- the marked subtasks are the ready ones

-- the same for one vertex
same_at : (vertices : List MadeVertex) (attempts : Attempts) (marks : List (List Bool)) → IsReadiness vertices attempts marks → (v : ℕ)
    → map sub_of_pair (pairs_at marks v) ≡ filter (is_ready vertices attempts) (subs_of vertices v)
same_at vertices attempts marks h v =
    let group = group_at marks v in
    let count = length (subtasks_at vertices v) in
    map-map sub_of_pair (pair_of v) (members group)
    ∙ ap (λ (n : ℕ). map (sub_in v) (filter (is_marked group) (range_with_len 0 n))) (h.sizes v)
    ∙ ap (map (sub_in v)) (filter-range (is_marked group) (λ k. is_ready vertices attempts (sub_in v k)) 0 count (λ k lt. h.is (sub_in v k) (omega (arith, lt))))
    ∙ sym (filter-map (is_ready vertices attempts) (sub_in v) (range_with_len 0 count))

pub marked_law : MarkedLaw
marked_law vertices attempts marks h =
    let n = length vertices in
    let ready : ℕ → List Sub = λ v. filter (is_ready vertices attempts) (subs_of vertices v) in
    let is : length marks ≡ n + (length marks - n) = let le = h.len in omega (arith, le) in
    map-flat_map sub_of_pair (pairs_at marks) (range_with_len 0 (length marks))
    ∙ flat_map-agree (λ v. map sub_of_pair (pairs_at marks v)) ready (range_with_len 0 (length marks)) (same_at vertices attempts marks h)
    ∙ ap (λ (m : ℕ). flat_map ready (range_with_len 0 m)) is
    ∙ flat_map-short ready 0 n (length marks - n) (λ v le. ap (λ (made : MadeVertex). filter (is_ready vertices attempts) (own_subs v (length made.subtasks))) (get_or_past vertices v no_vertex (omega (arith, le))))
    ∙ sym (filter-flat_map (is_ready vertices attempts) (subs_of vertices) (range_with_len 0 n))

-- ---- the first one

no_pairs : (marks : List (List Bool)) (v : ℕ) → IsEmpty (group_at marks v) → pairs_at marks v ≡ []
no_pairs marks v empty =
    let group = group_at marks v in
    ap (map (pair_of v)) (filter-range (is_marked group) (λ k. false) 0 (length group) (λ k lt. empty k) ∙ never (range_with_len 0 (length group)))
  where
    never : (ns : List ℕ) → filter (λ k. false) ns ≡ []
    never [] = refl
    never (n ∷ ns) = never ns

pub first_begins : (marks : List (List Bool)) (pair : Pair) → IsFirstPair marks pair → (rest : List Sub) × (marked_subs marks ≡ sub_of_pair pair ∷ rest)
first_begins marks pair first =
    let v = pair.group in
    let n = pair.number in
    let group = group_at marks v in
    let is : is_marked group n ≡ true = first.first.is in
    let within = mark_within group n is in
    let inside = group_within marks v (omega (arith, within)) in
    let zero_v : 0 + v ≡ v = omega arith in
    let zero_n : 0 + n ≡ n = omega arith in
    let own = filter-begins (is_marked group) 0 (length group) n (λ k le lt. first.first.before k (omega (arith, lt))) (ap (is_marked group) zero_n ∙ is) within in
    let all = flat_map-begins (pairs_at marks) 0 (length marks) v (λ g le lt. no_pairs marks g (first.before g (omega (arith, lt)))) inside in
    let here : pairs_at marks v ≡ pair_of v n ∷ map (pair_of v) own.0 = ap (map (pair_of v)) own.1 ∙ ap (λ (k : ℕ). pair_of v k ∷ map (pair_of v) own.0) zero_n in (
      map sub_of_pair (map (pair_of v) own.0 ++ all.0),
      ap (map sub_of_pair) (all.1 ∙ ap (λ (g : ℕ). pairs_at marks g ++ all.0) zero_v ∙ ap (λ (l : List Pair). l ++ all.0) here),
    )

pub none_marked : (marks : List (List Bool)) → ((g : ℕ) → IsEmpty (group_at marks g)) → marked_subs marks ≡ []
none_marked marks empty = ap (map sub_of_pair) (flat_map-nothing (pairs_at marks) 0 (length marks) (λ g le. no_pairs marks g (empty g)))

-- ---- each pair's numbers are small

abbrev pub IsSmallPair : Pair → Type 0
IsSmallPair pair = (pair.group < 2 ^ 32) × (pair.number < 2 ^ 32)

pub pairs_small : (marks : List (List Bool)) → AreSmall marks → All IsSmallPair (pairs marks)
pairs_small marks small = all_flat_map IsSmallPair (pairs_at marks) (range_with_len 0 (length marks))
    (λ j d lt.
    let g = get_or (range_with_len 0 (length marks)) j d in
    let group = group_at marks g in
    let inside : g < length marks = range_all (length marks) j d lt in
    let few = small.vertices in
    let short = small.subtasks g in
    All-map IsSmallPair (pair_of g) (members group)
    (All-filter (is_marked group) (λ k. IsSmallPair (pair_of g k)) (range_with_len 0 (length group))
    (λ k e less. let own : get_or (range_with_len 0 (length group)) k e < length group = range_all (length group) k e less in (omega (arith, inside, few), omega (arith, own, short)))))
