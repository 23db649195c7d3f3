-- The subtasks whose tasks run again are the closure.
use Rattle.std.proofs.Common.{◌≡◌, ℕ, suc, ◌<◌, ◌≤◌, Bool, List, [], ◌∷◌, ◌++◌, length, map, filter, get_or, Option, Some, None, refl, sym, ◌∙◌, ap, subst, arith, All, true, false, ◌&&◌, ◌||◌, inl, inr, ⊎_elim}
use Rattle.std.specs.Prelude.{◌⊎◌, ◌≢◌, AllPairs, Contains, IsTrue, IsFalse, nat_eq}
use Rattle.std.specs.Option.{option_map, option_map_or, is_some}
use Rattle.std.specs.List.{range_with_len}
use Rattle.std.proofs.lemmas.Bool.{cases_lt, false≢true}
use Rattle.std.proofs.lemmas.List.{get_or_past}
use Rattle.std.proofs.lemmas.List.Elements.{All-contains, Contains-append_cases, Contains-append_right, Contains-get_or}
use Rattle.estate.specs.declared.part_name.PartName.{PartName}
use Rattle.vertex_builder.specs.declared.vertex_input.VertexInput.{VertexInput}
use Rattle.reader_index.specs.Links.{IsInside}
use Rattle.reader_index.specs.Tasks.{Tasks, is_done, is_of, reads_of}
use Rattle.reader_index.specs.declared.read.Read.{Read}
use Rattle.graph_model.specs.declared.made_vertex.MadeVertex.{MadeVertex}
use Rattle.graph_model.specs.declared.sub.Sub.{Sub}
use Rattle.graph_model.specs.declared.subtask_state.SubtaskState.{SubtaskState}
use Rattle.graph_model.specs.declared.win.Win.{Win}
use Rattle.graph_model.specs.Closures.{HasReaders, IsClosed as Closes, IsClosure, IsGone, IsWanted as Wanted}
use Rattle.graph_model.specs.Indexes.{sub_at}
use Rattle.graph_model.specs.Reads.{ReadEdge, input_edges, inputs_edges, node_edges, read_edge, reads_from, touches_producer}
use Rattle.graph_model.specs.States.{is_finished, maker, no_subtask, subtask_at, subtasks_at, vertex_at, winner_at, winner_name}
use Rattle.graph_model.proofs.Laws.{cases_sub, in_map, none_is_some}
use Rattle.region_closure.specs.Closing.{AreAwaited, AreGone, AreNumbered, ArePicked, ClosureLaw, HasNumber}
use Rattle.rerun_set.specs.Reruns.{AreReruns, IsClosed, IsWanted, LeadsTo, Reads}
use Rattle.rerun_set.proofs.Laws.{from_filter, in_nothing, in_one, into_filter, same_number, same_yes}

-- ---- a subtask that reads is decided

nothing_touched : (numbers : List ℕ) → filter (touches_producer []) numbers ≡ []
nothing_touched [] = refl
nothing_touched (n ∷ numbers) = nothing_touched numbers

no_input_edges : (vs : List MadeVertex) (input : VertexInput) → input_edges vs input [] ≡ []
no_input_edges vs input = by input.from
  where
    by : (from : Option ℕ) → option_map_or (node_edges vs input []) from [] ≡ []
    by None = refl
    by (Some node) = ap (map (read_edge input (maker vs node))) (nothing_touched (range_with_len 0 (length (subtasks_at vs (maker vs node)))))

no_edges : (vs : List MadeVertex) (inputs : List VertexInput) (first : ℕ) → inputs_edges vs inputs first [] ≡ []
no_edges vs [] first = refl
no_edges vs (input ∷ inputs) first =
    ap (λ (l : List ReadEdge). l ++ inputs_edges vs inputs (suc first) []) (no_input_edges vs input) ∙ no_edges vs inputs (suc first)

reader_decided : (vs : List MadeVertex) (reader sub : Sub) → Contains (reads_from vs reader) sub → reader.subtask < length (subtasks_at vs reader.vertex)
reader_decided vs reader sub has = ⊎_elim
    (λ (lt : reader.subtask < length (subtasks_at vs reader.vertex)). lt)
    (λ (le : length (subtasks_at vs reader.vertex) ≤ reader.subtask).
    let inputs = (vertex_at vs reader.vertex).vertex.inputs in
    let none : subtask_at vs reader ≡ no_subtask = get_or_past (subtasks_at vs reader.vertex) reader.subtask no_subtask le in
    let nothing : reads_from vs reader ≡ [] =
    ap (λ (t : SubtaskState). map (λ (edge : ReadEdge). edge.sub) (inputs_edges vs inputs 0 t.reads)) none ∙ ap (map (λ (edge : ReadEdge). edge.sub)) (no_edges vs inputs 0) in
    absurd (in_nothing sub (subst (λ (l : List Sub). Contains l sub) nothing has)))
    (cases_lt reader.subtask (length (subtasks_at vs reader.vertex)))

pub finished_decided : (vs : List MadeVertex) (sub : Sub) → is_finished vs sub ≡ true → sub.subtask < length (subtasks_at vs sub.vertex)
finished_decided vs sub is = ⊎_elim
    (λ (lt : sub.subtask < length (subtasks_at vs sub.vertex)). lt)
    (λ (le : length (subtasks_at vs sub.vertex) ≤ sub.subtask).
    let none : subtask_at vs sub ≡ no_subtask = get_or_past (subtasks_at vs sub.vertex) sub.subtask no_subtask le in
    absurd (false≢true (sym (ap (λ (t : SubtaskState). is_some t.winner) none) ∙ is)))
    (cases_lt sub.subtask (length (subtasks_at vs sub.vertex)))

pub named_finished : (vs : List MadeVertex) (sub : Sub) (name : PartName) → winner_name vs sub ≡ Some name → is_finished vs sub ≡ true
named_finished vs sub name is = by (winner_at vs sub) is
  where
    by : (o : Option Win) → option_map (λ w. w.name) o ≡ Some name → is_some o ≡ true
    by None e = absurd (none_is_some name e)
    by (Some w) e = refl

gone_finished : (vs : List MadeVertex) (names : List PartName) (sub : Sub) → IsGone vs names sub → is_finished vs sub ≡ true
gone_finished vs names sub h = named_finished vs sub h.name h.won

-- ---- items

pub from_map : {X Y : Type 0} (f : X → Y) (xs : List X) (y : Y) → Contains (map f xs) y → (x : X) × Contains xs x × (f x ≡ y)
from_map f [] y has = absurd (in_nothing y has)
from_map {X = X} {Y = Y} f (x ∷ xs) y has = by (from_map f xs y) (Contains-append_cases (f x ∷ []) (map f xs) y has)
  where
    later : (z : X) × Contains xs z × (f z ≡ y) → (z : X) × Contains (x ∷ xs) z × (f z ≡ y)
    later (z, h, e) = (z, Contains-append_right (x ∷ []) xs z h, e)

    by : (Contains (map f xs) y → (z : X) × Contains xs z × (f z ≡ y)) → Contains (f x ∷ []) y ⊎ Contains (map f xs) y → (z : X) × Contains (x ∷ xs) z × (f z ≡ y)
    by rest (inl one) = (x, Contains-get_or (x ∷ xs) 0 x (omega arith), in_one (f x) y one)
    by rest (inr more) = later (rest more)

-- ---- sets of subtasks, as tests

abbrev is_same : {A : Type 0} → A ⊎ (A → ⊥) → Bool
is_same (inl a) = true
is_same (inr b) = false

abbrev is_in : List Sub → Sub → Bool
is_in [] sub = false
is_in (first ∷ subs) sub = is_same (cases_sub sub first) || is_in subs sub

in_has : (subs : List Sub) (sub : Sub) → is_in subs sub ≡ true → Contains subs sub
in_has [] sub e = absurd (false≢true e)
in_has (first ∷ subs) sub e = by (cases_sub sub first) e (in_has subs sub)
  where
    by : (c : (sub ≡ first) ⊎ (sub ≡ first → ⊥)) → (is_same c || is_in subs sub) ≡ true → (is_in subs sub ≡ true → Contains subs sub) → Contains (first ∷ subs) sub
    by (inl same) e rest = subst (λ (s : Sub). Contains (first ∷ subs) s) (sym same) (Contains-get_or (first ∷ subs) 0 first (omega arith))
    by (inr ne) e rest = Contains-append_right (first ∷ []) subs sub (rest e)

has_in : (subs : List Sub) (sub : Sub) → Contains subs sub → is_in subs sub ≡ true
has_in [] sub has = absurd (in_nothing sub has)
has_in (first ∷ subs) sub has = by (cases_sub sub first) (Contains-append_cases (first ∷ []) subs sub has) (has_in subs sub)
  where
    by : (c : (sub ≡ first) ⊎ (sub ≡ first → ⊥)) → Contains (first ∷ []) sub ⊎ Contains subs sub → (Contains subs sub → is_in subs sub ≡ true) → (is_same c || is_in subs sub) ≡ true
    by (inl same) has rest = refl
    by (inr ne) (inl one) rest = absurd (ne (sym (in_one first sub one)))
    by (inr ne) (inr more) rest = rest more

-- ---- the closure

module _ (vs : List MadeVertex) (names : List PartName) (subs : List Sub) (tasks : Tasks) (gone awaited again : List ℕ) (set : List Sub)
    (numbered : AreNumbered vs subs tasks) (are_gone : AreGone vs names subs gone) (are_awaited : AreAwaited vs subs gone awaited)
    (reruns : AreReruns tasks gone awaited again) (picked : ArePicked subs again set) where
  -- a number that reads is one of the list
  inside : (r p : ℕ) → Reads tasks r p → (r < length subs) × (p < length subs)
  inside r p (read, has, reader, producer) =
      let both = All-contains (IsInside (length subs)) tasks.reads read numbered.inside has in
      (subst (λ (n : ℕ). n < length subs) reader both.reader, subst (λ (n : ℕ). n < length subs) producer both.producer)

  gone_inside : (n : ℕ) → Contains gone n → n < length subs
  gone_inside n has = All-contains (λ m. m < length subs) gone n are_gone.inside has

  again_inside : (n : ℕ) → Contains again n → n < length subs
  again_inside n has = subst (λ (k : ℕ). n < k) numbered.len (All-contains (λ m. m < length tasks.done) again n reruns.inside has)

  -- by number, and by subtask
  reads_sub : (r p : ℕ) → Reads tasks r p → Contains (reads_from vs (sub_at subs r)) (sub_at subs p)
  reads_sub r p (read, has, reader, producer) =
      let lt = (inside r p (read, has, reader, producer)).0 in
      let yes : is_of r read ≡ true = ap (nat_eq r) reader ∙ same_yes r in
      let there = in_map (λ (x : Read). sub_at subs x.producer) (reads_of tasks r) read (into_filter (is_of r) tasks.reads read has yes) in
      subst (λ (n : ℕ). Contains (reads_from vs (sub_at subs r)) (sub_at subs n)) producer
      (subst (λ (l : List Sub). Contains l (sub_at subs read.producer)) (numbered.reads r lt) there)

  sub_reads : (r p : ℕ) → r < length subs → p < length subs → Contains (reads_from vs (sub_at subs r)) (sub_at subs p) → Reads tasks r p
  sub_reads r p lt less has = at (from_map (λ (x : Read). sub_at subs x.producer) (reads_of tasks r) (sub_at subs p) (subst (λ (l : List Sub). Contains l (sub_at subs p)) (sym (numbered.reads r lt)) has))
    where
      at : (read : Read) × Contains (reads_of tasks r) read × (sub_at subs read.producer ≡ sub_at subs p) → Reads tasks r p
      at (read, has, same) =
          let (there, is) = from_filter (is_of r) tasks.reads read has in
          let reader : read.reader ≡ r = sym (same_number r read.reader is) in
          let within = (All-contains (IsInside (length subs)) tasks.reads read numbered.inside there).producer in
          (read, there, reader, numbered.once read.producer p within less same)

  is_gone : (n : ℕ) → Contains gone n → IsGone vs names (sub_at subs n)
  is_gone n has = (are_gone.each n (gone_inside n has)).0 has

  is_lost : (n : ℕ) → IsWanted tasks gone awaited n → Contains gone n
  is_lost n (inl has) = ((are_awaited.each n).0 has).0
  is_lost n (inr (has, open_reader)) = has

  gone_done : (n : ℕ) → Contains gone n → is_done tasks.done n ≡ true
  gone_done n has = numbered.done n (gone_inside n has) ∙ gone_finished vs names (sub_at subs n) (is_gone n has)

  -- what runs again was done
  all_done : (n : ℕ) → Contains again n → is_done tasks.done n ≡ true
  all_done n has = All-contains (λ m. IsTrue (is_done tasks.done m)) again n (reruns.least (λ m. is_done tasks.done m) closed) has
    where
      done : (m k : ℕ) → LeadsTo tasks gone m k → is_done tasks.done k ≡ true
      done m k (inl (reads, is)) = is
      done m k (inr (reads, lost)) = gone_done k lost

      closed : IsClosed tasks gone awaited (λ m. IsTrue (is_done tasks.done m))
      closed = record {
        first = λ m wanted. gone_done m (is_lost m wanted);
        onward = λ m k here leads. done m k leads;
      }

  -- ---- in and out of the set

  in_set : (n : ℕ) (sub : Sub) → sub_at subs n ≡ sub → Contains again n → Contains set sub
  in_set n sub same is = subst (λ (s : Sub). Contains set s) same (picked.all n is)

  chosen : (n : ℕ) → n < length subs → Contains set (sub_at subs n) → Contains again n
  chosen n lt has = at (picked.picked (sub_at subs n) has)
    where
      at : (m : ℕ) × Contains again m × (sub_at subs m ≡ sub_at subs n) → Contains again n
      at (m, is, same) = subst (λ (k : ℕ). Contains again k) (numbered.once m n (again_inside m is) lt same) is

  finished : (sub : Sub) → Contains set sub → is_finished vs sub ≡ true
  finished sub has = at (picked.picked sub has)
    where
      at : (n : ℕ) × Contains again n × (sub_at subs n ≡ sub) → is_finished vs sub ≡ true
      at (n, is, same) = ap (is_finished vs) (sym same) ∙ sym (numbered.done n (again_inside n is)) ∙ all_done n is

  abbrev Lost : Sub → Type 0
  Lost sub = IsGone vs names sub → Wanted vs set sub → Contains set sub

  lost_number : (n : ℕ) → n < length subs → Lost (sub_at subs n)
  lost_number n lt is wanted = by wanted
    where
      there : Contains gone n
      there = (are_gone.each n lt).1 is

      first : IsWanted tasks gone awaited n → Contains set (sub_at subs n)
      first want = in_set n (sub_at subs n) refl (reruns.closed.first n want)

      by_reader : (reader : Sub) → HasNumber subs reader → Contains (reads_from vs reader) (sub_at subs n) → IsFalse (is_finished vs reader) ⊎ Contains set reader → Contains set (sub_at subs n)
      by_reader reader (r, less, same) reads (inl open_reader) =
          let here = subst (λ (s : Sub). Contains (reads_from vs s) (sub_at subs n)) (sym same) reads in
          first (inr (there, (r, sub_reads r n less lt here, numbered.done r less ∙ ap (is_finished vs) same ∙ open_reader)))
      by_reader reader (r, less, same) reads (inr also) =
          let here = subst (λ (s : Sub). Contains (reads_from vs s) (sub_at subs n)) (sym same) reads in
          let is = chosen r less (subst (λ (s : Sub). Contains set s) (sym same) also) in
          in_set n (sub_at subs n) refl (reruns.closed.onward r n is (inr (sub_reads r n less lt here, there)))

      by : Wanted vs set (sub_at subs n) → Contains set (sub_at subs n)
      by (inl outputs) = first (inl ((are_awaited.each n).1 (there, outputs)))
      by (inr (reader, reads, why)) = by_reader reader (numbered.each reader (reader_decided vs reader (sub_at subs n) reads)) reads why

  lost : (sub : Sub) → Lost sub
  lost sub is wanted = at (numbered.each sub (finished_decided vs sub (gone_finished vs names sub is)))
    where
      at : HasNumber subs sub → Contains set sub
      at (n, lt, same) =
          subst (λ (s : Sub). Contains set s) same
          (lost_number n lt (subst (λ (s : Sub). IsGone vs names s) (sym same) is) (subst (λ (s : Sub). Wanted vs set s) (sym same) wanted))

  readers : HasReaders vs set
  readers reader producer is reads has = at (numbered.each reader (finished_decided vs reader is)) (picked.picked producer has)
    where
      at : HasNumber subs reader → (p : ℕ) × Contains again p × (sub_at subs p ≡ producer) → Contains set reader
      at (r, less, same) (p, also, there) =
          let here = subst (λ (s : Sub). Contains (reads_from vs s) (sub_at subs p)) (sym same) (subst (λ (s : Sub). Contains (reads_from vs reader) s) (sym there) reads) in
          let done : is_done tasks.done r ≡ true = numbered.done r less ∙ ap (is_finished vs) same ∙ is in
          in_set r reader same (reruns.closed.onward p r also (inl (sub_reads r p less (again_inside p also) here, done)))

  -- ---- within each closed set

  module _ (other : List Sub) (closes : Closes vs names other) where
    wanted_by : (n : ℕ) → IsWanted tasks gone awaited n → Wanted vs other (sub_at subs n)
    wanted_by n (inl has) = inl ((are_awaited.each n).0 has).1
    wanted_by n (inr (has, (reader, reads, open_reader))) =
        inr (sub_at subs reader, reads_sub reader n reads, inl (sym (numbered.done reader (inside reader n reads).0) ∙ open_reader))

    onward : (n m : ℕ) → is_in other (sub_at subs n) ≡ true → LeadsTo tasks gone n m → is_in other (sub_at subs m) ≡ true
    onward n m is (inl (reads, done)) =
        let finishes : is_finished vs (sub_at subs m) ≡ true = sym (numbered.done m (inside m n reads).0) ∙ done in
        has_in other (sub_at subs m) (closes.readers (sub_at subs m) (sub_at subs n) finishes (reads_sub m n reads) (in_has other (sub_at subs n) is))
    onward n m is (inr (reads, there)) =
        has_in other (sub_at subs m) (closes.lost (sub_at subs m) (is_gone m there) (inr (sub_at subs n, reads_sub n m reads, inr (in_has other (sub_at subs n) is))))

    closed_too : IsClosed tasks gone awaited (λ n. IsTrue (is_in other (sub_at subs n)))
    closed_too = record {
      first = λ n want. has_in other (sub_at subs n) (closes.lost (sub_at subs n) (is_gone n (is_lost n want)) (wanted_by n want));
      onward = onward;
    }

    within : (sub : Sub) → Contains set sub → Contains other sub
    within sub has = at (picked.picked sub has)
      where
        at : (n : ℕ) × Contains again n × (sub_at subs n ≡ sub) → Contains other sub
        at (n, is, same) =
            subst (λ (s : Sub). Contains other s) same
            (in_has other (sub_at subs n) (All-contains (λ m. IsTrue (is_in other (sub_at subs m))) again n (reruns.least (λ m. is_in other (sub_at subs m)) closed_too) is))

  all_of : (P : Sub → Type 0) → ((sub : Sub) → Contains set sub → P sub) → All P set
  all_of P each k d lt = each (get_or set k d) (Contains-get_or set k d lt)

  is_closure : IsClosure vs names set
  is_closure = record {
    ascending = picked.ascending;
    finished = all_of (λ sub. IsTrue (is_finished vs sub)) finished;
    closed = record { lost = lost; readers = readers };
    least = λ other closes. all_of (λ sub. Contains other sub) (within other closes);
  }

pub closure_law : ClosureLaw
closure_law vs names subs tasks gone awaited again set numbered are_gone are_awaited reruns picked =
    is_closure vs names subs tasks gone awaited again set numbered are_gone are_awaited reruns picked

-- ---- numbers that stand apart

-- numbers each once are of subtasks each once
pub apart : (vs : List MadeVertex) (subs : List Sub) (tasks : Tasks) (numbers : List ℕ) → AreNumbered vs subs tasks → All (λ n. n < length subs) numbers → AllPairs ◌≢◌ numbers
    → AllPairs (λ n m. sub_at subs n ≢ sub_at subs m) numbers
apart vs subs tasks numbers numbered inside once i j d lt less same =
    once i j d lt less (numbered.once (get_or numbers i d) (get_or numbers j d) (inside i d (omega (arith, lt, less))) (inside j d less) same)
