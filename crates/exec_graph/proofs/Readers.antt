-- A subtask and those that read from it, found by numbers.
use Rattle.std.proofs.Common.{◌≡◌, ℕ, zero, suc, ◌+◌, ◌<◌, Bool, true, false, cond, List, [], ◌∷◌, ◌++◌, length, map, filter, get_or, refl, sym, ◌∙◌, ap, subst, arith, All, ⊎_elim, inl, inr}
use Rattle.std.specs.Prelude.{◌&&◌, ◌⊎◌, nat_eq, count_by, Contains}
use Rattle.std.proofs.lemmas.Bool.Decides.{nat_tests}
use Rattle.std.proofs.lemmas.List.{get_or_default, length-map}
use Rattle.std.proofs.lemmas.List.Elements.{All-contains, All-filter, All-head, All-map, All-push, All-tail, Contains-append_cases, Contains-append_left, Contains-append_right, Contains-get_or}
use Rattle.std.proofs.lemmas.List.Sums.{sum_by-cons}
use Rattle.event_graph.specs.Numbers.{IsNumbering, Numbering, number_of, subs_read}
use Rattle.graph_model.specs.declared.made_vertex.MadeVertex.{MadeVertex}
use Rattle.graph_model.specs.declared.sub.Sub.{Sub}
use Rattle.graph_model.specs.Indexes.{no_sub, sub_at}
use Rattle.graph_model.specs.Reads.{reads_from}
use Rattle.graph_model.proofs.Laws.{get_or-map, in_map, in_nothing, in_one}
use Rattle.reader_index.specs.Links.{no_read}
use Rattle.reader_index.specs.Tasks.{is_between, is_of, reads_of}
use Rattle.reader_index.specs.declared.read.Read.{Read}
use Rattle.ready_subtasks.specs.Marks.{IsDecidedSub}
use Rattle.ready_subtasks.specs.Touches.{AreTouched}

-- ---- counts

pub count_cons : {X : Type 0} (p : X → Bool) (x : X) (xs : List X) → count_by p (x ∷ xs) ≡ cond (p x) 1 0 + count_by p xs
count_cons p x xs = sum_by-cons (λ y. cond (p y) 1 0) x xs

equal_true : (n m : ℕ) → m ≡ n → nat_eq n m ≡ true
equal_true n m is = grind (arith, nat_tests)

is_equal : (m n : ℕ) → nat_eq m n ≡ true → n ≡ m
is_equal m n is = grind (arith, nat_tests)

-- who reads from a task is counted
reads_count : (reads : List Read) (m n k : ℕ) → k < length (filter (is_of m) reads) → (get_or (filter (is_of m) reads) k no_read).producer ≡ n → 0 < count_by (is_between m n) reads
reads_count [] m n k lt is = absurd (omega (arith, lt))
reads_count (read ∷ reads) m n k lt is = subst (λ (c : ℕ). 0 < c) (sym (count_cons (is_between m n) read reads)) (by (is_of m read) (reads_count reads m n) k lt is)
  where
    by : (own : Bool) → ((j : ℕ) → j < length (filter (is_of m) reads) → (get_or (filter (is_of m) reads) j no_read).producer ≡ n → 0 < count_by (is_between m n) reads)
        → (j : ℕ) → j < length (cond own (read ∷ filter (is_of m) reads) (filter (is_of m) reads))
        → (get_or (cond own (read ∷ filter (is_of m) reads) (filter (is_of m) reads)) j no_read).producer ≡ n
        → 0 < cond (own && nat_eq n read.producer) 1 0 + count_by (is_between m n) reads
    by true more zero less at =
        let equal : nat_eq n read.producer ≡ true = equal_true n read.producer at in
        subst (λ (b : Bool). 0 < cond b 1 0 + count_by (is_between m n) reads) (sym equal) (omega arith)
    by true more (suc j) less at = let some = more j (omega (arith, less)) at in omega (arith, some)
    by false more j less at = let some = more j less at in omega (arith, some)

-- and has a number below a bound where all readers have
counted_reader : (reads : List Read) (m n bound : ℕ) → 0 < count_by (is_between m n) reads → All (λ (r : Read). r.reader < bound) reads → m < bound
counted_reader [] m n bound some all = absurd (omega (arith, some))
counted_reader (read ∷ reads) m n bound some all =
    by (λ more. counted_reader reads m n bound more (All-tail (λ (r : Read). r.reader < bound) read reads all)) (nat_eq m read.reader) (nat_eq n read.producer) refl (subst (λ (c : ℕ). 0 < c) (count_cons (is_between m n) read reads) some)
  where
    by : (0 < count_by (is_between m n) reads → m < bound) → (own from : Bool) → nat_eq m read.reader ≡ own
        → 0 < cond (own && from) 1 0 + count_by (is_between m n) reads → m < bound
    by later true from is more = subst (λ (k : ℕ). k < bound) (is_equal m read.reader is) (All-head (λ (r : Read). r.reader < bound) read reads all)
    by later false from is more = later (omega (arith, more))

contains_counted : (ns : List ℕ) (m : ℕ) → 0 < count_by (nat_eq m) ns → Contains ns m
contains_counted [] m some = absurd (omega (arith, some))
contains_counted (n ∷ ns) m some = by (contains_counted ns m) (nat_eq m n) refl (subst (λ (c : ℕ). 0 < c) (count_cons (nat_eq m) n ns) some)
  where
    by : (0 < count_by (nat_eq m) ns → Contains ns m) → (own : Bool) → nat_eq m n ≡ own → 0 < cond own 1 0 + count_by (nat_eq m) ns → Contains (n ∷ ns) m
    by later true is more = subst (λ (k : ℕ). Contains (n ∷ ns) k) (is_equal m n is) (Contains-get_or (n ∷ ns) 0 n (omega arith))
    by later false is more = Contains-append_right (n ∷ []) ns m (later (omega (arith, more)))

counted_contains : (ns : List ℕ) (m : ℕ) → Contains ns m → 0 < count_by (nat_eq m) ns
counted_contains [] m has = absurd (in_nothing m has)
counted_contains (n ∷ ns) m has = subst (λ (c : ℕ). 0 < c) (sym (count_cons (nat_eq m) n ns)) (⊎_elim
    (λ (first : Contains (n ∷ []) m).
    let equal : nat_eq m n ≡ true = equal_true m n (sym (in_one n m first)) in
    subst (λ (b : Bool). 0 < cond b 1 0 + count_by (nat_eq m) ns) (sym equal) (omega arith))
    (λ (later : Contains ns m). let some = counted_contains ns m later in omega (arith, some))
    (Contains-append_cases (n ∷ []) ns m has))

-- ---- numbers

module _ (vs : List MadeVertex) (numbering : Numbering) (h : IsNumbering vs numbering) where
  abbrev of : Read → Sub
  of read = sub_at numbering.subs read.producer

  -- what a decided subtask reads from is the subtask of a read of its number
  read_of : (sub producer : Sub) → IsDecidedSub vs sub → Contains (reads_from vs sub) producer
      → (k : ℕ) × (k < length (reads_of numbering.tasks (number_of numbering sub))) × (of (get_or (reads_of numbering.tasks (number_of numbering sub)) k no_read) ≡ producer)
  read_of sub producer decided has = by (subst (λ (l : List Sub). Contains l producer) (sym reads) has)
    where
      n : ℕ
      n = number_of numbering sub

      reads : subs_read numbering (number_of numbering sub) ≡ reads_from vs sub
      reads = (h.numbers (number_of numbering sub) (h.numbered sub decided).within).reads ∙ ap (reads_from vs) (h.numbered sub decided).is

      by : Contains (subs_read numbering (number_of numbering sub)) producer
          → (k : ℕ) × (k < length (reads_of numbering.tasks (number_of numbering sub))) × (of (get_or (reads_of numbering.tasks (number_of numbering sub)) k no_read) ≡ producer)
      by (k, lt, at) =
          let l = reads_of numbering.tasks (number_of numbering sub) in
          let long = length-map l of in
          (k, omega (arith, lt, long), sym (get_or-map of l k no_read) ∙ get_or_default (map of l) k (of no_read) producer lt ∙ at)

  -- and has a number too
  producer_inside : (n k : ℕ) → k < length (reads_of numbering.tasks n) → (get_or (reads_of numbering.tasks n) k no_read).producer < length numbering.subs
  producer_inside n k lt = subst (λ (m : ℕ). (get_or (reads_of numbering.tasks n) k no_read).producer < m) (sym h.subs_len)
      (All-filter (is_of n) (λ (r : Read). r.producer < length numbering.tasks.done) numbering.tasks.reads h.producers k no_read lt)

  -- what is read from is decided
  read_decided : (sub producer : Sub) → IsDecidedSub vs sub → Contains (reads_from vs sub) producer → IsDecidedSub vs producer
  read_decided sub producer decided has = by (read_of sub producer decided has)
    where
      by : (k : ℕ) × (k < length (reads_of numbering.tasks (number_of numbering sub))) × (of (get_or (reads_of numbering.tasks (number_of numbering sub)) k no_read) ≡ producer) → IsDecidedSub vs producer
      by (k, lt, is) = subst (IsDecidedSub vs) is (h.numbers (get_or (reads_of numbering.tasks (number_of numbering sub)) k no_read).producer (producer_inside (number_of numbering sub) k lt)).decided

  -- a reader's number is among the readers' numbers
  reader_counted : (sub producer : Sub) → IsDecidedSub vs sub → Contains (reads_from vs sub) producer
      → 0 < count_by (is_between (number_of numbering sub) (number_of numbering producer)) numbering.tasks.reads
  reader_counted sub producer decided has = by (read_of sub producer decided has)
    where
      by : (k : ℕ) × (k < length (reads_of numbering.tasks (number_of numbering sub))) × (of (get_or (reads_of numbering.tasks (number_of numbering sub)) k no_read) ≡ producer)
          → 0 < count_by (is_between (number_of numbering sub) (number_of numbering producer)) numbering.tasks.reads
      by (k, lt, is) =
          let n = number_of numbering sub in
          let q = (get_or (reads_of numbering.tasks n) k no_read).producer in
          reads_count numbering.tasks.reads n (number_of numbering producer) k lt (sym (h.numbers q (producer_inside n k lt)).is ∙ ap (number_of numbering) is)

  -- where it isn't decided, nothing reads from it
  pub touched_none : (sub : Sub) → (IsDecidedSub vs sub → ⊥) → AreTouched vs (sub ∷ []) []
  touched_none sub undecided = record {
    decided = λ k d lt. absurd (omega (arith, lt));
    own = λ other decided has. absurd (undecided (subst (IsDecidedSub vs) (in_one sub other has) decided));
    readers = λ other producer decided reads has. absurd (undecided (subst (IsDecidedSub vs) (in_one sub producer has) (read_decided other producer decided reads)));
  }

  module _ (sub : Sub) (decided : IsDecidedSub vs sub) (readers : List ℕ)
      (counts : (n : ℕ) → count_by (nat_eq n) readers ≡ count_by (is_between n (number_of numbering sub)) numbering.tasks.reads) where
    pub readers_inside : All (λ n. n < length numbering.subs) readers
    readers_inside k d lt =
        let m = get_or readers k d in
        subst (λ (bound : ℕ). m < bound) (sym h.subs_len)
        (counted_reader numbering.tasks.reads m (number_of numbering sub) (length numbering.tasks.done)
        (subst (λ (c : ℕ). 0 < c) (counts m) (counted_contains readers m (Contains-get_or readers k d lt))) h.readers)

    pub touched_readers : AreTouched vs (sub ∷ []) (map (sub_at numbering.subs) readers ++ sub ∷ [])
    touched_readers =
        let subs = map (sub_at numbering.subs) readers in
        record {
          decided = All-push (IsDecidedSub vs) subs sub
              (All-map (IsDecidedSub vs) (sub_at numbering.subs) readers (λ k d lt. (h.numbers (get_or readers k d) (readers_inside k d lt)).decided))
              decided;
          own = λ other _ has. Contains-append_right subs (sub ∷ []) other has;
          readers = λ other producer lt reads has.
              let n = number_of numbering other in
              let some : 0 < count_by (is_between n (number_of numbering sub)) numbering.tasks.reads =
              subst (λ (p : Sub). 0 < count_by (is_between n (number_of numbering p)) numbering.tasks.reads) (in_one sub producer has) (reader_counted other producer lt reads) in
              Contains-append_left subs (sub ∷ []) other
              (subst (λ (s : Sub). Contains subs s) (h.numbered other lt).is
              (in_map (sub_at numbering.subs) readers n (contains_counted readers n (subst (λ (c : ℕ). 0 < c) (sym (counts n)) some))));
        }

  -- each decided subtask is numbered
  pub numbered_in : (sub : Sub) → IsDecidedSub vs sub → Contains numbering.subs sub
  numbered_in sub decided =
      let n = number_of numbering sub in
      subst (λ (s : Sub). Contains numbering.subs s) (h.numbered sub decided).is (Contains-get_or numbering.subs n no_sub (h.numbered sub decided).within)

-- ---- several subtasks

pub touched_nothing : (vs : List MadeVertex) → AreTouched vs [] []
touched_nothing vs = record {
  decided = λ k d lt. absurd (omega (arith, lt));
  own = λ sub decided has. absurd (in_nothing sub has);
  readers = λ sub producer decided reads has. absurd (in_nothing producer has);
}

pub touched_both : (vs : List MadeVertex) (front back touched more : List Sub) → AreTouched vs front touched → AreTouched vs back more → AreTouched vs (front ++ back) (touched ++ more)
touched_both vs front back touched more a b = record {
  decided = λ k d lt. decided (get_or (touched ++ more) k d) (Contains-append_cases touched more (get_or (touched ++ more) k d) (Contains-get_or (touched ++ more) k d lt));
  own = λ sub lt has. ⊎_elim
      (λ (h : Contains front sub). Contains-append_left touched more sub (a.own sub lt h))
      (λ (h : Contains back sub). Contains-append_right touched more sub (b.own sub lt h))
      (Contains-append_cases front back sub has);
  readers = λ sub producer lt reads has. ⊎_elim
      (λ (h : Contains front producer). Contains-append_left touched more sub (a.readers sub producer lt reads h))
      (λ (h : Contains back producer). Contains-append_right touched more sub (b.readers sub producer lt reads h))
      (Contains-append_cases front back producer has);
}
  where
    decided : (sub : Sub) → Contains touched sub ⊎ Contains more sub → IsDecidedSub vs sub
    decided sub (inl has) = All-contains (IsDecidedSub vs) touched sub a.decided has
    decided sub (inr has) = All-contains (IsDecidedSub vs) more sub b.decided has
