-- An index with one task more, and with a task that is done or no longer.
use Rattle.std.proofs.Common.{◌≡◌, ℕ, zero, suc, ◌+◌, ◌-◌, ◌<◌, ◌≤◌, Bool, true, false, not, ◌&&◌, cond, List, [], ◌∷◌, ◌++◌, length, map, filter, take, drop, get_or, set, refl, sym, ◌∙◌, ap, subst, arith, All, nat_eq, ⊎_elim}
use Rattle.std.specs.Prelude.{count_by}
use Rattle.std.proofs.lemmas.Bool.{cases_eq, cases_lt}
use Rattle.std.proofs.lemmas.List.{append-nil, length_push, length-append, length-set, get_or_push, get_or_past, get_or_append_left, get_or-set_same, take-append-le, drop-append-le, length-drop, take_all}
use Rattle.std.proofs.lemmas.List.Elements.{filter-append}
use Rattle.std.proofs.lemmas.List.Sums.{sum_by-append, sum_by_push, sum_by-set}
use Rattle.std.proofs.Math.Seq.{drop-append_seam}
use Rattle.reader_index.specs.Links.{AreEnds, AreLinked, IsIndex, chain_at, start_of}
use Rattle.reader_index.specs.Tasks.{Tasks, is_done, is_of, is_waiting, missing, no_tasks, read_by, with_done, with_task}
use Rattle.reader_index.specs.declared.read.Read.{Read}
use Rattle.reader_index.proofs.Chains.{as_one}
use Rattle.reader_index.proofs.Counting.{all_own, count_same, none_of, none_waiting, others_own, others_waiting, own_waiting, waiting_flips}
use Rattle.reader_index.proofs.Linking.{push_default, none_linked}

abbrev nothing : List ℕ
nothing = []

nothing_at : (k : ℕ) → get_or nothing k 0 ≡ 0
nothing_at k = get_or_past nothing k 0 (omega arith)

pub none_index : IsIndex no_tasks [] [] [] [] 0
none_index = record {
  linked = none_linked;
  ends_len = refl;
  ended = record {
    whole = refl;
    order = λ n lt. absurd (omega (arith, lt));
    within = λ n. let e = nothing_at n in omega (arith, e);
    each = λ n lt. absurd (omega (arith, lt));
  };
  counts_len = refl;
  counted = nothing_at;
  open_count = refl;
}

-- ---- a task more

start_same : (ends : List ℕ) (more n : ℕ) → n ≤ length ends → start_of (ends ++ more ∷ []) n ≡ start_of ends n
start_same ends more zero le = refl
start_same ends more (suc n) le = get_or_append_left ends (more ∷ []) 0 n (omega (arith, le))

-- what is pushed is at its place alone
push_other : (xs : List ℕ) (x k : ℕ) → (k ≡ length xs → ⊥) → get_or (xs ++ x ∷ []) k 0 ≡ get_or xs k 0
push_other xs x k ne = ⊎_elim
    (λ (lt : k < length xs). get_or_append_left xs (x ∷ []) 0 k lt)
    (λ (le : length xs ≤ k). let long = length_push xs x in get_or_past (xs ++ x ∷ []) k 0 (omega (arith, le, ne, long)) ∙ sym (get_or_past xs k 0 le))
    (cases_lt k (length xs))

module _ (reads : List Read) (ends : List ℕ) (h : AreEnds reads ends) (producers : List ℕ) (inside : All (λ read. read.reader < length ends) reads) where
  abbrev n : ℕ
  n = length ends

  abbrev new : List Read
  new = map (read_by n) producers

  abbrev reads_now : List Read
  reads_now = reads ++ new

  abbrev ends_now : List ℕ
  ends_now = ends ++ length reads_now ∷ []

  long : length reads_now ≡ length reads + length new
  long = length-append reads new

  at_end : get_or ends_now n 0 ≡ length reads_now
  at_end = get_or_push ends (length reads_now) 0 n refl

  each_old : (k : ℕ) → k < n → take (get_or ends_now k 0 - start_of ends_now k) (drop (start_of ends_now k) reads_now) ≡ filter (is_of k) reads_now
  each_old k lt =
      let s = start_of ends k in
      let e = get_or ends k 0 in
      let order = h.order k lt in
      let within = h.within k in
      let at : get_or ends_now k 0 ≡ e = get_or_append_left ends (length reads_now ∷ []) 0 k lt in
      let start : start_of ends_now k ≡ s = start_same ends (length reads_now) k (omega (arith, lt)) in
      let rest = length-drop s reads in
      let fits : e - s ≤ length (drop s reads) = omega (arith, rest, within) in
      ap (λ (x : ℕ). take (x - start_of ends_now k) (drop (start_of ends_now k) reads_now)) at
      ∙ ap (λ (x : ℕ). take (e - x) (drop x reads_now)) start
      ∙ ap (take (e - s)) (drop-append-le s reads new (omega (arith, order, within)))
      ∙ take-append-le (e - s) (drop s reads) new fits
      ∙ h.each k lt
      ∙ sym (append-nil (filter (is_of k) reads))
      ∙ ap (λ (l : List Read). filter (is_of k) reads ++ l) (sym (others_own k n producers (λ same. omega (arith, same, lt))))
      ∙ sym (filter-append (is_of k) reads new)

  each_new : take (get_or ends_now n 0 - start_of ends_now n) (drop (start_of ends_now n) reads_now) ≡ filter (is_of n) reads_now
  each_new =
      let start : start_of ends_now n ≡ length reads = start_same ends (length reads_now) n (omega arith) ∙ h.whole in
      let fits : length reads_now - length reads ≡ length new = omega (arith, long) in
      ap (λ (x : ℕ). take (x - start_of ends_now n) (drop (start_of ends_now n) reads_now)) at_end
      ∙ ap (λ (x : ℕ). take (length reads_now - x) (drop x reads_now)) start
      ∙ ap (take (length reads_now - length reads)) (drop-append_seam reads new)
      ∙ take_all (length reads_now - length reads) new (omega (arith, fits))
      ∙ sym (all_own n producers)
      ∙ ap (λ (l : List Read). l ++ filter (is_of n) new) (sym (none_of n reads inside))
      ∙ sym (filter-append (is_of n) reads new)

  pub more_ends : AreEnds reads_now ends_now
  more_ends = record {
    whole =
        let on : length ends_now ≡ suc n = let l = length_push ends (length reads_now) in omega (arith, l) in
        ap (start_of ends_now) on ∙ at_end;
    order = λ k lt.
        let l = length_push ends (length reads_now) in
        ⊎_elim
        (λ (old : k < n).
        let at = get_or_append_left ends (length reads_now ∷ []) 0 k old in
        let start = start_same ends (length reads_now) k (omega (arith, old)) in
        let order = h.order k old in
        omega (arith, at, start, order))
        (λ (le : n ≤ k).
        let is : k ≡ n = omega (arith, le, lt, l) in
        let start = ap (start_of ends_now) is ∙ start_same ends (length reads_now) n (omega arith) ∙ h.whole in
        let at = ap (λ (m : ℕ). get_or ends_now m 0) is ∙ at_end in
        omega (arith, start, at, long))
        (cases_lt k n);
    within = λ k. ⊎_elim
        (λ (is : k ≡ n). let at = ap (λ (m : ℕ). get_or ends_now m 0) is ∙ at_end in omega (arith, at))
        (λ (ne : k ≡ n → ⊥). let at = push_other ends (length reads_now) k ne in let within = h.within k in omega (arith, at, within, long))
        (cases_eq k n);
    each = λ k lt.
        let l = length_push ends (length reads_now) in
        ⊎_elim
        (λ (old : k < n). each_old k old)
        (λ (le : n ≤ k).
        let is : n ≡ k = omega (arith, le, lt, l) in
        subst (λ (m : ℕ). take (get_or ends_now m 0 - start_of ends_now m) (drop (start_of ends_now m) reads_now) ≡ filter (is_of m) reads_now) is each_new)
        (cases_lt k n);
  }

waiting_pushed : (done : List Bool) (m : ℕ) (read : Read) → is_waiting (done ++ false ∷ []) m read ≡ is_waiting done m read
waiting_pushed done m read = ap (λ (b : Bool). is_of m read && not b) (push_default done read.producer false)

pub more_index : (tasks : Tasks) (earlier last ends counts : List ℕ) (open_tasks : ℕ) (producers : List ℕ) (earlier_now last_now : List ℕ) (waiting : ℕ)
    → IsIndex tasks earlier last ends counts open_tasks
    → let n = length tasks.done in let reads = tasks.reads ++ map (read_by n) producers in
    AreLinked (n + 1) (n + 1) reads earlier_now last_now → waiting ≡ count_by (λ p. not (is_done tasks.done p)) producers
    → IsIndex (with_task tasks producers) earlier_now last_now (ends ++ length reads ∷ []) (counts ++ waiting ∷ []) (open_tasks + 1)
more_index tasks earlier last ends counts open_tasks producers earlier_now last_now waiting h linked count =
    let n = length tasks.done in
    let new = map (read_by n) producers in
    let reads = tasks.reads ++ new in
    let done = tasks.done ++ false ∷ [] in
    let long : length done ≡ n + 1 = length_push tasks.done false in
    let whole : (m : ℕ) → missing (with_task tasks producers) m ≡ count_by (is_waiting tasks.done m) tasks.reads + count_by (is_waiting tasks.done m) new = λ m.
    count_same (is_waiting done m) (is_waiting tasks.done m) reads (waiting_pushed tasks.done m) ∙ sum_by-append (λ r. cond (is_waiting tasks.done m r) 1 0) tasks.reads new in
    record {
      linked = subst (λ (m : ℕ). AreLinked m m reads earlier_now last_now) (sym long) linked;
      ends_len = length_push ends (length reads) ∙ ap (λ (m : ℕ). m + 1) h.ends_len ∙ sym long;
      ended = subst (λ (m : ℕ). AreEnds (tasks.reads ++ map (read_by m) producers) (ends ++ length (tasks.reads ++ map (read_by m) producers) ∷ [])) h.ends_len
          (more_ends tasks.reads ends h.ended producers (subst (λ (m : ℕ). All (λ read. read.reader < m) tasks.reads) (sym h.ends_len) h.linked.readers_inside));
      counts_len = length_push counts waiting ∙ ap (λ (m : ℕ). m + 1) h.counts_len ∙ sym long;
      counted = λ m. ⊎_elim
          (λ (is : m ≡ n).
          let at : get_or (counts ++ waiting ∷ []) m 0 ≡ waiting = get_or_push counts waiting 0 m (h.counts_len ∙ sym is) in
          let a : count_by (is_waiting tasks.done m) tasks.reads ≡ 0 = ap (λ (k : ℕ). count_by (is_waiting tasks.done k) tasks.reads) is ∙ none_waiting tasks.done n tasks.reads h.linked.readers_inside in
          let b : count_by (is_waiting tasks.done m) new ≡ waiting = ap (λ (k : ℕ). count_by (is_waiting tasks.done k) new) is ∙ own_waiting tasks.done n producers ∙ sym count in
          let c = whole m in
          omega (arith, at, a, b, c))
          (λ (ne : m ≡ n → ⊥).
          let at = push_other counts waiting m (λ same. ne (same ∙ h.counts_len)) in
          let a = h.counted m in
          let b = others_waiting tasks.done m n producers ne in
          let c = whole m in
          omega (arith, at, a, b, c))
          (cases_eq m n);
      open_count = let a = sum_by_push (λ d. cond (not d) 1 0) tasks.done false in let b = h.open_count in omega (arith, a, b);
    }

-- ---- a task is done, or no longer

abbrev in_chain : Tasks → List ℕ → List ℕ → ℕ → ℕ → ℕ
in_chain tasks earlier last n m = count_by (nat_eq m) (chain_at tasks.reads earlier (get_or last n 0))

-- so many of a reader's reads wait for the task
pub enough_wait : (tasks : Tasks) (earlier last ends counts : List ℕ) (open_tasks n m : ℕ) → IsIndex tasks earlier last ends counts open_tasks
    → n < length tasks.done → get_or tasks.done n false ≡ false → in_chain tasks earlier last n m ≤ get_or counts m 0
enough_wait tasks earlier last ends counts open_tasks n m h lt none =
    let a = h.linked.chains m n in
    let b = waiting_flips tasks.done tasks.reads n m lt none in
    let c = h.counted m in
    omega (arith, a, b, c)

linked_set : (tasks : Tasks) (n : ℕ) (b : Bool) (earlier last : List ℕ) → AreLinked (length tasks.done) (length tasks.done) tasks.reads earlier last
    → AreLinked (length (set tasks.done n b)) (length (set tasks.done n b)) tasks.reads earlier last
linked_set tasks n b earlier last h = subst (λ (m : ℕ). AreLinked m m tasks.reads earlier last) (sym (length-set tasks.done n b)) h

pub done_index : (tasks : Tasks) (earlier last ends counts now : List ℕ) (open_tasks n : ℕ) → IsIndex tasks earlier last ends counts open_tasks
    → n < length tasks.done → get_or tasks.done n false ≡ false → length now ≡ length counts
    → ((m : ℕ) → get_or now m 0 + in_chain tasks earlier last n m ≡ get_or counts m 0)
    → IsIndex (with_done tasks n true) earlier last ends now (open_tasks - 1)
done_index tasks earlier last ends counts now open_tasks n h lt none long each =
    let len = length-set tasks.done n true in
    record {
      linked = linked_set tasks n true earlier last h.linked;
      ends_len = h.ends_len ∙ sym len;
      ended = h.ended;
      counts_len = long ∙ h.counts_len ∙ sym len;
      counted = λ m.
          let a = h.linked.chains m n in
          let b = waiting_flips tasks.done tasks.reads n m lt none in
          let c = h.counted m in
          let d = each m in
          omega (arith, a, b, c, d);
      open_count =
          let a = sum_by-set (λ d. cond (not d) 1 0) tasks.done n true false lt in
          let b : as_one (not (get_or tasks.done n false)) ≡ 1 = ap (λ (x : Bool). as_one (not x)) none in
          let c = h.open_count in
          omega (arith, a, b, c);
    }

-- before, so many of a reader's reads come to wait
pub few_wait : (tasks : Tasks) (earlier last ends counts : List ℕ) (open_tasks n m : ℕ) → IsIndex tasks earlier last ends counts open_tasks
    → n < length tasks.done → get_or tasks.done n false ≡ true
    → get_or counts m 0 + in_chain tasks earlier last n m ≡ count_by (is_waiting (set tasks.done n false) m) tasks.reads
few_wait tasks earlier last ends counts open_tasks n m h lt is =
    let less : n < length (set tasks.done n false) = subst (λ (k : ℕ). n < k) (sym (length-set tasks.done n false)) lt in
    let a = h.linked.chains m n in
    let b = waiting_flips (set tasks.done n false) tasks.reads n m less (get_or-set_same tasks.done n false false lt) in
    let back : set (set tasks.done n false) n true ≡ tasks.done = set_back tasks.done n lt is in
    let d = ap (λ (l : List Bool). count_by (is_waiting l m) tasks.reads) back in
    let c = h.counted m in
    omega (arith, a, b, c, d)
  where
    set_back : (xs : List Bool) (k : ℕ) → k < length xs → get_or xs k false ≡ true → set (set xs k false) k true ≡ xs
    set_back [] k lt is = absurd (omega (arith, lt))
    set_back (x ∷ xs) zero lt is = ap (λ (b : Bool). b ∷ xs) (sym is)
    set_back (x ∷ xs) (suc k) lt is = ap (λ (l : List Bool). x ∷ l) (set_back xs k (omega (arith, lt)) is)

pub undone_index : (tasks : Tasks) (earlier last ends counts now : List ℕ) (open_tasks n : ℕ) → IsIndex tasks earlier last ends counts open_tasks
    → n < length tasks.done → get_or tasks.done n false ≡ true → length now ≡ length counts
    → ((m : ℕ) → get_or now m 0 ≡ get_or counts m 0 + in_chain tasks earlier last n m)
    → IsIndex (with_done tasks n false) earlier last ends now (open_tasks + 1)
undone_index tasks earlier last ends counts now open_tasks n h lt is long each =
    let len = length-set tasks.done n false in
    record {
      linked = linked_set tasks n false earlier last h.linked;
      ends_len = h.ends_len ∙ sym len;
      ended = h.ended;
      counts_len = long ∙ h.counts_len ∙ sym len;
      counted = λ m. each m ∙ few_wait tasks earlier last ends counts open_tasks n m h lt is;
      open_count =
          let a = sum_by-set (λ d. cond (not d) 1 0) tasks.done n false false lt in
          let b : as_one (not (get_or tasks.done n false)) ≡ 0 = ap (λ (x : Bool). as_one (not x)) is in
          let c = h.open_count in
          omega (arith, a, b, c);
    }
