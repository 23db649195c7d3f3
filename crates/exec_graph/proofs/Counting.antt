-- What is counted by numbers, as counts of subtasks.
use Rattle.std.proofs.Common.{◌≡◌, ℕ, suc, ◌+◌, ◌<◌, Bool, true, false, not, cond, List, [], ◌∷◌, length, map, filter, get_or, refl, sym, ◌∙◌, ap, subst, arith, All}
use Rattle.std.specs.Prelude.{◌&&◌, count_by}
use Rattle.std.proofs.lemmas.List.{get_or_default}
use Rattle.std.proofs.lemmas.List.Elements.{All-filter, All-head, All-tail}
use Rattle.event_graph.specs.Numbers.{IsNumbering, Numbering, number_of, subs_read}
use Rattle.exec_graph.specs.Counts.{AreAllSubs, is_unwon}
use Rattle.graph_model.specs.declared.made_vertex.MadeVertex.{MadeVertex}
use Rattle.graph_model.specs.declared.sub.Sub.{Sub}
use Rattle.graph_model.specs.Indexes.{no_sub, sub_at}
use Rattle.graph_model.specs.Reads.{reads_from}
use Rattle.reader_index.specs.Tasks.{is_done, is_of, missing, reads_of, undone}
use Rattle.reader_index.specs.declared.read.Read.{Read}
use Rattle.ready_subtasks.specs.Marks.{IsDecidedSub}
use Rattle.exec_graph.proofs.Readers.{count_cons, numbered_in}

-- ---- counts of lists

count_map : {X Y : Type 0} (p : Y → Bool) (f : X → Y) (xs : List X) → count_by p (map f xs) ≡ count_by (λ x. p (f x)) xs
count_map p f [] = refl
count_map p f (x ∷ xs) = count_cons p (f x) (map f xs) ∙ ap (λ (n : ℕ). cond (p (f x)) 1 0 + n) (count_map p f xs) ∙ sym (count_cons (λ y. p (f y)) x xs)

count_agree : {X : Type 0} (p q : X → Bool) (xs : List X) → All (λ x. p x ≡ q x) xs → count_by p xs ≡ count_by q xs
count_agree p q [] same = refl
count_agree p q (x ∷ xs) same =
    count_cons p x xs
    ∙ ap (λ (b : Bool). cond b 1 0 + count_by p xs) (All-head (λ y. p y ≡ q y) x xs same)
    ∙ ap (λ (n : ℕ). cond (q x) 1 0 + n) (count_agree p q xs (All-tail (λ y. p y ≡ q y) x xs same))
    ∙ sym (count_cons q x xs)

count_both : {X : Type 0} (p q : X → Bool) (xs : List X) → count_by (λ x. p x && q x) xs ≡ count_by q (filter p xs)
count_both p q [] = refl
count_both p q (x ∷ xs) = count_cons (λ y. p y && q y) x xs ∙ by (count_both p q xs) (p x)
  where
    by : count_by (λ y. p y && q y) xs ≡ count_by q (filter p xs) → (b : Bool)
        → cond (b && q x) 1 0 + count_by (λ y. p y && q y) xs ≡ count_by q (cond b (x ∷ filter p xs) (filter p xs))
    by rest true = ap (λ (n : ℕ). cond (q x) 1 0 + n) rest ∙ sym (count_cons q x (filter p xs))
    by rest false = omega (arith, rest)

-- two lists, item by item
count_along : {X Y : Type 0} (p : X → Bool) (q : Y → Bool) (xs : List X) (ys : List Y) (d : X) (e : Y) → length xs ≡ length ys
    → ((k : ℕ) → k < length xs → p (get_or xs k d) ≡ q (get_or ys k e)) → count_by p xs ≡ count_by q ys
count_along p q [] [] d e len same = refl
count_along p q [] (y ∷ ys) d e len same = absurd (omega (arith, len))
count_along p q (x ∷ xs) [] d e len same = absurd (omega (arith, len))
count_along p q (x ∷ xs) (y ∷ ys) d e len same =
    count_cons p x xs
    ∙ ap (λ (b : Bool). cond b 1 0 + count_by p xs) (same 0 (omega arith))
    ∙ ap (λ (n : ℕ). cond (q y) 1 0 + n) (count_along p q xs ys d e (omega (arith, len)) (λ k lt. same (suc k) (omega (arith, lt))))
    ∙ sym (count_cons q y ys)

-- ---- counts of subtasks

module _ (vs : List MadeVertex) (numbering : Numbering) (h : IsNumbering vs numbering) where
  -- of what a subtask reads from
  pub missing_is : (sub : Sub) → IsDecidedSub vs sub → missing numbering.tasks (number_of numbering sub) ≡ count_by (is_unwon vs) (reads_from vs sub)
  missing_is sub decided =
      let n = number_of numbering sub in
      let done = numbering.tasks.done in
      let waits : Read → Bool = λ r. not (is_done done r.producer) in
      let of : Read → Sub = λ r. sub_at numbering.subs r.producer in
      let reads : subs_read numbering n ≡ reads_from vs sub = (h.numbers n (h.numbered sub decided).within).reads ∙ ap (reads_from vs) (h.numbered sub decided).is in
      let within : All (λ (r : Read). r.producer < length done) (reads_of numbering.tasks n) = All-filter (is_of n) (λ (r : Read). r.producer < length done) numbering.tasks.reads h.producers in
      count_both (is_of n) waits numbering.tasks.reads
      ∙ count_agree waits (λ r. is_unwon vs (of r)) (reads_of numbering.tasks n)
      (λ k d lt. ap not (h.numbers (get_or (reads_of numbering.tasks n) k d).producer
      (subst (λ (m : ℕ). (get_or (reads_of numbering.tasks n) k d).producer < m) (sym h.subs_len) (within k d lt))).done)
      ∙ sym (count_map (is_unwon vs) of (reads_of numbering.tasks n))
      ∙ ap (count_by (is_unwon vs)) reads

  -- of all subtasks
  pub undone_is : undone numbering.tasks ≡ count_by (is_unwon vs) numbering.subs
  undone_is = count_along not (is_unwon vs) numbering.tasks.done numbering.subs false no_sub (sym h.subs_len)
      (λ k lt. ap not (h.numbers k (subst (λ (m : ℕ). k < m) (sym h.subs_len) lt)).done)

  pub are_all : AreAllSubs vs numbering.subs
  are_all = record {
    decided = λ k d lt. subst (IsDecidedSub vs) (get_or_default numbering.subs k no_sub d lt) (h.numbers k lt).decided;
    all = numbered_in vs numbering h;
    once = λ n m lt less same. sym (h.numbers n lt).is ∙ ap (number_of numbering) same ∙ (h.numbers m less).is;
  }
