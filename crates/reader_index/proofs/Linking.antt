-- One read more, and one task more, among linked reads.
use Rattle.std.proofs.Common.{◌≡◌, ℕ, zero, suc, ◌+◌, ◌<◌, ◌≤◌, Bool, true, false, ◌&&◌, cond, List, [], ◌∷◌, ◌++◌, length, get_or, set, refl, sym, ◌∙◌, ap, subst, arith, nat_eq, ⊎_elim}
use Rattle.std.specs.Prelude.{count_by}
use Rattle.std.proofs.lemmas.Bool.{cases_eq, cases_lt}
use Rattle.std.proofs.lemmas.List.{length_push, length-set, get_or_push, get_or_past, get_or_append_left, get_or-set_same, get_or-set_other}
use Rattle.std.proofs.lemmas.List.Elements.{All-push, All-weaker, All-nil}
use Rattle.std.proofs.lemmas.List.Sums.{sum_by_push}
use Rattle.reader_index.specs.Links.{AreLinked, chain_at, no_read}
use Rattle.reader_index.specs.Tasks.{is_between, read_by}
use Rattle.reader_index.specs.declared.read.Read.{Read}
use Rattle.reader_index.proofs.Chains.{as_one, chain_before, count_step, other_no, same_yes}

-- a default behind a list is none
pub push_default : {X : Type 0} (xs : List X) (k : ℕ) (d : X) → get_or (xs ++ d ∷ []) k d ≡ get_or xs k d
push_default [] zero d = refl
push_default [] (suc k) d = refl
push_default (x ∷ xs) zero d = refl
push_default (x ∷ xs) (suc k) d = push_default xs k d

pub none_linked : AreLinked 0 0 [] [] []
none_linked = record {
  earlier_len = refl;
  last_len = refl;
  readers_inside = All-nil (λ read. read.reader < 0);
  producers_inside = All-nil (λ read. read.producer < 0);
  back = λ k. subst (λ (n : ℕ). n ≤ k) (sym (get_or_past [] k 0 (omega arith))) (omega arith);
  lasts = λ p. subst (λ (n : ℕ). n ≤ 0) (sym (get_or_past [] p 0 (omega arith))) (omega arith);
  chains = λ n p. ap (λ (m : ℕ). count_by (nat_eq n) (chain_at [] [] m)) (get_or_past [] p 0 (omega arith));
}

-- a reader more, which reads nothing yet
pub reader_more : (n : ℕ) (reads : List Read) (earlier last : List ℕ) → AreLinked n n reads earlier last → AreLinked (n + 1) n reads earlier last
reader_more n reads earlier last h = record {
  earlier_len = h.earlier_len;
  last_len = h.last_len;
  readers_inside = All-weaker (λ (read : Read). read.reader < n) (λ (read : Read). read.reader < n + 1) (λ read lt. omega (arith, lt)) reads h.readers_inside;
  producers_inside = h.producers_inside;
  back = h.back;
  lasts = h.lasts;
  chains = h.chains;
}

-- it may be read from
pub producer_more : (n : ℕ) (reads : List Read) (earlier last : List ℕ) → AreLinked (n + 1) n reads earlier last → AreLinked (n + 1) (n + 1) reads earlier (last ++ 0 ∷ [])
producer_more n reads earlier last h = record {
  earlier_len = h.earlier_len;
  last_len = length_push last 0 ∙ ap (λ (m : ℕ). m + 1) h.last_len;
  readers_inside = h.readers_inside;
  producers_inside = All-weaker (λ (read : Read). read.producer < n) (λ (read : Read). read.producer < n + 1) (λ read lt. omega (arith, lt)) reads h.producers_inside;
  back = h.back;
  lasts = λ p. subst (λ (m : ℕ). m ≤ length reads) (sym (push_default last p 0)) (h.lasts p);
  chains = λ m p. ap (λ (at : ℕ). count_by (nat_eq m) (chain_at reads earlier at)) (push_default last p 0) ∙ h.chains m p;
}

module _ (n p : ℕ) (reads : List Read) (earlier last : List ℕ) (h : AreLinked (n + 1) n reads earlier last) (lt : p < n) where
  abbrev before : ℕ
  before = get_or last p 0

  abbrev read : Read
  read = read_by n p

  abbrev reads_now : List Read
  reads_now = reads ++ read ∷ []

  abbrev earlier_now : List ℕ
  earlier_now = earlier ++ before ∷ []

  abbrev last_now : List ℕ
  last_now = set last p (length reads + 1)

  in_last : p < length last
  in_last = subst (λ (m : ℕ). p < m) (sym h.last_len) lt

  at_p : get_or last_now p 0 ≡ length reads + 1
  at_p = get_or-set_same last p (length reads + 1) 0 in_last

  at_other : (q : ℕ) → (q ≡ p → ⊥) → get_or last_now q 0 ≡ get_or last q 0
  at_other q ne = get_or-set_other last p q (length reads + 1) 0 ne

  back_now : (k : ℕ) → get_or earlier_now k 0 ≤ k
  back_now k = ⊎_elim
      (λ (less : k < length earlier). subst (λ (m : ℕ). m ≤ k) (sym (get_or_append_left earlier (before ∷ []) 0 k less)) (h.back k))
      (λ (le : length earlier ≤ k). ⊎_elim
      (λ (is : k ≡ length earlier). let at = get_or_push earlier before 0 k (sym is) in let low = h.lasts p in let long = h.earlier_len in omega (arith, at, low, long, is))
      (λ (ne : k ≡ length earlier → ⊥). let long = length_push earlier before in let at = get_or_past earlier_now k 0 (omega (arith, le, ne, long)) in omega (arith, at))
      (cases_eq k (length earlier)))
      (cases_lt k (length earlier))

  lasts_now : (q : ℕ) → get_or last_now q 0 ≤ length reads_now
  lasts_now q =
      let long = length_push reads read in
      ⊎_elim
      (λ (is : q ≡ p). let at = ap (λ (m : ℕ). get_or last_now m 0) is ∙ at_p in omega (arith, at, long))
      (λ (ne : q ≡ p → ⊥). let at = at_other q ne in let low = h.lasts q in omega (arith, at, low, long))
      (cases_eq q p)

  -- a chain of before is the same
  old_chain : (m at : ℕ) → at ≤ length reads → count_by (nat_eq m) (chain_at reads_now earlier_now at) ≡ count_by (nat_eq m) (chain_at reads earlier at)
  old_chain m at le = ap (λ (l : List ℕ). count_by (nat_eq m) l) (chain_before reads (read ∷ []) earlier (before ∷ []) at at h.earlier_len h.back le)

  new_chain : (m : ℕ) → count_by (nat_eq m) (chain_at reads_now earlier_now (length reads + 1)) ≡ as_one (nat_eq m n) + count_by (nat_eq m) (chain_at reads earlier before)
  new_chain m =
      let on : length reads + 1 ≡ suc (length reads) = omega arith in
      let here : get_or reads_now (length reads) no_read ≡ read = get_or_push reads read no_read (length reads) refl in
      let next : get_or earlier_now (length reads) 0 ≡ before = get_or_push earlier before 0 (length reads) h.earlier_len in
      ap (λ (k : ℕ). count_by (nat_eq m) (chain_at reads_now earlier_now k)) on
      ∙ count_step reads_now earlier_now (length reads) m back_now
      ∙ ap (λ (r : Read). as_one (nat_eq m r.reader) + count_by (nat_eq m) (chain_at reads_now earlier_now (get_or earlier_now (length reads) 0))) here
      ∙ ap (λ (k : ℕ). as_one (nat_eq m n) + count_by (nat_eq m) (chain_at reads_now earlier_now k)) next
      ∙ ap (λ (k : ℕ). as_one (nat_eq m n) + k) (old_chain m before (h.lasts p))

  more_times : (m q : ℕ) → count_by (is_between m q) reads_now ≡ count_by (is_between m q) reads + as_one (nat_eq m n && nat_eq q p)
  more_times m q = sum_by_push (λ (r : Read). cond (is_between m q r) 1 0) reads read

  and_true : (b : Bool) → (b && true) ≡ b
  and_true true = refl
  and_true false = refl

  and_false : (b : Bool) → (b && false) ≡ false
  and_false true = refl
  and_false false = refl

  chains_now : (m q : ℕ) → count_by (nat_eq m) (chain_at reads_now earlier_now (get_or last_now q 0)) ≡ count_by (is_between m q) reads_now
  chains_now m q = ⊎_elim
      (λ (is : q ≡ p).
      let at = ap (λ (k : ℕ). get_or last_now k 0) is ∙ at_p in
      let one : as_one (nat_eq m n && nat_eq q p) ≡ as_one (nat_eq m n) = ap (λ (k : ℕ). as_one (nat_eq m n && nat_eq k p)) is ∙ ap (λ (b : Bool). as_one (nat_eq m n && b)) (same_yes p) ∙ ap as_one (and_true (nat_eq m n)) in
      let left = ap (λ (k : ℕ). count_by (nat_eq m) (chain_at reads_now earlier_now k)) at ∙ new_chain m in
      let was = h.chains m p in
      let same : count_by (is_between m q) reads ≡ count_by (is_between m p) reads = ap (λ (k : ℕ). count_by (is_between m k) reads) is in
      let times = more_times m q in
      omega (arith, left, was, same, times, one))
      (λ (ne : q ≡ p → ⊥).
      let none : as_one (nat_eq m n && nat_eq q p) ≡ 0 = ap (λ (b : Bool). as_one (nat_eq m n && b)) (other_no q p ne) ∙ ap as_one (and_false (nat_eq m n)) in
      let left = ap (λ (k : ℕ). count_by (nat_eq m) (chain_at reads_now earlier_now k)) (at_other q ne) ∙ old_chain m (get_or last q 0) (h.lasts q) in
      let was = h.chains m q in
      let times = more_times m q in
      omega (arith, left, was, times, none))
      (cases_eq q p)

  pub more_linked : AreLinked (n + 1) n reads_now earlier_now last_now
  more_linked = record {
    earlier_len = length_push earlier before ∙ ap (λ (m : ℕ). m + 1) h.earlier_len ∙ sym (length_push reads read);
    last_len = length-set last p (length reads + 1) ∙ h.last_len;
    readers_inside = All-push (λ (r : Read). r.reader < n + 1) reads read h.readers_inside (omega arith);
    producers_inside = All-push (λ (r : Read). r.producer < n) reads read h.producers_inside lt;
    back = back_now;
    lasts = lasts_now;
    chains = chains_now;
  }
