-- Numbers of a list, and how often they stand there.
use Rattle.std.proofs.Common.{◌≡◌, ℕ, zero, suc, ◌+◌, ◌<◌, Bool, List, [], ◌∷◌, length, filter, refl, sym, ◌∙◌, ap, subst, arith, true, false, cond, ⊎_elim, nat_eq, ◌&&◌, if◌then◌else◌}
use Rattle.std.specs.Prelude.{Contains, HoldsAt, count_by}
use Rattle.std.proofs.lemmas.Bool.{false≢true}
use Rattle.std.proofs.lemmas.Bool.Decides.{nat_tests}
use Rattle.std.proofs.lemmas.List.Sums.{sum_by-cons}
use Rattle.std.proofs.lemmas.List.Elements.{Contains-append_right, Contains-append_cases, Contains-get_or, at_from_Contains}
use Rattle.reader_index.specs.Tasks.{Tasks, is_between}
use Rattle.reader_index.specs.declared.read.Read.{Read}
use Rattle.rerun_set.specs.Reruns.{Reads}

pub in_nothing : {X : Type 0} (x : X) → Contains {X = X} [] x → ⊥
in_nothing {X} x has = at_nothing (at_from_Contains [] x has)
  where
    at_nothing : (k : ℕ) × (k < length {A = X} []) × HoldsAt (λ (y : X). y ≡ x) [] k → ⊥
    at_nothing (k, lt, holds) = absurd (omega (arith, lt))

pub in_one : {X : Type 0} (y x : X) → Contains (y ∷ []) x → y ≡ x
in_one {X} y x has = only (at_from_Contains (y ∷ []) x has)
  where
    only : (k : ℕ) × (k < length (y ∷ [])) × HoldsAt (λ (z : X). z ≡ x) (y ∷ []) k → y ≡ x
    only (zero, lt, holds) = holds y
    only (suc k, lt, holds) = absurd (omega (arith, lt))

pub same_number : (m n : ℕ) → nat_eq m n ≡ true → m ≡ n
same_number m n e = grind (arith, nat_tests)

pub same_yes : (n : ℕ) → nat_eq n n ≡ true
same_yes n = grind (arith, nat_tests)

pub from_filter : {X : Type 0} (p : X → Bool) (xs : List X) (x : X) → Contains (filter p xs) x → Contains xs x × (p x ≡ true)
from_filter p [] x has = absurd (in_nothing x has)
from_filter {X} p (y ∷ ys) x has = by (p y) refl has (from_filter p ys x)
  where
    later : Contains ys x × (p x ≡ true) → Contains (y ∷ ys) x × (p x ≡ true)
    later (h, e) = (Contains-append_right (y ∷ []) ys x h, e)

    by : (b : Bool) → p y ≡ b → Contains (if b then y ∷ filter p ys else filter p ys) x → (Contains (filter p ys) x → Contains ys x × (p x ≡ true)) → Contains (y ∷ ys) x × (p x ≡ true)
    by false e h rest = later (rest h)
    by true e h rest = ⊎_elim
        (λ (one : Contains (y ∷ []) x). let same : y ≡ x = in_one y x one in (subst (λ (z : X). Contains (y ∷ ys) z) same (Contains-get_or (y ∷ ys) 0 y (omega arith)), ap p (sym same) ∙ e))
        (λ (more : Contains (filter p ys) x). later (rest more))
        (Contains-append_cases (y ∷ []) (filter p ys) x h)

pub into_filter : {X : Type 0} (p : X → Bool) (xs : List X) (x : X) → Contains xs x → p x ≡ true → Contains (filter p xs) x
into_filter p [] x has is = absurd (in_nothing x has)
into_filter {X} p (y ∷ ys) x has is = ⊎_elim
    (λ (one : Contains (y ∷ []) x).
    let same : y ≡ x = in_one y x one in
    subst (λ (b : Bool). Contains (if b then y ∷ filter p ys else filter p ys) x) (sym (ap p same ∙ is))
    (subst (λ (z : X). Contains (y ∷ filter p ys) z) same (Contains-get_or (y ∷ filter p ys) 0 y (omega arith))))
    (λ (more : Contains ys x). by (p y) (into_filter p ys x more is))
    (Contains-append_cases (y ∷ []) ys x has)
  where
    by : (b : Bool) → Contains (filter p ys) x → Contains (if b then y ∷ filter p ys else filter p ys) x
    by true h = Contains-append_right (y ∷ []) (filter p ys) x h
    by false h = h

module _ {X : Type 0} (p : X → Bool) where
  -- what passes is counted
  pub counted : (xs : List X) (x : X) → Contains xs x → p x ≡ true → 0 < count_by p xs
  counted [] x has is = absurd (in_nothing x has)
  counted (y ∷ ys) x has is =
      let step = sum_by-cons (λ z. cond (p z) 1 0) y ys in
      ⊎_elim
      (λ (one : Contains (y ∷ []) x).
      let here : ◌≡◌ {A = ℕ} (cond (p y) 1 0) 1 = ap (λ (b : Bool). cond b 1 0) (ap p (in_one y x one) ∙ is) in
      omega (arith, step, here))
      (λ (more : Contains ys x). let rest = counted ys x more is in omega (arith, step, rest))
      (Contains-append_cases (y ∷ []) ys x has)

  -- and what is counted stands there
  pub stands : (xs : List X) → 0 < count_by p xs → (x : X) × Contains xs x × (p x ≡ true)
  stands [] lt = absurd (omega (arith, lt))
  stands (y ∷ ys) lt = by (p y) refl (sum_by-cons (λ z. cond (p z) 1 0) y ys) (stands ys)
    where
      later : (x : X) × Contains ys x × (p x ≡ true) → (x : X) × Contains (y ∷ ys) x × (p x ≡ true)
      later (x, has, is) = (x, Contains-append_right (y ∷ []) ys x has, is)

      by : (b : Bool) → p y ≡ b → count_by p (y ∷ ys) ≡ cond (p y) 1 0 + count_by p ys → (0 < count_by p ys → (x : X) × Contains ys x × (p x ≡ true)) → (x : X) × Contains (y ∷ ys) x × (p x ≡ true)
      by true is step rest = (y, Contains-get_or (y ∷ ys) 0 y (omega arith), is)
      by false is step rest =
          let none : ◌≡◌ {A = ℕ} (cond (p y) 1 0) 0 = ap (λ (b : Bool). cond b 1 0) is in
          later (rest (omega (arith, lt, step, none)))

pub both_left : (a b : Bool) → (a && b) ≡ true → a ≡ true
both_left true b e = refl
both_left false b e = absurd (false≢true e)

pub both_right : (a b : Bool) → (a && b) ≡ true → b ≡ true
both_right true b e = e
both_right false b e = absurd (false≢true e)

-- the readers of a task, where each is counted as often as it reads from it
module _ (tasks : Tasks) (task : ℕ) (readers : List ℕ) (same : (n : ℕ) → count_by (nat_eq n) readers ≡ count_by (is_between n task) tasks.reads) where
  pub reader_reads : (n : ℕ) → Contains readers n → Reads tasks n task
  reader_reads n has =
      let some = counted (nat_eq n) readers n has (same_yes n) in
      let there = same n in
      at (stands (is_between n task) tasks.reads (omega (arith, some, there)))
    where
      at : (read : Read) × Contains tasks.reads read × (is_between n task read ≡ true) → Reads tasks n task
      at (read, has, is) = (
        read,
        has,
        sym (same_number n read.reader (both_left (nat_eq n read.reader) (nat_eq task read.producer) is)),
        sym (same_number task read.producer (both_right (nat_eq n read.reader) (nat_eq task read.producer) is)),
      )

  pub reads_reader : (n : ℕ) → Reads tasks n task → Contains readers n
  reads_reader n (read, has, reader, producer) =
      let yes : is_between n task read ≡ true =
      ap (λ (r : ℕ). nat_eq n r && nat_eq task read.producer) reader ∙ ap (λ (b : Bool). b && nat_eq task read.producer) (same_yes n) ∙ ap (λ (p : ℕ). nat_eq task p) producer ∙ same_yes task in
      let some = counted (is_between n task) tasks.reads read has yes in
      let there = same n in
      at (stands (nat_eq n) readers (omega (arith, some, there)))
    where
      at : (x : ℕ) × Contains readers x × (nat_eq n x ≡ true) → Contains readers n
      at (x, has, is) = subst (λ (m : ℕ). Contains readers m) (sym (same_number n x is)) has
