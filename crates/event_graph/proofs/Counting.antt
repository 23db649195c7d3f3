-- How many numbers pass a test: tests that agree, tests that are apart, and what stands in a list.
use Rattle.std.proofs.Common.{◌≡◌, ℕ, zero, suc, ◌+◌, ◌<◌, ◌≤◌, Bool, true, false, ◌||◌, cond, List, [], ◌∷◌, length, refl, sym, ◌∙◌, ap, subst, arith, nat_eq, All, ⊎_elim}
use Rattle.std.specs.Prelude.{count_by}
use Rattle.std.specs.List.{IsDistinct, range_with_len}
use Rattle.std.proofs.lemmas.Bool.{cases_eq}
use Rattle.std.proofs.lemmas.Bool.Decides.{nat_tests}
use Rattle.std.proofs.lemmas.List.Elements.{All-cons, All-from_recursion, All-head, All-nil, All-tail, filter_agree}
use Rattle.std.proofs.lemmas.List.Folds.{list_any_none}
use Rattle.std.proofs.lemmas.List.FromFn.{get_or-range_with_len, length-range_with_len}
use Rattle.std.proofs.lemmas.List.Sums.{length-filter, sum_by-cons}
use Rattle.std.proofs.lemmas.Map.Keys.{IsDistinct-head, IsDistinct-tail}
use Rattle.vertex_builder.specs.Chains.{is_among}
use Rattle.vertex_builder.proofs.Laws.{same_number}

abbrev pub one_if : Bool → ℕ
one_if b = cond b 1 0

-- tests that agree
pub counts_same : (p q : ℕ → Bool) (xs : List ℕ) → ((x : ℕ) → p x ≡ q x) → count_by p xs ≡ count_by q xs
counts_same p q xs same = sym (length-filter p xs) ∙ ap (length {A = ℕ}) (filter_agree p q same xs) ∙ length-filter q xs

-- a test that one of two passes, and never both
pub counts_apart : (p q r : ℕ → Bool) (xs : List ℕ) → ((x : ℕ) → one_if (p x) ≡ one_if (q x) + one_if (r x)) → count_by p xs ≡ count_by q xs + count_by r xs
counts_apart p q r [] split = omega arith
counts_apart p q r (x ∷ xs) split =
    let a = sum_by-cons (λ y. one_if (p y)) x xs in
    let b = sum_by-cons (λ y. one_if (q y)) x xs in
    let c = sum_by-cons (λ y. one_if (r y)) x xs in
    let here = split x in
    let rest = counts_apart p q r xs split in
    omega (arith, a, b, c, here, rest)

-- none passes
pub none_counted : (p : ℕ → Bool) (xs : List ℕ) → count_by p xs ≡ 0 → All (λ x. p x ≡ false) xs
none_counted p [] none = All-nil (λ x. p x ≡ false)
none_counted p (x ∷ xs) none =
    let all = sum_by-cons (λ y. one_if (p y)) x xs in
    All-cons (λ y. p y ≡ false) x xs (unset (p x) (omega (arith, all, none))) (none_counted p xs (omega (arith, all, none)))
  where
    unset : (b : Bool) → one_if b ≡ 0 → b ≡ false
    unset true e = absurd (omega (arith, e))
    unset false e = refl

pub counted_none : (p : ℕ → Bool) (xs : List ℕ) → All (λ x. p x ≡ false) xs → count_by p xs ≡ 0
counted_none p [] none = refl
counted_none p (x ∷ xs) none =
    let all = sum_by-cons (λ y. one_if (p y)) x xs in
    let here : one_if (p x) ≡ 0 = ap (λ (b : Bool). one_if b) (All-head (λ y. p y ≡ false) x xs none) in
    let rest = counted_none p xs (All-tail (λ y. p y ≡ false) x xs none) in
    omega (arith, all, here, rest)

-- each passes
pub all_counted : (p : ℕ → Bool) (xs : List ℕ) → ((x : ℕ) → p x ≡ true) → count_by p xs ≡ length xs
all_counted p [] each = refl
all_counted p (x ∷ xs) each =
    let all = sum_by-cons (λ y. one_if (p y)) x xs in
    let here : one_if (p x) ≡ 1 = ap (λ (b : Bool). one_if b) (each x) in
    let rest = all_counted p xs each in
    omega (arith, all, here, rest)

-- what holds of each number below a bound
pub each_below : (P : ℕ → Type 0) (n : ℕ) → ((k : ℕ) → k < n → P k) → All P (range_with_len 0 n)
each_below P n each k d lt =
    let long = length-range_with_len 0 n in
    let less : k < n = omega (arith, lt, long) in
    let at = get_or-range_with_len 0 n k d less in
    subst P (omega (arith, at)) (each k less)

pub below_each : (P : ℕ → Type 0) (n : ℕ) → All P (range_with_len 0 n) → (k : ℕ) → k < n → P k
below_each P n all k lt =
    let long = length-range_with_len 0 n in
    let at = get_or-range_with_len 0 n k 0 lt in
    subst P (omega (arith, at)) (all k 0 (omega (arith, lt, long)))

-- ---- how often a number stands in a range

not_less : (m n : ℕ) → n < m → nat_eq m n ≡ false
not_less m n lt = grind (arith, nat_tests)

not_same : (m n : ℕ) → (m ≡ n → ⊥) → nat_eq m n ≡ false
not_same m n ne = grind (arith, nat_tests)

yes_same : (m n : ℕ) → m ≡ n → nat_eq m n ≡ true
yes_same m n e = grind (arith, nat_tests)

none_in : (a n x : ℕ) → x < a → count_by (λ k. nat_eq k x) (range_with_len a n) ≡ 0
none_in a zero x lt = refl
none_in a (suc n) x lt =
    let all = sum_by-cons (λ k. one_if (nat_eq k x)) a (range_with_len (a + 1) n) in
    let here : one_if (nat_eq a x) ≡ 0 = ap (λ (b : Bool). one_if b) (not_less a x lt) in
    let rest = none_in (a + 1) n x (omega (arith, lt)) in
    omega (arith, all, here, rest)

one_in : (a n x : ℕ) → a ≤ x → x < a + n → count_by (λ k. nat_eq k x) (range_with_len a n) ≡ 1
one_in a zero x le lt = absurd (omega (arith, le, lt))
one_in a (suc n) x le lt = ⊎_elim
    (λ (same : a ≡ x).
    let here : one_if (nat_eq a x) ≡ 1 = ap (λ (b : Bool). one_if b) (yes_same a x same) in
    let rest = none_in (a + 1) n x (omega (arith, same)) in
    omega (arith, all, here, rest))
    (λ (ne : a ≡ x → ⊥).
    let here : one_if (nat_eq a x) ≡ 0 = ap (λ (b : Bool). one_if b) (not_same a x ne) in
    let rest = one_in (a + 1) n x (omega (arith, le, ne)) (omega (arith, lt)) in
    omega (arith, all, here, rest))
    (cases_eq a x)
  where
    all : count_by (λ k. nat_eq k x) (range_with_len a (suc n)) ≡ one_if (nat_eq a x) + count_by (λ k. nat_eq k x) (range_with_len (a + 1) n)
    all = sum_by-cons (λ k. one_if (nat_eq k x)) a (range_with_len (a + 1) n)

-- ---- numbers that differ, below a bound

apart : (a b : Bool) → (a ≡ true → b ≡ false) → one_if (a || b) ≡ one_if a + one_if b
apart true b none = let e : one_if b ≡ 0 = ap (λ (t : Bool). one_if t) (none refl) in omega (arith, e)
apart false b none = omega arith

pub among_counted : (xs : List ℕ) (n : ℕ) → IsDistinct nat_eq xs → All (λ x. x < n) xs → count_by (is_among xs) (range_with_len 0 n) ≡ length xs
among_counted [] n distinct small = counted_none (λ k. false) (range_with_len 0 n) (λ k d lt. refl)
among_counted (x ∷ xs) n distinct small =
    let others : is_among xs x ≡ false = list_any_none (nat_eq x) xs (All-from_recursion (λ y. nat_eq x y ≡ false) xs (IsDistinct-head nat_eq x xs distinct)) in
    let split = counts_apart (is_among (x ∷ xs)) (λ k. nat_eq k x) (is_among xs) (range_with_len 0 n)
    (λ k. apart (nat_eq k x) (is_among xs k) (λ e. ap (is_among xs) (same_number k x e) ∙ others)) in
    let small_x = All-head (λ y. y < n) x xs small in
    let one = one_in 0 n x (omega arith) (omega (arith, small_x)) in
    let rest = among_counted xs n (IsDistinct-tail nat_eq x xs distinct) (All-tail (λ y. y < n) x xs small) in
    omega (arith, split, one, rest)
