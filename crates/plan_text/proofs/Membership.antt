-- What stands in a list of numbers.
use Rattle.std.proofs.Common.{◌≡◌, ℕ, zero, suc, ◌+◌, ◌<◌, ◌≤◌, nat_eq, nat_lt, Bool, true, false, ◌&&◌, ◌||◌, cond, List, [], ◌∷◌, ◌++◌, filter, get_or, refl, sym, ◌∙◌, ap, arith}
use Rattle.std.specs.List.{list_all, flat_map, range_with_len, AllByRecursion, IsDistinct}
use Rattle.std.proofs.lemmas.Bool.{false≢true}
use Rattle.std.proofs.lemmas.Bool.Decides.{nat_tests}
use Rattle.std.proofs.lemmas.List.Folds.{list_any-append}
use Rattle.std.proofs.lemmas.List.FromFn.{get_or-range_with_len, length-range_with_len}
use Rattle.std.proofs.lemmas.Map.Keys.{IsDistinct-head, IsDistinct-tail, IsDistinct-cons, IsDistinct-from_apart}
use Rattle.vertex_builder.specs.Chains.{is_among}
use Rattle.vertex_builder.proofs.Laws.{same_number, other_number, flipped, either_left, either_right, neither_left, neither_right, all_map}

-- ---- tests of numbers

pub below_yes : (m n : ℕ) → m < n → nat_lt m n ≡ true
below_yes m n lt = grind (arith, nat_tests)

pub below_is : (m n : ℕ) → nat_lt m n ≡ true → m < n
below_is m n e = grind (arith, nat_tests)

-- ---- each item of a list

all_append : {X : Type 0} (P : X → Type 0) (xs ys : List X) → AllByRecursion P xs → AllByRecursion P ys → AllByRecursion P (xs ++ ys)
all_append P [] ys h i = i
all_append P (x ∷ xs) ys h i = (h.0, all_append P xs ys h.1 i)

all_filter : {X : Type 0} (P : X → Type 0) (p : X → Bool) (xs : List X) → AllByRecursion P xs → AllByRecursion P (filter p xs)
all_filter P p [] h = tt
all_filter P p (x ∷ xs) h = at (p x) (all_filter P p xs h.1)
  where
    at : (b : Bool) → AllByRecursion P (filter p xs) → AllByRecursion P (cond b (x ∷ filter p xs) (filter p xs))
    at true rest = (h.0, rest)
    at false rest = rest

pub all_yes : (p : ℕ → Bool) (xs : List ℕ) → AllByRecursion (λ x. p x ≡ true) xs → list_all p xs ≡ true
all_yes p [] h = refl
all_yes p (x ∷ xs) h = ap (λ (b : Bool). b && list_all p xs) h.0 ∙ all_yes p xs h.1

-- ---- no number twice

pub distinct_append : (xs ys : List ℕ) → IsDistinct nat_eq xs → IsDistinct nat_eq ys → AllByRecursion (λ y. is_among xs y ≡ false) ys → IsDistinct nat_eq (xs ++ ys)
distinct_append [] ys dx dy apart = dy
distinct_append (x ∷ xs) ys dx dy apart =
    IsDistinct-cons nat_eq x (xs ++ ys)
    (all_append (λ y. nat_eq x y ≡ false) xs ys (IsDistinct-head nat_eq x xs dx)
    (all_map (λ y. is_among (x ∷ xs) y ≡ false) (λ y. nat_eq x y ≡ false) ys apart (λ y e. flipped y x (neither_left (nat_eq y x) (is_among xs y) e))))
    (distinct_append xs ys (IsDistinct-tail nat_eq x xs dx) dy
    (all_map (λ y. is_among (x ∷ xs) y ≡ false) (λ y. is_among xs y ≡ false) ys apart (λ y e. neither_right (nat_eq y x) (is_among xs y) e)))

pub distinct_filter : (p : ℕ → Bool) (xs : List ℕ) → IsDistinct nat_eq xs → IsDistinct nat_eq (filter p xs)
distinct_filter p [] d = d
distinct_filter p (x ∷ xs) d = at (p x) (distinct_filter p xs (IsDistinct-tail nat_eq x xs d))
  where
    at : (b : Bool) → IsDistinct nat_eq (filter p xs) → IsDistinct nat_eq (cond b (x ∷ filter p xs) (filter p xs))
    at true rest = IsDistinct-cons nat_eq x (filter p xs) (all_filter (λ y. nat_eq x y ≡ false) p xs (IsDistinct-head nat_eq x xs d)) rest
    at false rest = rest

pub distinct_range : (n : ℕ) → IsDistinct nat_eq (range_with_len 0 n)
distinct_range n = IsDistinct-from_apart nat_eq (range_with_len 0 n) (λ i j d lt below.
    let inside : j < n = omega (arith, below, length-range_with_len 0 n) in
    let left : get_or (range_with_len 0 n) i d ≡ 0 + i = get_or-range_with_len 0 n i d (omega (arith, lt, inside)) in
    let right : get_or (range_with_len 0 n) j d ≡ 0 + j = get_or-range_with_len 0 n j d inside in
    (λ k. nat_eq (left k) (right k)) ∙ other_number (0 + i) (0 + j) (omega (arith, lt)))

-- ---- numbers in a row

range_has : (a n q : ℕ) → a ≤ q → q < a + n → is_among (range_with_len a n) q ≡ true
range_has a zero q low high = absurd (omega (arith, low, high))
range_has a (suc n) q low high = at (nat_eq q a) refl (range_has (a + 1) n q)
  where
    at : (b : Bool) → nat_eq q a ≡ b → (a + 1 ≤ q → q < a + 1 + n → is_among (range_with_len (a + 1) n) q ≡ true) → is_among (range_with_len a (suc n)) q ≡ true
    at true is rest = either_left (nat_eq q a) (is_among (range_with_len (a + 1) n) q) is
    at false is rest = either_right (nat_eq q a) (is_among (range_with_len (a + 1) n) q) (rest (later a q low is) (omega (arith, high)))
      where
        later : (a q : ℕ) → a ≤ q → nat_eq q a ≡ false → a + 1 ≤ q
        later a q low is = grind (arith, nat_tests)

pub has_below : (n q : ℕ) → q < n → is_among (range_with_len 0 n) q ≡ true
has_below n q lt = range_has 0 n q (omega arith) (omega (arith, lt))

range_ends : (a n q : ℕ) → is_among (range_with_len a n) q ≡ true → q < a + n
range_ends a zero q e = absurd (false≢true e)
range_ends a (suc n) q e = at (nat_eq q a) refl (range_ends (a + 1) n q)
  where
    at : (b : Bool) → nat_eq q a ≡ b → (is_among (range_with_len (a + 1) n) q ≡ true → q < a + 1 + n) → q < a + suc n
    at true is rest = let here = same_number q a is in omega (arith, here)
    at false is rest = let lt = rest (sym (ap (λ (b : Bool). b || is_among (range_with_len (a + 1) n) q) is) ∙ e) in omega (arith, lt)

pub is_below : (n q : ℕ) → is_among (range_with_len 0 n) q ≡ true → q < n
is_below n q e = let lt = range_ends 0 n q e in omega (arith, lt)

-- ---- in pieces

pub among_pieces : (f : ℕ → List ℕ) (xs : List ℕ) (x q : ℕ) → is_among xs x ≡ true → is_among (f x) q ≡ true → is_among (flat_map f xs) q ≡ true
among_pieces f [] x q e here = absurd (false≢true e)
among_pieces f (y ∷ ys) x q e here = list_any-append (nat_eq q) (f y) (flat_map f ys) ∙ at (nat_eq x y) refl (among_pieces f ys x q)
  where
    at : (b : Bool) → nat_eq x y ≡ b → (is_among ys x ≡ true → is_among (f x) q ≡ true → is_among (flat_map f ys) q ≡ true) → (is_among (f y) q || is_among (flat_map f ys) q) ≡ true
    at true is rest = either_left (is_among (f y) q) (is_among (flat_map f ys) q) (ap (λ (n : ℕ). is_among (f n) q) (sym (same_number x y is)) ∙ here)
    at false is rest = either_right (is_among (f y) q) (is_among (flat_map f ys) q) (rest (sym (ap (λ (b : Bool). b || is_among ys x) is) ∙ e) here)
