-- Lists read at a place.
use Rattle.std.proofs.Common.{◌≡◌, ◌≢◌, ℕ, zero, suc, ◌+◌, ◌<◌, ◌≤◌, List, [], ◌∷◌, length, set, get_or, refl, sym, ap, ◌∙◌, arith, sum_by}
use Rattle.std.specs.Prelude.{slice_index}
use mathlib.Core.Option.{some, some-ne-none, some-injective}
use lib.ListN.{get_elem?}
use Rattle.std.proofs.lemmas.List.Sums.{sum_by-set, sum_by-cons}
use Rattle.race_words.specs.declared.view.View.{View}

pub inside : {A : Type 0} (l : List A) (i : ℕ) (a : A) → get_elem? l i ≡ some a → (i < length l) × (get_or l i a ≡ a)
inside [] i a e = absurd (some-ne-none a (sym e))
inside (x ∷ xs) zero a e = (omega arith, some-injective x a e)
inside (x ∷ xs) (suc i) a e = let t = inside xs i a e in (omega (arith, t.0), t.1)

pub set_same : (l : List ℕ) (i : ℕ) → set l i (slice_index l i) ≡ l
set_same [] i = refl
set_same (x ∷ xs) zero = refl
set_same (x ∷ xs) (suc i) = ap (λ t. x ∷ t) (set_same xs i)

pub at_same : (l : List ℕ) (i n : ℕ) → i < length l → slice_index (set l i n) i ≡ n
at_same [] i n h = absurd (omega arith)
at_same (x ∷ xs) zero n h = refl
at_same (x ∷ xs) (suc i) n h = at_same xs i n (omega arith)

pub at_other : (l : List ℕ) (i j n : ℕ) → j ≢ i → slice_index (set l i n) j ≡ slice_index l j
at_other [] i j n h = refl
at_other (x ∷ xs) zero zero n h = absurd (h refl)
at_other (x ∷ xs) zero (suc j) n h = refl
at_other (x ∷ xs) (suc i) zero n h = refl
at_other (x ∷ xs) (suc i) (suc j) n h = at_other xs i j n (λ e. h (ap suc e))

-- the sum after a change of one seat
pub sum_set : (f : View → ℕ) (views : List View) (i : ℕ) (v w : View) → get_elem? views i ≡ some v → sum_by f (set views i w) + f v ≡ sum_by f views + f w
sum_set f views i v w e =
    let t = inside views i v e in
    ap (λ (x : View). sum_by f (set views i w) + f x) (sym t.1) ∙ sum_by-set f views i w v t.0

-- where each seat has none, all have none
pub sum_none : (f : View → ℕ) (views : List View) → ((i : ℕ) (v : View) → get_elem? views i ≡ some v → f v ≡ 0) → sum_by f views ≡ 0
sum_none f [] none = refl
sum_none f (v ∷ vs) none = omega (arith, sum_by-cons f v vs, none 0 v refl, sum_none f vs (λ i u e. none (suc i) u e))

pub at_most_sum : (f : View → ℕ) (views : List View) (i : ℕ) (v : View) → get_elem? views i ≡ some v → f v ≤ sum_by f views
at_most_sum f [] i v e = absurd (some-ne-none v (sym e))
at_most_sum f (x ∷ xs) zero v e = (let s : f x ≡ f v = ap f (some-injective x v e) in omega (arith, sum_by-cons f x xs, s))
at_most_sum f (x ∷ xs) (suc i) v e = omega (arith, sum_by-cons f x xs, at_most_sum f xs i v e)
