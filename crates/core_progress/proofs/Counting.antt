-- Counts that fall.
use Rattle.std.proofs.Common.{◌≡◌, ℕ, zero, suc, ◌+◌, ◌<◌, ◌≤◌, Bool, true, false, cond, List, [], ◌∷◌, ◌++◌, set, filter, count_by, refl, ◌∙◌, ap, arith, Contains}
use Rattle.std.proofs.lemmas.List.Sums.{sum_by-cons, sum_by-le-sum_by}
use Rattle.std.proofs.lemmas.List.Elements.{All-contains, All-contains_itself, All-filter, filter_passes}
use Rattle.graph_model.specs.States.{made_nodes, vertex_at}
use Rattle.graph_model.specs.declared.made_vertex.MadeVertex.{MadeVertex}

one_if : (a b : Bool) → (a ≡ true → b ≡ true) → cond a 1 0 ≤ cond b 1 0
one_if true true implies = omega arith
one_if true false implies = absurd (cc (implies refl))
one_if false true implies = omega arith
one_if false false implies = omega arith

-- what passes the one test passes the other
pub count_le : {A : Type 0} (p q : A → Bool) → ((x : A) → q x ≡ true → p x ≡ true) → (xs : List A) → count_by q xs ≤ count_by p xs
count_le p q implies xs = sum_by-le-sum_by (λ x. cond (q x) 1 0) (λ x. cond (p x) 1 0) xs (λ x. one_if (q x) (p x) (implies x))

first_less : (a b : Bool) (m n : ℕ) → a ≡ false → b ≡ true → m ≤ n → cond a 1 0 + m < cond b 1 0 + n
first_less true b m n out is le = absurd (cc out)
first_less false true m n out is le = omega (arith, le)
first_less false false m n out is le = absurd (cc is)

more_less : (a b : Bool) (m n : ℕ) → (a ≡ true → b ≡ true) → m < n → cond a 1 0 + m < cond b 1 0 + n
more_less a b m n implies lt = let le = one_if a b implies in omega (arith, le, lt)

-- and one passes that other alone
pub count_less : {A : Type 0} (p q : A → Bool) → ((x : A) → q x ≡ true → p x ≡ true) → (xs : List A) (x : A) → Contains xs x → p x ≡ true → q x ≡ false → count_by q xs < count_by p xs
count_less p q implies [] x (k, lt, is) passes none = absurd (omega (arith, lt))
count_less p q implies (y ∷ xs) x (zero, lt, is) passes none =
    let here = first_less (q y) (p y) (count_by q xs) (count_by p xs) (ap q is ∙ none) (ap p is ∙ passes) (count_le p q implies xs) in
    omega (arith, here, sum_by-cons (λ z. cond (q z) 1 0) y xs, sum_by-cons (λ z. cond (p z) 1 0) y xs)
count_less p q implies (y ∷ xs) x (suc k, lt, is) passes none =
    let rest = count_less p q implies xs x (k, omega (arith, lt), is) passes none in
    let here = more_less (q y) (p y) (count_by q xs) (count_by p xs) (implies y) rest in
    omega (arith, here, sum_by-cons (λ z. cond (q z) 1 0) y xs, sum_by-cons (λ z. cond (p z) 1 0) y xs)

-- what a filter leaves
pub in_filter : {A : Type 0} (p : A → Bool) (xs : List A) (x : A) → Contains (filter p xs) x → Contains xs x × (p x ≡ true)
in_filter {A} p xs x has = (
  All-contains (Contains xs) (filter p xs) x (All-filter p (Contains xs) xs (All-contains_itself xs)) has,
  All-contains (λ (y : A). p y ≡ true) (filter p xs) x (filter_passes p xs) has,
)

-- a vertex that has the same nodes
pub made_same : (vs : List MadeVertex) (v : ℕ) (made : MadeVertex) → made.vertex ≡ (vertex_at vs v).vertex → made_nodes (set vs v made) ≡ made_nodes vs
made_same [] v made same = refl
made_same (m ∷ vs) zero made same = ap (λ vertex. vertex.nodes ++ made_nodes vs) same
made_same (m ∷ vs) (suc v) made same = ap (λ (l : List ℕ). m.vertex.nodes ++ l) (made_same vs v made same)
