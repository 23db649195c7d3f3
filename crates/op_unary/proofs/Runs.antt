-- Rows with one key give one row; and rows in other things.
use Rattle.std.proofs.Common.{◌≡◌, ℕ, suc, ◌+◌, ◌<◌, ◌≤◌, Bool, true, false, All, List, [], ◌∷◌, ◌++◌, length, map, take, get_or, refl, sym, subst, inl, inr, ◌∙◌, ap, arith}
use Rattle.std.proofs.lemmas.Bool.{cases_Bool}
use Rattle.std.proofs.lemmas.List.{get_or-map, length-map}
use Rattle.std.proofs.lemmas.List.Sums.{prefix_len-le-length}
use Rattle.std.proofs.lemmas.List.Elements.{All-nil, All-cons, All-head, All-tail}
use Rattle.std.specs.List.{prefix_len, filter, dedup, dedup_from}
use Rattle.std.specs.List.Sorted.{IsSortedBy}
use Rattle.std.specs.Prelude.{cond, not}
use Rattle.row_core.specs.Bags.{one_of_each}
use Rattle.row_core.specs.Values.{same_row}
use Rattle.plan_model.specs.Operators.{agg_value, aggregated, key_of, rows_with}
use Rattle.plan_model.specs.declared.agg.Agg.{Agg}
use Rattle.bag_laws.specs.Rows.{OneRow as Row}
use Rattle.bag_laws.proofs.Laws.{rows_strict, same_row_is}
use Rattle.bag_laws.proofs.Laws.{same-swapped}

-- the things at the front with a key
module _ {X : Type 0} (key : X → Row) (first : Row) where
  abbrev pub front : List X → ℕ
  front xs = prefix_len (λ x. same_row first (key x)) xs

  front-more : (x : X) (xs : List X) → same_row first (key x) ≡ true → front (x ∷ xs) ≡ suc (front xs)
  front-more x xs tie = ap (λ (b : Bool). cond b (1 + front xs) 0) tie ∙ omega arith

  front_keys : (xs : List X) → All (λ x. key x ≡ first) (take (front xs) xs)
  front_keys [] = All-nil (λ x. key x ≡ first)
  front_keys (x ∷ xs) = elim (cases_Bool (same_row first (key x))) [
    | inl tie ↦
        subst (λ (n : ℕ). All (λ x. key x ≡ first) (take n (x ∷ xs))) (sym (front-more x xs tie))
        (All-cons (λ x. key x ≡ first) x (take (front xs) xs) (sym (same_row_is first (key x) tie)) (front_keys xs))
    | inr other ↦
        subst (λ (n : ℕ). All (λ x. key x ≡ first) (take n (x ∷ xs))) (sym (ap (λ (b : Bool). cond b (1 + front xs) 0) other)) (All-nil (λ x. key x ≡ first))
  ]

  front_some : (x : X) (xs : List X) → key x ≡ first → 0 < front (x ∷ xs)
  front_some x xs is = let more = front-more x xs (subst (λ (k : Row). same_row first k ≡ true) (sym is) (rows_strict.itself first)) in omega (arith, more)

  -- how many there are, where the first of them is such
  pub record IsFront (xs : List X) (n : ℕ) : Type 0 where
    pub some : 0 < n
    pub within : n ≤ length xs
    pub keys : All (λ x. key x ≡ first) (take n xs)

  pub front_of : (x : X) (xs : List X) (n : ℕ) → 0 < length xs → x ≡ get_or xs 0 x → key x ≡ first → n ≡ front xs → IsFront xs n
  front_of x [] n lt is at count = absurd (omega arith)
  front_of x (y ∷ ys) n lt is at count =
      subst (IsFront (y ∷ ys)) (sym count)
      (record {
        some = front_some y ys (ap key (sym is) ∙ at);
        within = prefix_len-le-length (λ x. same_row first (key x)) (y ∷ ys);
        keys = front_keys (y ∷ ys);
      })

-- one of each of equal rows
one_key : (k : Row) (ks : List Row) → All (λ w. same_row k w ≡ true) ks → one_of_each (k ∷ ks) ≡ k ∷ []
one_key k [] all = refl
one_key k (z ∷ zs) all =
    let tie : same_row k z ≡ true = All-head (λ w. same_row k w ≡ true) z zs all in
    let one : k ≡ z = same_row_is k z tie in
    let rest : one_of_each (z ∷ zs) ≡ z ∷ [] = one_key z zs (subst (λ (x : Row). All (λ w. same_row x w ≡ true) zs) one (All-tail (λ w. same_row k w ≡ true) z zs all)) in
    ap (λ (l : List Row). k ∷ filter (λ other. not (same_row k other)) l) rest ∙ ap (λ (b : Bool). k ∷ cond (not b) (z ∷ []) []) tie

module _ (keys : List ℕ) where
  abbrev key : Row → Row
  key = key_of keys

  with_all : (k : Row) (rows : List Row) → All (λ w. same_row k w ≡ true) (map key rows) → rows_with keys k rows ≡ rows
  with_all k [] all = refl
  with_all k (row ∷ rows) all =
      ap (λ (b : Bool). cond b (row ∷ rows_with keys k rows) (rows_with keys k rows))
      (same-swapped (key row) k ∙ All-head (λ w. same_row k w ≡ true) (key row) (map key rows) all)
      ∙ ap (λ (l : List Row). row ∷ l) (with_all k rows (All-tail (λ w. same_row k w ≡ true) (key row) (map key rows) all))

  pub one_group : (aggs : List Agg) (row : Row) (rows : List Row) → All (λ w. same_row (key row) w ≡ true) (map key rows)
      → aggregated keys aggs (row ∷ rows) ≡ (key row ++ map (agg_value (row ∷ rows)) aggs) ∷ []
  one_group aggs row rows all =
      ap (map (λ k. k ++ map (agg_value (rows_with keys k (row ∷ rows))) aggs)) (one_key (key row) (map key rows) all)
      ∙ ap (λ (l : List Row). (key row ++ map (agg_value l) aggs) ∷ [])
      (with_all (key row) (row ∷ rows) (All-cons (λ w. same_row (key row) w ≡ true) (key row) (map key rows) (rows_strict.itself (key row)) all))

-- ---- rows in other things

pub sorted_map : {X : Type 0} (less : X → X → Bool) {Y : Type 0} (f : Y → X) (ys : List Y) → IsSortedBy (λ a b. less (f a) (f b)) ys → IsSortedBy less (map f ys)
sorted_map less f [] sorted k d low high = absurd (omega arith)
sorted_map less f (y ∷ ys) sorted k d low high =
    let all = y ∷ ys in
    let size = length-map all f in
    let here : k + 1 < length all = omega (arith, size) in
    rw (get_or-map f all (k + 1) y d here, get_or-map f all k y d (omega arith)) (sorted k y low here)

module _ {X : Type 0} (now : X → Row) where
  dedup_from_map : (k : X) (rows : List X) → map now (dedup_from (λ a b. same_row (now a) (now b)) k rows) ≡ dedup_from same_row (now k) (map now rows)
  dedup_from_map k [] = refl
  dedup_from_map k (x ∷ xs) = by (same_row (now x) (now k)) (dedup_from_map k xs) (dedup_from_map x xs)
    where
      by : (b : Bool)
          → map now (dedup_from (λ a b. same_row (now a) (now b)) k xs) ≡ dedup_from same_row (now k) (map now xs)
          → map now (dedup_from (λ a b. same_row (now a) (now b)) x xs) ≡ dedup_from same_row (now x) (map now xs)
          → map now (cond b (dedup_from (λ a b. same_row (now a) (now b)) k xs) (k ∷ dedup_from (λ a b. same_row (now a) (now b)) x xs))
          ≡ cond b (dedup_from same_row (now k) (map now xs)) (now k ∷ dedup_from same_row (now x) (map now xs))
      by true here later = here
      by false here later = ap (λ (l : List Row). now k ∷ l) later

  pub dedup_map : (rows : List X) → map now (dedup (λ a b. same_row (now a) (now b)) rows) ≡ dedup same_row (map now rows)
  dedup_map [] = refl
  dedup_map (x ∷ xs) = dedup_from_map x xs
