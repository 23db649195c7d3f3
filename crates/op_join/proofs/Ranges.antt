-- The matches of a row stand together where the other side is sorted by its keys.
use Rattle.std.proofs.Common.{◌≡◌, ℕ, ◌+◌, ◌-◌, ◌<◌, ◌≤◌, Bool, true, false, All, List, [], ◌∷◌, ◌++◌, length, map, take, drop, get_or, refl, sym, subst, ◌∙◌, ap, arith}
use Rattle.std.proofs.lemmas.List.{take-append-drop, append-nil, map-append, get_or-map, length-map, get_or-take, get_or-drop, length-take, length-drop, drop-map, take-map}
use Rattle.std.proofs.lemmas.List.Elements.{filter-append, All-head, All-tail}
use Rattle.std.proofs.lemmas.List.Sorted.{sorted_far}
use Rattle.std.specs.List.{filter, AllWithin}
use Rattle.std.specs.List.Sorted.{IsSorted, IsSortedBy, IsPartitionedBy}
use Rattle.std.specs.Prelude.{cond, not, ◌&&◌}
use Rattle.row_core.specs.Hashing.{key_of}
use Rattle.row_core.specs.Values.{row_cmp, same_row}
use Rattle.bag_laws.proofs.Laws.{same-swapped}
use Rattle.bag_laws.proofs.Laws.{rows_strict}
use Rattle.bag_laws.proofs.Laws.{false_from}
use Rattle.bag_laws.specs.Rows.{OneRow as Row, row_less}
use Rattle.op_join.specs.Keys.{has_null, keys_match}

pub sorted_map : {X : Type 0} (less : X → X → Bool) {Y : Type 0} (f : Y → X) (ys : List Y) → IsSortedBy (λ a b. less (f a) (f b)) ys → IsSortedBy less (map f ys)
sorted_map less f [] sorted k d low high = absurd (omega arith)
sorted_map less f (y ∷ ys) sorted k d low high =
    let all = y ∷ ys in
    let size = length-map all f in
    let here : k + 1 < length all = omega (arith, size) in
    rw (get_or-map f all (k + 1) y d here, get_or-map f all k y d (omega arith)) (sorted k y low here)

pub sorted_drop : {X : Type 0} (less : X → X → Bool) {Y : Type 0} (f : Y → X) (n : ℕ) (ys : List Y) → n ≤ length ys → IsSortedBy less (map f ys) → IsSortedBy less (map f (drop n ys))
sorted_drop {X} less f n ys le sorted k d low high =
    let size = length-map (drop n ys) f in
    let left = length-drop n ys in
    let all = length-map ys f in
    let up : n + (k + 1) ≡ n + k + 1 = omega arith in
    subst (λ (zs : List X). less (get_or zs (k + 1) d) (get_or zs k d) ≡ false) (drop-map f n ys)
    ((λ i. less ((get_or-drop n (map f ys) (k + 1) d ∙ ap (λ (m : ℕ). get_or (map f ys) m d) up) i) (get_or-drop n (map f ys) k d i)) ∙ sorted (n + k) d (omega arith) (omega arith))

-- the front of sorted items is sorted
pub sorted_take : {X : Type 0} (less : X → X → Bool) {Y : Type 0} (f : Y → X) (n : ℕ) (ys : List Y) → n ≤ length ys → IsSortedBy less (map f ys) → IsSortedBy less (map f (take n ys))
sorted_take {X} less f n ys le sorted k d low high =
    let size = length-map (take n ys) f in
    let front = length-take n ys in
    let all = length-map ys f in
    let below : k + 1 < n = omega arith in
    let before : k < n = omega arith in
    subst (λ (zs : List X). less (get_or zs (k + 1) d) (get_or zs k d) ≡ false) (take-map f n ys)
    ((λ i. less (get_or-take n (map f ys) (k + 1) d below i) (get_or-take n (map f ys) k d before i)) ∙ sorted k d low (omega arith))

-- ---- where a search divides sorted items

module _ {X : Type 0} (f : X → Row) (xs : List X) (sorted : IsSorted row_cmp (map f xs)) where
  far : (i j : ℕ) (d : X) → i ≤ j → j < length xs → row_less (f (get_or xs j d)) (f (get_or xs i d)) ≡ false
  far i j d le lt =
      let size = length-map xs f in
      let at = get_or-map f xs j d (f d) lt in
      let at' = get_or-map f xs i d (f d) (omega arith) in
      sym (λ t. row_less (at t) (at' t)) ∙ sorted_far row_less rows_strict.order (map f xs) sorted i j (f d) le (omega (arith, size))

  pub less_first : (k : Row) → IsPartitionedBy (λ y. row_less (f y) k) xs
  less_first k i j d le lt holds =
      true_from (row_less (f (get_or xs i d)) k) (λ no.
      let bad : row_less (f (get_or xs j d)) k ≡ false = rows_strict.order.chain (f (get_or xs j d)) (f (get_or xs i d)) k (far i j d le lt) no in cc)
    where
      true_from : (b : Bool) → (b ≡ false → ⊥) → b ≡ true
      true_from true g = refl
      true_from false g = absurd (g refl)

  pub reached_first : (k : Row) → IsPartitionedBy (λ y. not (row_less k (f y))) xs
  reached_first k i j d le lt holds =
      ap not (rows_strict.order.chain k (f (get_or xs j d)) (f (get_or xs i d)) (false_of (row_less k (f (get_or xs j d))) holds) (far i j d le lt))
    where
      false_of : (b : Bool) → not b ≡ true → b ≡ false
      false_of true e = cc
      false_of false e = refl

opposite : (b : Bool) → (not b ≡ true → ⊥) → b ≡ true
opposite true g = refl
opposite false g = absurd (g refl)

-- where a search among the first items ends before their end, it ends there among all
pub near_greater : {X : Type 0} (f : X → Row) (k : Row) (xs : List X) → IsSorted row_cmp (map f xs) → (m n : ℕ) → n < m → m ≤ length xs
    → All (λ y. row_less k (f y) ≡ true) (drop n (take m xs)) → All (λ y. row_less k (f y) ≡ true) (drop n xs)
near_greater {X} f k xs sorted m n lt le greater i d low =
    let size = length-drop n xs in
    let near = length-take m xs in
    let left = length-drop n (take m xs) in
    let none : n + 0 ≡ n = omega arith in
    let at : get_or (drop n (take m xs)) 0 d ≡ get_or xs n d =
    get_or-drop n (take m xs) 0 d ∙ ap (λ (j : ℕ). get_or (take m xs) j d) none ∙ get_or-take m xs n d lt in
    let here : row_less k (f (get_or xs n d)) ≡ true = subst (λ (y : X). row_less k (f y) ≡ true) at (greater 0 d (omega arith)) in
    subst (λ (y : X). row_less k (f y) ≡ true) (sym (get_or-drop n xs i d))
    (opposite (row_less k (f (get_or xs (n + i) d))) (λ no.
    let bad = reached_first f xs sorted k n (n + i) d (omega arith) (omega arith) no in
    let clash = ap not here in cc))

-- where a search among some items ends within them, it ends there among all
module _ {X : Type 0} (f : X → Row) (k : Row) (xs : List X) (sorted : IsSorted row_cmp (map f xs)) (a m n : ℕ) (some : 0 < n) (within : n < m) (fits : a + m ≤ length xs) where
  at_near : (i : ℕ) (d : X) → i < m → get_or (take m (drop a xs)) i d ≡ get_or xs (a + i) d
  at_near i d lt = get_or-take m (drop a xs) i d lt ∙ get_or-drop a xs i d

  pub near_less : All (λ y. row_less (f y) k ≡ true) (take n (take m (drop a xs))) → All (λ y. row_less (f y) k ≡ true) (take (a + n) xs)
  near_less less i d lt =
      let size = length-take (a + n) xs in
      let near = length-take m (drop a xs) in
      let left = length-drop a xs in
      let front = length-take n (take m (drop a xs)) in
      let below : i < a + n = omega arith in
      let last : n - 1 < n = omega arith in
      let place : get_or (take n (take m (drop a xs))) (n - 1) d ≡ get_or xs (a + (n - 1)) d =
      get_or-take n (take m (drop a xs)) (n - 1) d last ∙ at_near (n - 1) d (omega arith) in
      let here : row_less (f (get_or xs (a + (n - 1)) d)) k ≡ true =
      subst (λ (y : X). row_less (f y) k ≡ true) place (less (n - 1) d (omega arith)) in
      subst (λ (y : X). row_less (f y) k ≡ true) (sym (get_or-take (a + n) xs i d below))
      (less_first f xs sorted k i (a + (n - 1)) d (omega arith) (omega arith) here)

  pub near_reached : All (λ y. row_less (f y) k ≡ false) (drop n (take m (drop a xs))) → All (λ y. row_less (f y) k ≡ false) (drop (a + n) xs)
  near_reached reached i d lt =
      let size = length-drop (a + n) xs in
      let near = length-take m (drop a xs) in
      let left = length-drop a xs in
      let back = length-drop n (take m (drop a xs)) in
      let none : n + 0 ≡ n = omega arith in
      let place : get_or (drop n (take m (drop a xs))) 0 d ≡ get_or xs (a + n) d =
      get_or-drop n (take m (drop a xs)) 0 d ∙ ap (λ (j : ℕ). get_or (take m (drop a xs)) j d) none ∙ at_near n d within in
      let here : row_less (f (get_or xs (a + n) d)) k ≡ false =
      subst (λ (y : X). row_less (f y) k ≡ false) place (reached 0 d (omega arith)) in
      subst (λ (y : X). row_less (f y) k ≡ false) (sym (get_or-drop (a + n) xs i d))
      (apart (row_less (f (get_or xs (a + n + i) d)) k) (λ holds.
      let bad = less_first f xs sorted k (a + n) (a + n + i) d (omega arith) (omega arith) holds in cc))
    where
      apart : (b : Bool) → (b ≡ true → ⊥) → b ≡ false
      apart true g = absurd (g refl)
      apart false g = refl

-- what holds of a front of a front holds of a front
pub front_near : {X : Type 0} (P : X → Type 0) (m n : ℕ) (xs : List X) → n ≤ m → All P (take n (take m xs)) → All P (take n xs)
front_near P m n xs le all i d lt =
    let size = length-take n xs in
    let near = length-take m xs in
    let front = length-take n (take m xs) in
    let below : i < n = omega arith in
    subst P (get_or-take n (take m xs) i d below ∙ get_or-take m xs i d (omega arith) ∙ sym (get_or-take n xs i d below)) (all i d (omega arith))

-- what a search says, as facts of the two parts
pub front_part : {X : Type 0} (P : X → Type 0) (xs : List X) (n : ℕ) → n ≤ length xs → AllWithin P xs 0 n → All P (take n xs)
front_part P xs n le within k d lt =
    let size = length-take n xs in
    let below : k < n = omega arith in
    subst P (sym (get_or-take n xs k d below)) (within k d (omega arith) below)

pub back_part : {X : Type 0} (P : X → Type 0) (xs : List X) (n : ℕ) → n ≤ length xs → AllWithin P xs n (length xs) → All P (drop n xs)
back_part P xs n le within k d lt =
    let size = length-drop n xs in
    subst P (sym (get_or-drop n xs k d)) (within (n + k) d (omega arith) (omega arith))

-- ---- the range that was found

module _ {X : Type 0} (now : X → Row) where
  none_of : (p : Row → Bool) (xs : List X) → All (λ x. p (now x) ≡ false) xs → filter p (map now xs) ≡ []
  none_of p [] all = refl
  none_of p (x ∷ xs) all =
      ap (λ (b : Bool). cond b (now x ∷ filter p (map now xs)) (filter p (map now xs))) (All-head (λ x. p (now x) ≡ false) x xs all)
      ∙ none_of p xs (All-tail (λ x. p (now x) ≡ false) x xs all)

  all_of : (p : Row → Bool) (xs : List X) → All (λ x. p (now x) ≡ true) xs → filter p (map now xs) ≡ map now xs
  all_of p [] all = refl
  all_of p (x ∷ xs) all =
      ap (λ (b : Bool). cond b (now x ∷ filter p (map now xs)) (filter p (map now xs))) (All-head (λ x. p (now x) ≡ true) x xs all)
      ∙ ap (λ (l : List Row). now x ∷ l) (all_of p xs (All-tail (λ x. p (now x) ≡ true) x xs all))

differ : (a b : Row) → row_less a b ≡ true → same_row a b ≡ false
differ a b less = false_from row_less same_row rows_strict (same_row a b) (λ tie. let bad = rows_strict.tied a b tie in cc)

-- what holds of the keys as they are compared holds of the rows' keys
pub rekeyed : {X : Type 0} (now of : X → Row) (others : List ℕ) (P : Row → Type 0) (xs : List X) → All (λ x. of x ≡ key_of others (now x)) xs
    → All (λ x. P (of x)) xs → All (λ x. P (key_of others (now x))) xs
rekeyed now of others P xs keyed all i d lt = subst P (keyed i d lt) (all i d lt)

module _ {X : Type 0} (now : X → Row) (columns others : List ℕ) (row : Row) (sorted : List X) (s n : ℕ) where
  abbrev k : Row
  k = key_of columns row

  abbrev of : X → Row
  of other = key_of others (now other)

  abbrev rest : List X
  rest = drop s sorted

  unequal : (other : Row) → same_row k (key_of others other) ≡ false → keys_match columns others row other ≡ false
  unequal other apart = by (not (has_null columns row)) (same_row k (key_of others other)) apart
    where
      by : (b c : Bool) → c ≡ false → (b && c) ≡ false
      by true c e = e
      by false c e = refl

  equal : has_null columns row ≡ false → (other : Row) → k ≡ key_of others other → keys_match columns others row other ≡ true
  equal full other one = (λ i. not (full i) && same_row k (sym one i)) ∙ rows_strict.itself k

  pub with_null : has_null columns row ≡ true → filter (keys_match columns others row) (map now sorted) ≡ []
  with_null null = none_of now (keys_match columns others row) sorted (λ i d lt.
      let other = get_or sorted i d in
      ap (λ (b : Bool). not b && same_row k (of other)) null)

  pub found : has_null columns row ≡ false
      → All (λ other. row_less (of other) k ≡ true) (take s sorted) → All (λ other. row_less (of other) k ≡ false) (drop s sorted)
      → All (λ other. row_less k (of other) ≡ false) (take n rest) → All (λ other. row_less k (of other) ≡ true) (drop n rest)
      → map now (take n rest) ≡ filter (keys_match columns others row) (map now sorted)
  found full less reached same greater =
      let p = keys_match columns others row in
      let front : filter p (map now (take s sorted)) ≡ [] =
      none_of now p (take s sorted) (λ i d lt. let other = get_or (take s sorted) i d in unequal (now other) (same-swapped k (of other) ∙ differ (of other) k (less i d lt))) in
      let middle : filter p (map now (take n rest)) ≡ map now (take n rest) =
      all_of now p (take n rest) (λ i d lt.
      let other = get_or (take n rest) i d in
      let size = length-take n rest in
      let behind : row_less (of other) k ≡ false =
      subst (λ (one : X). row_less (of one) k ≡ false) (sym (get_or-take n rest i d (omega arith))) (reached i d (omega arith)) in
      equal full (now other) (rows_strict.apart k (of other) (same i d lt) behind)) in
      let back : filter p (map now (drop n rest)) ≡ [] =
      none_of now p (drop n rest) (λ i d lt. let other = get_or (drop n rest) i d in unequal (now other) (differ k (of other) (greater i d lt))) in
      sym (
      ap (λ (l : List X). filter p (map now l)) (sym (take-append-drop s sorted))
      ∙ ap (filter p) (map-append now (take s sorted) rest) ∙ filter-append p (map now (take s sorted)) (map now rest)
      ∙ ap (λ (l : List Row). l ++ filter p (map now rest)) front
      ∙ ap (λ (l : List X). filter p (map now l)) (sym (take-append-drop n rest))
      ∙ ap (filter p) (map-append now (take n rest) (drop n rest)) ∙ filter-append p (map now (take n rest)) (map now (drop n rest))
      ∙ (λ i. middle i ++ back i) ∙ append-nil (map now (take n rest)))
