-- Items of a list that groups part: what stands in one item stands in one group.
use Rattle.std.proofs.Common.{◌≡◌, ℕ, zero, suc, ◌+◌, ◌-◌, ◌*◌, ◌≤◌, Bool, true, false, cond, ◌||◌, List, [], ◌∷◌, ◌++◌, length, map, take, drop, refl, sym, ◌∙◌, ap, arith}
use Rattle.std.proofs.Math.Nat.{zero-add, zero-mul}
use Rattle.std.specs.List.{list_any, slice_range}
use Rattle.std.proofs.lemmas.List.{drop-drop, take-append-drop, drop_all}
use Rattle.bag_laws.proofs.Laws.{total, total-append}
use Rattle.volume_split.specs.Groups.{Parts}
use Rattle.volume_split.specs.declared.group.Group.{Group}

abbrev pub one : Bool → ℕ
one b = cond {A = ℕ} b 1 0

module _ {X : Type 0} where
  pub cut-drop : (xs : List X) (a b : ℕ) → a ≤ b → slice_range xs a b ++ drop b xs ≡ drop a xs
  cut-drop xs a b le =
      ap (λ (rest : List X). take (b - a) (drop a xs) ++ rest) (ap (λ (n : ℕ). drop n xs) (let e : b ≡ a + (b - a) = omega arith in e) ∙ sym (drop-drop (b - a) a xs))
      ∙ take-append-drop (b - a) (drop a xs)

  -- a sum over all is the sum over the groups
  pub total-shares : (f : X → ℕ) (xs : List X) (start : ℕ) (groups : List Group) → Parts start (length xs) groups
      → total (λ group. total f (slice_range xs group.start group.end)) groups ≡ total f (drop start xs)
  total-shares f xs start [] parts = sym (ap (total f) (drop_all start xs (omega (arith, parts))))
  total-shares f xs start (group ∷ groups) (at, ordered, rest) =
      ap (λ (n : ℕ). total f (slice_range xs group.start group.end) + n) (total-shares f xs group.end groups rest)
      ∙ sym (total-append f (slice_range xs group.start group.end) (drop group.end xs))
      ∙ ap (total f) (cut-drop xs group.start group.end ordered)
      ∙ ap (λ (n : ℕ). total f (drop n xs)) at

  -- where at most one item passes, the sum says whether one does
  pub any-total : (test : X → Bool) (xs : List X) → total (λ x. one (test x)) xs ≤ 1 → one (list_any test xs) ≡ total (λ x. one (test x)) xs
  any-total test [] le = refl
  any-total test (x ∷ xs) le = by (test x) refl (any-total test xs)
    where
      by : (b : Bool) → test x ≡ b → (total (λ x. one (test x)) xs ≤ 1 → one (list_any test xs) ≡ total (λ x. one (test x)) xs)
          → one (b || list_any test xs) ≡ one b + total (λ x. one (test x)) xs
      by true holds rest = let first : one (test x) ≡ 1 = ap one holds in let all : 1 ≡ 1 + total (λ x. one (test x)) xs = omega arith in all
      by false fails rest = let first : one (test x) ≡ 0 = ap one fails in rest (omega arith) ∙ sym (zero-add (total (λ x. one (test x)) xs))

  pub part-le : (f : X → ℕ) (xs : List X) (a b : ℕ) → a ≤ b → total f (slice_range xs a b) ≤ total f xs
  part-le f xs a b le =
      let front = total-append f (take a xs) (drop a xs) in
      let whole : total f (take a xs ++ drop a xs) ≡ total f xs = ap (total f) (take-append-drop a xs) in
      let back = total-append f (slice_range xs a b) (drop b xs) in
      let rest : total f (slice_range xs a b ++ drop b xs) ≡ total f (drop a xs) = ap (total f) (cut-drop xs a b le) in
      omega arith

  -- what stands in one item stands in one group
  pub once_shared : (test : X → Bool) (xs : List X) (groups : List Group) → Parts 0 (length xs) groups → total (λ x. one (test x)) xs ≡ 1
      → total (λ group. one (list_any test (slice_range xs group.start group.end))) groups ≡ 1
  once_shared test xs groups parts once = from 0 groups parts ∙ total-shares (λ x. one (test x)) xs 0 groups parts ∙ once
    where
      from : (start : ℕ) (groups : List Group) → Parts start (length xs) groups
          → total (λ group. one (list_any test (slice_range xs group.start group.end))) groups ≡ total (λ group. total (λ x. one (test x)) (slice_range xs group.start group.end)) groups
      from start [] parts = refl
      from start (group ∷ groups) (at, ordered, rest) =
          let least = part-le (λ x. one (test x)) xs group.start group.end ordered in
          let here = any-total test (slice_range xs group.start group.end) (omega arith) in
          let later = from group.end groups rest in
          omega arith

  -- P of each item, by recursion
  abbrev pub Each : (X → Type 0) → List X → Type 0
  Each P [] = Unit {0}
  Each P (x ∷ xs) = P x × Each P xs

  pub each-append : (P : X → Type 0) (xs ys : List X) → Each P xs → Each P ys → Each P (xs ++ ys)
  each-append P [] ys left right = right
  each-append P (x ∷ xs) ys left right = (left.0, each-append P xs ys left.1 right)

  pub each-take : (P : X → Type 0) (k : ℕ) (xs : List X) → Each P xs → Each P (take k xs)
  each-take P zero xs each = tt
  each-take P (suc k) [] each = tt
  each-take P (suc k) (x ∷ xs) each = (each.0, each-take P k xs each.1)

  pub each-drop : (P : X → Type 0) (k : ℕ) (xs : List X) → Each P xs → Each P (drop k xs)
  each-drop P zero xs each = each
  each-drop P (suc k) [] each = tt
  each-drop P (suc k) (x ∷ xs) each = each-drop P k xs each.1

  pub each-part : (P : X → Type 0) (a b : ℕ) (xs : List X) → Each P xs → Each P (slice_range xs a b)
  each-part P a b xs each = each-take P (b - a) (drop a xs) (each-drop P a xs each)

  -- where what passes the one test passes the other, some passes the other where some passes the one
  pub any_along : (test other : X → Bool) (xs : List X) → Each (λ x. test x ≡ true → other x ≡ true) xs → list_any test xs ≡ true → list_any other xs ≡ true
  any_along test other [] each holds = holds
  any_along test other (x ∷ xs) each holds = by (test x) (other x) refl refl holds (any_along test other xs each.1)
    where
      by : (a b : Bool) → test x ≡ a → other x ≡ b → (a || list_any test xs) ≡ true → (list_any test xs ≡ true → list_any other xs ≡ true) → (b || list_any other xs) ≡ true
      by a true at there some rest = refl
      by true false at there some rest = absurd (let fails : false ≡ true = sym there ∙ each.0 at in cc)
      by false false at there some rest = rest some

  pub product : (test other : X → Bool) (xs : List X) → Each (λ x. test x ≡ true → other x ≡ true) xs
      → one (list_any test xs) * one (list_any other xs) ≡ one (list_any test xs)
  product test other xs each = by (list_any test xs) refl
    where
      by : (b : Bool) → list_any test xs ≡ b → one b * one (list_any other xs) ≡ one b
      by true holds = ap (λ (c : Bool). 1 * one c) (any_along test other xs each holds)
      by false fails = zero-mul (one (list_any other xs))

module _ {X Y : Type 0} where
  pub each-map : (P : Y → Type 0) (f : X → Y) (xs : List X) → Each (λ x. P (f x)) xs → Each P (map f xs)
  each-map P f [] each = tt
  each-map P f (x ∷ xs) each = (each.0, each-map P f xs each.1)

  pub any-map : (test : Y → Bool) (f : X → Y) (xs : List X) → list_any test (map f xs) ≡ list_any (λ x. test (f x)) xs
  any-map test f [] = refl
  any-map test f (x ∷ xs) = ap (λ (b : Bool). test (f x) || b) (any-map test f xs)
