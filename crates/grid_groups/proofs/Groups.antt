-- Groups that part places: each place is in one of them.
use Rattle.std.proofs.Common.{◌≡◌, ℕ, ◌+◌, ◌^◌, ◌<◌, ◌≤◌, Bool, true, false, cond, ◌&&◌, All, List, [], ◌∷◌, length, map, get_or, refl, sym, ◌∙◌, ap, subst, ⊎_elim, arith}
use Rattle.std.specs.Prelude.{nat_lt, nat_le}
use Rattle.std.specs.List.{sum_by}
use Rattle.std.proofs.lemmas.Bool.{cases_lt}
use Rattle.std.proofs.lemmas.Bool.Decides.{nat_tests}
use Rattle.std.proofs.lemmas.List.Elements.{All-nil, All-cons, All-get_or}
use Rattle.bag_laws.proofs.Laws.{total, total_is, total-each, total-map}
use Rattle.rect_cover.specs.Cells.{Reads}
use Rattle.volume_split.specs.Groups.{Parts}
use Rattle.volume_split.specs.declared.group.Group.{Group}

-- ---- tests

pub left_no : (a b : Bool) → a ≡ false → (a && b) ≡ false
left_no a b is = ap (λ (c : Bool). c && b) is

pub right_no : (a b : Bool) → b ≡ false → (a && b) ≡ false
right_no true b is = is
right_no false b is = refl

pub left_yes : (a b : Bool) → a ≡ true → (a && b) ≡ b
left_yes a b is = ap (λ (c : Bool). c && b) is

pub right_yes : (a b : Bool) → b ≡ true → (a && b) ≡ a
right_yes true b is = is
right_yes false b is = refl

-- whether k stands from low up to high
abbrev pub is_within : ℕ → ℕ → ℕ → Bool
is_within low high k = nat_le low k && nat_lt k high

pub le_yes : (a b : ℕ) → a ≤ b → nat_le a b ≡ true
le_yes a b le = grind (arith, nat_tests)

pub lt_yes : (a b : ℕ) → a < b → nat_lt a b ≡ true
lt_yes a b lt = grind (arith, nat_tests)

pub le_no : (a b : ℕ) → b < a → nat_le a b ≡ false
le_no a b lt = grind (arith, nat_tests)

pub lt_no : (a b : ℕ) → b ≤ a → nat_lt a b ≡ false
lt_no a b le = grind (arith, nat_tests)

pub lt_from : (a b : ℕ) → nat_lt a b ≡ true → a < b
lt_from a b is = grind (arith, nat_tests)

pub ge_from : (a b : ℕ) → nat_lt a b ≡ false → b ≤ a
ge_from a b is = grind (arith, nat_tests)

pub within_yes : (low high k : ℕ) → low ≤ k → k < high → is_within low high k ≡ true
within_yes low high k le lt =
    left_yes (nat_le low k) (nat_lt k high) (le_yes low k le) ∙ lt_yes k high lt

pub within_early : (low high k : ℕ) → k < low → is_within low high k ≡ false
within_early low high k lt = left_no (nat_le low k) (nat_lt k high) (le_no low k lt)

pub within_late : (low high k : ℕ) → high ≤ k → is_within low high k ≡ false
within_late low high k le = right_no (nat_le low k) (nat_lt k high) (lt_no k high le)

pub within_none : (low high k : ℕ) → nat_lt low high ≡ false → is_within low high k ≡ false
within_none low high k empty =
    let le : high ≤ low = ge_from low high empty in
    ⊎_elim (λ (lt : k < low). within_early low high k lt)
    (λ (ge : low ≤ k). within_late low high k (omega arith)) (cases_lt k low)

-- ---- places of groups

-- how often k stands in the group
abbrev pub here : Group → ℕ → ℕ
here group k = cond {A = ℕ} (is_within group.start group.end k) 1 0

pub one_here : (group : Group) (k : ℕ) → group.start ≤ k → k < group.end → here group k ≡ 1
one_here group k le lt = ap (λ (b : Bool). cond {A = ℕ} b 1 0) (within_yes group.start group.end k le lt)

pub early_here : (group : Group) (k : ℕ) → k < group.start → here group k ≡ 0
early_here group k lt = ap (λ (b : Bool). cond {A = ℕ} b 1 0) (within_early group.start group.end k lt)

pub late_here : (group : Group) (k : ℕ) → group.end ≤ k → here group k ≡ 0
late_here group k le = ap (λ (b : Bool). cond {A = ℕ} b 1 0) (within_late group.start group.end k le)

none_before : (start end k : ℕ) (groups : List Group) → Parts start end groups → k < start → total (λ group. here group k) groups ≡ 0
none_before start end k [] parts lt = refl
none_before start end k (group ∷ groups) (at, ordered, rest) lt =
    let first = early_here group k (omega arith) in
    let later = none_before group.end end k groups rest (omega arith) in
    omega arith

pub once : (start end k : ℕ) (groups : List Group) → Parts start end groups → start ≤ k → k < end → total (λ group. here group k) groups ≡ 1
once start end k [] parts le lt = absurd (omega (arith, parts))
once start end k (group ∷ groups) (at, ordered, rest) le lt =
    ⊎_elim
    (λ (low : k < group.end).
    let first = one_here group k (omega arith) low in
    let later = none_before group.end end k groups rest low in
    let all : here group k + total (λ group. here group k) groups ≡ 1 = omega arith in all)
    (λ (high : group.end ≤ k).
    let first = late_here group k high in
    let later = once group.end end k groups rest high lt in
    let all : here group k + total (λ group. here group k) groups ≡ 1 = omega arith in all)
    (cases_lt k group.end)

-- what counts a place once in each group that has it counts it once in all
pub each_once : (f : Reads → ℕ) (read : Group → Reads) (k n : ℕ) (groups : List Group) → Parts 0 n groups → k < n
    → ((group : Group) → f (read group) ≡ here group k) → sum_by f (map read groups) ≡ 1
each_once f read k n groups parts lt same =
    total_is f (map read groups)
    ∙ total-map f read groups
    ∙ total-each (λ group. f (read group)) (λ group. here group k) groups same
    ∙ once 0 n k groups parts (omega arith) lt

parts_le : (start end : ℕ) (groups : List Group) → Parts start end groups → start ≤ end
parts_le start end [] parts = omega (arith, parts)
parts_le start end (group ∷ groups) (at, ordered, rest) =
    let later = parts_le group.end end groups rest in omega arith

-- what holds of each group that ends by the end holds of all
pub all_groups : (P : Group → Type 0) (start end : ℕ) (groups : List Group) → Parts start end groups
    → ((group : Group) → group.start ≤ group.end → group.end ≤ end → P group) → All P groups
all_groups P start end [] parts each = All-nil P
all_groups P start end (group ∷ groups) (at, ordered, rest) each =
    All-cons P group groups (each group ordered (parts_le group.end end groups rest)) (all_groups P group.end end groups rest each)

pub some_groups : (start end : ℕ) (groups : List Group) → Parts start end groups → start < end → 0 < length groups
some_groups start end [] parts lt = absurd (omega (arith, parts))
some_groups start end (group ∷ groups) parts lt = omega arith

-- a group of few places
module _ (n i : ℕ) (d : Group) (items groups : List Group) (are : items ≡ groups) (parts : Parts 0 n groups) (few : n < 2 ^ 32) (lt : i < length items) where
  same_parts : Parts 0 n items
  same_parts = subst (λ (all : List Group). Parts 0 n all) (sym are) parts

  pub small_end : (get_or items i d).end < 2 ^ 32
  small_end = All-get_or (λ (group : Group). group.end < 2 ^ 32) items i d lt (all_groups (λ group. group.end < 2 ^ 32) 0 n items same_parts (λ group ordered within. omega arith))

  pub small_start : (get_or items i d).start < 2 ^ 32
  small_start = All-get_or (λ (group : Group). group.start < 2 ^ 32) items i d lt (all_groups (λ group. group.start < 2 ^ 32) 0 n items same_parts (λ group ordered within. omega arith))
