-- What a level tells of the one below, and which mark is the first.
use Rattle.std.proofs.Common.{◌≡◌, ℕ, zero, suc, ◌+◌, ◌-◌, ◌*◌, ◌/◌, ◌<◌, ◌≤◌, Bool, true, false, ◌||◌, List, length, get_or, All, refl, sym, ◌∙◌, ap, arith, inl, inr, ⊎_elim}
use Rattle.std.specs.Prelude.{◌⊎◌, ◌^◌}
use Rattle.std.specs.List.{range_with_len}
use Rattle.std.proofs.lemmas.Bool.{cases_eq, cases_lt, false≢true}
use Rattle.std.proofs.lemmas.List.{get_or_past}
use Rattle.std.proofs.lemmas.List.Elements.{filter_passes}
use Rattle.number_set.specs.Levels.{AreLevels, TellsOf, has_below, level_at}
use Rattle.number_set.specs.Members.{IsFirst, is_marked, members}

none_left : (a b : Bool) → (a || b) ≡ false → a ≡ false
none_left true b e = e
none_left false b e = refl

none_right : (a b : Bool) → (a || b) ≡ false → b ≡ false
none_right true b e = absurd (false≢true (sym e))
none_right false b e = e

-- where a mark isn't set, neither of the two below is
pub none_at : (below : List Bool) (i : ℕ) → has_below below (i / 2) ≡ false → is_marked below i ≡ false
none_at below i none =
    let q = i / 2 in
    ⊎_elim
    (λ (is : i ≡ 2 * q). ap (is_marked below) is ∙ none_left (is_marked below (2 * q)) (is_marked below (2 * q + 1)) none)
    (λ (ne : i ≡ 2 * q → ⊥).
    let is : i ≡ 2 * q + 1 = omega (arith, ne) in
    ap (is_marked below) is ∙ none_right (is_marked below (2 * q)) (is_marked below (2 * q + 1)) none)
    (cases_eq i (2 * q))

pub none_below : (below above : List Bool) → TellsOf below above → ((i : ℕ) → is_marked above i ≡ false) → (i : ℕ) → is_marked below i ≡ false
none_below below above tells none i = none_at below i (sym (tells (i / 2)) ∙ none (i / 2))

-- no mark is set where the one at the top isn't
pub none_marked : (levels : List (List Bool)) → AreLevels levels → is_marked (level_at levels (length levels - 1)) 0 ≡ false
    → (d j : ℕ) → j + d + 1 ≡ length levels → (i : ℕ) → is_marked (level_at levels j) i ≡ false
none_marked levels are none zero j is i = ⊎_elim
    (λ (lt : 0 < i).
    let on : suc j ≡ length levels = omega (arith, is) in
    let short = are.top j on in
    get_or_past (level_at levels j) i false (omega (arith, lt, short)))
    (λ (le : i ≤ 0).
    let same : i ≡ 0 = omega (arith, le) in
    let on : j ≡ length levels - 1 = omega (arith, is) in
    ap (is_marked (level_at levels j)) same ∙ ap (λ (k : ℕ). is_marked (level_at levels k) 0) on ∙ none)
    (cases_lt 0 i)
none_marked levels are none (suc d) j is i =
    none_below (level_at levels j) (level_at levels (suc j)) (are.tell j (omega (arith, is)))
    (none_marked levels are none d (suc j) (omega (arith, is))) i

-- the first mark at the top
pub first_top : (levels : List (List Bool)) → AreLevels levels → is_marked (level_at levels (length levels - 1)) 0 ≡ true → IsFirst (level_at levels (length levels - 1)) 0
first_top levels are is = record { is = is; before = λ k lt. absurd (omega (arith, lt)) }

-- the first of the two marks below the first
pub first_below : (below above : List Bool) (at next : ℕ) → TellsOf below above → IsFirst above at → is_marked below next ≡ true
    → (next ≡ 2 * at) ⊎ ((next ≡ 2 * at + 1) × (is_marked below (2 * at) ≡ false)) → IsFirst below next
first_below below above at next tells first is cases = record { is = is; before = λ k lt. by k lt cases }
  where
    by : (k : ℕ) → k < next → (next ≡ 2 * at) ⊎ ((next ≡ 2 * at + 1) × (is_marked below (2 * at) ≡ false)) → is_marked below k ≡ false
    by k lt (inl left) =
        let less : k / 2 < at = omega (arith, lt, left) in
        none_at below k (sym (tells (k / 2)) ∙ first.before (k / 2) less)
    by k lt (inr (right, none)) = ⊎_elim
        (λ (same : k ≡ 2 * at). ap (is_marked below) same ∙ none)
        (λ (ne : k ≡ 2 * at → ⊥).
        let less : k / 2 < at = omega (arith, lt, right, ne) in
        none_at below k (sym (tells (k / 2)) ∙ first.before (k / 2) less))
        (cases_eq k (2 * at))

-- a mark that is set stands in its list
pub marked_within : (marks : List Bool) (i : ℕ) → is_marked marks i ≡ true → i < length marks
marked_within marks i is = ⊎_elim
    (λ (lt : i < length marks). lt)
    (λ (le : length marks ≤ i). absurd (false≢true (sym (get_or_past marks i false le) ∙ is)))
    (cases_lt i (length marks))

-- where one of the two marks is set, their places are small numbers
pub below_small : (below : List Bool) (place : ℕ) → length below < 2 ^ 63 → has_below below place ≡ true → 2 * place + 1 < 2 ^ 64
below_small below place few has = by (is_marked below (2 * place)) (is_marked below (2 * place + 1)) refl refl has
  where
    by : (a b : Bool) → is_marked below (2 * place) ≡ a → is_marked below (2 * place + 1) ≡ b → (a || b) ≡ true → 2 * place + 1 < 2 ^ 64
    by true b left right e = let lt = marked_within below (2 * place) left in omega (arith, lt, few)
    by false true left right e = let lt = marked_within below (2 * place + 1) right in omega (arith, lt, few)
    by false false left right e = absurd (false≢true e)

-- the marks of a level are over such places
pub members_small : (below above : List Bool) → TellsOf below above → length below < 2 ^ 63 → All (λ place. 2 * place + 1 < 2 ^ 64) (members above)
members_small below above tells few i d lt =
    let place = get_or (members above) i d in
    let is = filter_passes (is_marked above) (range_with_len 0 (length above)) i d lt in
    below_small below place few (sym (tells place) ∙ is)
