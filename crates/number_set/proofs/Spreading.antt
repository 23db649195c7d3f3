-- The marks that are set, level by level.
use Rattle.std.proofs.Common.{◌≡◌, ℕ, zero, suc, ◌+◌, ◌-◌, ◌*◌, ◌≤◌, Bool, true, false, ◌||◌, cond, List, [], ◌∷◌, ◌++◌, length, filter, refl, sym, ◌∙◌, ap, arith, append_assoc}
use Rattle.std.specs.Prelude.{if◌then◌else◌}
use Rattle.std.specs.List.{flat_map, range_with_len}
use Rattle.std.proofs.lemmas.Bool.{false≢true}
use Rattle.std.proofs.lemmas.Grind.{flat_map-append}
use Rattle.std.proofs.lemmas.List.{append-nil, get_or_past}
use Rattle.std.proofs.lemmas.List.Elements.{filter-append}
use Rattle.number_set.specs.Levels.{TellsOf, has_below, marked_below}
use Rattle.number_set.specs.Members.{is_marked, members}

range_from : (a n : ℕ) → range_with_len a (n + 1) ≡ range_with_len a n ++ (a + n) ∷ []
range_from a zero = ap (λ (m : ℕ). m ∷ []) (omega arith)
range_from a (suc n) =
    let on : suc n + 1 ≡ suc (n + 1) = omega arith in
    let to : a + 1 + n ≡ a + suc n = omega arith in
    ap (range_with_len a) on
    ∙ ap (λ (rest : List ℕ). a ∷ rest) (range_from (a + 1) n ∙ ap (λ (m : ℕ). range_with_len (a + 1) n ++ m ∷ []) to)

pub range_more : (n : ℕ) → range_with_len 0 (n + 1) ≡ range_with_len 0 n ++ n ∷ []
range_more n = range_from 0 n ∙ ap (λ (m : ℕ). range_with_len 0 n ++ m ∷ []) (omega arith)

-- the place, if its mark is set
abbrev pub place_if : List Bool → ℕ → List ℕ
place_if marks place = if is_marked marks place then place ∷ [] else []

filter_more : (marks : List Bool) (n : ℕ) → filter (is_marked marks) (range_with_len 0 (n + 1)) ≡ filter (is_marked marks) (range_with_len 0 n) ++ place_if marks n
filter_more marks n =
    ap (filter (is_marked marks)) (range_more n) ∙ filter-append (is_marked marks) (range_with_len 0 n) (n ∷ [])
    ∙ ap (λ (l : List ℕ). filter (is_marked marks) (range_with_len 0 n) ++ l) (one (is_marked marks n))
  where
    one : (b : Bool) → cond b (n ∷ []) [] ≡ (if b then n ∷ [] else [])
    one true = refl
    one false = refl

none_left : (a b : Bool) → (a || b) ≡ false → a ≡ false
none_left true b e = e
none_left false b e = refl

none_right : (a b : Bool) → (a || b) ≡ false → b ≡ false
none_right true b e = absurd (false≢true (sym e))
none_right false b e = e

-- what stands below one mark
one_spreads : (below above : List Bool) (n : ℕ) → TellsOf below above → flat_map (marked_below below) (place_if above n) ≡ marked_below below n
one_spreads below above n tells = by (is_marked above n) (tells n)
  where
    by : (b : Bool) → b ≡ has_below below n → flat_map (marked_below below) (if b then n ∷ [] else []) ≡ marked_below below n
    by true e = append-nil (marked_below below n)
    by false e =
        let none = sym e in
        let left = none_left (is_marked below (2 * n)) (is_marked below (2 * n + 1)) none in
        let right = none_right (is_marked below (2 * n)) (is_marked below (2 * n + 1)) none in
        sym (ap (λ (x : Bool). (if x then (2 * n) ∷ [] else []) ++ (if is_marked below (2 * n + 1) then (2 * n + 1) ∷ [] else [])) left
        ∙ ap (λ (x : Bool). if x then (2 * n + 1) ∷ [] else []) right)

all_spread : (below above : List Bool) → TellsOf below above → (n : ℕ)
    → flat_map (marked_below below) (filter (is_marked above) (range_with_len 0 n)) ≡ filter (is_marked below) (range_with_len 0 (2 * n))
all_spread below above tells zero = refl
all_spread below above tells (suc n) =
    let on : suc n ≡ n + 1 = omega arith in
    let up : 2 * suc n ≡ (2 * n + 1) + 1 = omega arith in
    let old = filter (is_marked above) (range_with_len 0 n) in
    let front = filter (is_marked below) (range_with_len 0 (2 * n)) in
    ap (λ (m : ℕ). flat_map (marked_below below) (filter (is_marked above) (range_with_len 0 m))) on
    ∙ ap (flat_map (marked_below below)) (filter_more above n)
    ∙ flat_map-append (marked_below below) old (place_if above n)
    ∙ ap (λ (l : List ℕ). l ++ flat_map (marked_below below) (place_if above n)) (all_spread below above tells n)
    ∙ ap (λ (l : List ℕ). front ++ l) (one_spreads below above n tells)
    ∙ sym (append_assoc front (place_if below (2 * n)) (place_if below (2 * n + 1)))
    ∙ ap (λ (l : List ℕ). l ++ place_if below (2 * n + 1)) (sym (filter_more below (2 * n)))
    ∙ sym (filter_more below (2 * n + 1))
    ∙ ap (λ (m : ℕ). filter (is_marked below) (range_with_len 0 m)) (sym up)

-- past the last mark none is set
past_none : (marks : List Bool) (d m : ℕ) → m ≡ length marks + d → filter (is_marked marks) (range_with_len 0 m) ≡ members marks
past_none marks zero m is = let on : m ≡ length marks = omega (arith, is) in ap (λ (n : ℕ). filter (is_marked marks) (range_with_len 0 n)) on
past_none marks (suc d) m is =
    let n = length marks + d in
    let on : m ≡ n + 1 = omega (arith, is) in
    let none : is_marked marks n ≡ false = get_or_past marks n false (omega arith) in
    ap (λ (k : ℕ). filter (is_marked marks) (range_with_len 0 k)) on ∙ filter_more marks n
    ∙ ap (λ (b : Bool). filter (is_marked marks) (range_with_len 0 n) ++ (if b then n ∷ [] else [])) none
    ∙ append-nil (filter (is_marked marks) (range_with_len 0 n)) ∙ past_none marks d n refl

-- the marks of a level are below those of the next
pub members_spread : (below above : List Bool) → TellsOf below above → length below ≤ 2 * length above → flat_map (marked_below below) (members above) ≡ members below
members_spread below above tells halves =
    let is : 2 * length above ≡ length below + (2 * length above - length below) = omega (arith, halves) in
    all_spread below above tells (length above) ∙ past_none below (2 * length above - length below) (2 * length above) is

-- at the top there is one mark at most
pub members_top : (marks : List Bool) → length marks ≤ 1 → members marks ≡ place_if marks 0
members_top [] short = refl
members_top (mark ∷ []) short = by mark
  where
    by : (b : Bool) → filter (is_marked (b ∷ [])) (0 ∷ []) ≡ (if b then 0 ∷ [] else [])
    by true = refl
    by false = refl
members_top (mark ∷ other ∷ marks) short = absurd (omega (arith, short))
