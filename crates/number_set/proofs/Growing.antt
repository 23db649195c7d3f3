-- Levels of which each mark is the same, from the bottom up.
use Rattle.std.proofs.Common.{◌≡◌, ℕ, zero, suc, ◌+◌, ◌-◌, ◌*◌, ◌<◌, ◌≤◌, Bool, true, false, ◌||◌, List, [], ◌∷◌, ◌++◌, length, refl, sym, ◌∙◌, ap, subst, arith, ⊎_elim}
use Rattle.std.specs.Prelude.{◌^◌, replicate}
use Rattle.std.proofs.lemmas.Bool.{cases_eq, cases_lt}
use Rattle.std.proofs.lemmas.List.{length-replicate, get_or-replicate, length_push, get_or_push, get_or_past, get_or_append_left}
use Rattle.number_set.specs.Levels.{AreLevels, TellsOf, level_at}
use Rattle.number_set.specs.Members.{is_marked}

past : (n i : ℕ) (mark : Bool) → n ≤ i → is_marked (replicate n mark) i ≡ false
past n i mark le = let long = length-replicate n mark in get_or_past (replicate n mark) i false (omega (arith, long, le))

none_of : (n i : ℕ) (mark : Bool) → mark ≡ false → is_marked (replicate n mark) i ≡ false
none_of n i mark none = ⊎_elim
    (λ (lt : i < n). get_or-replicate n i mark false lt ∙ none)
    (λ (le : n ≤ i). past n i mark le)
    (cases_lt i n)

or_same : (a b : Bool) → (a ≡ false → b ≡ false) → a ≡ (a || b)
or_same true b same = refl
or_same false b same = sym (same refl)

-- half as many of the same mark tell of them
uniform : (n next : ℕ) (mark : Bool) → n ≤ 2 * next → 2 * next ≤ n + 1 → TellsOf (replicate n mark) (replicate next mark)
uniform n next mark half few i = ⊎_elim
    (λ (lt : i < next).
    let above = get_or-replicate next i mark false lt in
    let left = get_or-replicate n (2 * i) mark false (omega (arith, lt, few)) in
    above ∙ or_same mark (is_marked (replicate n mark) (2 * i + 1)) (none_of n (2 * i + 1) mark)
    ∙ ap (λ (b : Bool). b || is_marked (replicate n mark) (2 * i + 1)) (sym left))
    (λ (le : next ≤ i).
    let above = past next i mark le in
    let left = past n (2 * i) mark (omega (arith, le, half)) in
    let right = past n (2 * i + 1) mark (omega (arith, le, half)) in
    above ∙ sym (ap (λ (b : Bool). b || is_marked (replicate n mark) (2 * i + 1)) left ∙ right))
    (cases_lt i next)

pub record IsGrowing (levels : List (List Bool)) (count : ℕ) (mark : Bool) (size : ℕ) : Type 0 where
  pub some : 0 < length levels
  pub first : level_at levels 0 ≡ replicate count mark
  pub tell : (j : ℕ) → suc j < length levels → TellsOf (level_at levels j) (level_at levels (suc j))
  pub halves : (j : ℕ) → suc j < length levels → length (level_at levels j) ≤ 2 * length (level_at levels (suc j))
  pub last : (j : ℕ) → suc j ≡ length levels → level_at levels j ≡ replicate size mark
  pub few : (j : ℕ) → length (level_at levels j) < 2 ^ 63

pub growing_first : (count : ℕ) (mark : Bool) → count < 2 ^ 63 → IsGrowing (replicate count mark ∷ []) count mark count
growing_first count mark few = record {
  some = omega arith;
  first = refl;
  tell = λ j lt. absurd (omega (arith, lt));
  halves = λ j lt. absurd (omega (arith, lt));
  last = λ j is. let on : j ≡ 0 = omega (arith, is) in ap (level_at (replicate count mark ∷ [])) on;
  few = λ j. len j;
}
  where
    len : (j : ℕ) → length (level_at (replicate count mark ∷ []) j) < 2 ^ 63
    len zero = let long = length-replicate count mark in omega (arith, long, few)
    len (suc j) = let past = ap length (get_or_past (replicate count mark ∷ []) (suc j) [] (omega arith)) in omega (arith, past)

pub growing_more : (levels : List (List Bool)) (count : ℕ) (mark : Bool) (size next : ℕ) → IsGrowing levels count mark size → size ≤ 2 * next → 2 * next ≤ size + 1
    → IsGrowing (levels ++ replicate next mark ∷ []) count mark next
growing_more levels count mark size next h half few =
    let all = levels ++ replicate next mark ∷ [] in
    let long = length_push levels (replicate next mark) in
    let old : (j : ℕ) → j < length levels → level_at all j ≡ level_at levels j = λ j lt. get_or_append_left levels (replicate next mark ∷ []) [] j lt in
    let new : (j : ℕ) → length levels ≡ j → level_at all j ≡ replicate next mark = λ j is. get_or_push levels (replicate next mark) [] j is in
    record {
      some = omega (arith, long);
      first = old 0 h.some ∙ h.first;
      tell = λ j lt. ⊎_elim
          (λ (less : suc j < length levels).
          subst (λ (l : List Bool). TellsOf l (level_at all (suc j))) (sym (old j (omega (arith, less))))
          (subst (λ (l : List Bool). TellsOf (level_at levels j) l) (sym (old (suc j) less)) (h.tell j less)))
          (λ (le : length levels ≤ suc j).
          let on : suc j ≡ length levels = omega (arith, lt, le, long) in
          subst (λ (l : List Bool). TellsOf l (level_at all (suc j))) (sym (old j (omega (arith, on)) ∙ h.last j on))
          (subst (λ (l : List Bool). TellsOf (replicate size mark) l) (sym (new (suc j) (sym on))) (uniform size next mark half few)))
          (cases_lt (suc j) (length levels));
      halves = λ j lt. ⊎_elim
          (λ (less : suc j < length levels).
          let a = ap length (old j (omega (arith, less))) in
          let b = ap length (old (suc j) less) in
          let c = h.halves j less in
          omega (arith, a, b, c))
          (λ (le : length levels ≤ suc j).
          let on : suc j ≡ length levels = omega (arith, lt, le, long) in
          let a = ap length (old j (omega (arith, on)) ∙ h.last j on) ∙ length-replicate size mark in
          let b = ap length (new (suc j) (sym on)) ∙ length-replicate next mark in
          omega (arith, a, b, half))
          (cases_lt (suc j) (length levels));
      last = λ j is. let on : length levels ≡ j = omega (arith, is, long) in new j on;
      few = λ j. ⊎_elim
          (λ (lt : j < length levels). let a = ap length (old j lt) in let b = h.few j in omega (arith, a, b))
          (λ (le : length levels ≤ j). ⊎_elim
          (λ (is : length levels ≡ j).
          let last : suc (length levels - 1) ≡ length levels = let s = h.some in omega (arith, s) in
          let a = ap length (new j is) ∙ length-replicate next mark in
          let b = ap length (h.last (length levels - 1) last) ∙ length-replicate size mark in
          let c = h.few (length levels - 1) in
          omega (arith, a, b, c, few))
          (λ (ne : length levels ≡ j → ⊥). let past = ap length (get_or_past all j [] (omega (arith, le, ne, long))) in omega (arith, past))
          (cases_eq (length levels) j))
          (cases_lt j (length levels));
    }

pub growing_last : (levels : List (List Bool)) (count : ℕ) (mark : Bool) (size : ℕ) → IsGrowing levels count mark size → size ≤ 1 → AreLevels levels
growing_last levels count mark size h small = record {
  some = h.some;
  tell = h.tell;
  halves = h.halves;
  top = λ j is. let e = ap length (h.last j is) ∙ length-replicate size mark in omega (arith, e, small);
  few = h.few;
}
