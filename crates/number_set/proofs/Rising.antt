-- A mark changes, and then what each level above tells of it.
use Rattle.std.proofs.Common.{◌≡◌, ℕ, suc, ◌+◌, ◌-◌, ◌*◌, ◌/◌, ◌<◌, ◌≤◌, Bool, false, ◌||◌, List, [], length, set, sym, ◌∙◌, ap, subst, arith, ⊎_elim}
use Rattle.std.specs.Prelude.{◌^◌}
use Rattle.std.proofs.lemmas.Bool.{cases_eq}
use Rattle.std.proofs.lemmas.List.{length-set, get_or-set_same, get_or-set_other}
use Rattle.number_set.specs.Levels.{AreLevels, TellsOf, has_below, level_at}
use Rattle.number_set.specs.Members.{is_marked}

-- the levels below this one tell of the change; at the one before it the mark at this place may differ
pub record IsUnderway (old now : List (List Bool)) (place : ℕ) (mark : Bool) (above at : ℕ) : Type 0 where
  pub len : length now ≡ length old
  pub some : 0 < above
  pub lens : (j : ℕ) → length (level_at now j) ≡ length (level_at old j)
  pub first : level_at now 0 ≡ set (level_at old 0) place mark
  pub tell : (j : ℕ) → suc j < above → TellsOf (level_at now j) (level_at now (suc j))
  pub rest : (j : ℕ) → above ≤ j → level_at now j ≡ level_at old j
  pub within : at < length (level_at now (above - 1))
  pub others : (i : ℕ) → (i ≡ at → ⊥) → is_marked (level_at now (above - 1)) i ≡ is_marked (level_at old (above - 1)) i

pub underway_first : (old : List (List Bool)) (place : ℕ) (mark : Bool) → AreLevels old → place < length (level_at old 0) → IsUnderway old (set old 0 (set (level_at old 0) place mark)) place mark 1 place
underway_first old place mark are inside =
    let now = set old 0 (set (level_at old 0) place mark) in
    let here : level_at now 0 ≡ set (level_at old 0) place mark = get_or-set_same old 0 (set (level_at old 0) place mark) [] are.some in
    let long : length (level_at now 0) ≡ length (level_at old 0) = ap length here ∙ length-set (level_at old 0) place mark in
    record {
      len = length-set old 0 (set (level_at old 0) place mark);
      some = omega arith;
      lens = λ j. ⊎_elim
          (λ (is : j ≡ 0). ap (λ (k : ℕ). length (level_at now k)) is ∙ long ∙ ap (λ (k : ℕ). length (level_at old k)) (sym is))
          (λ (ne : j ≡ 0 → ⊥). ap length (get_or-set_other old 0 j (set (level_at old 0) place mark) [] ne))
          (cases_eq j 0);
      first = here;
      tell = λ j lt. absurd (omega (arith, lt));
      rest = λ j le. get_or-set_other old 0 j (set (level_at old 0) place mark) [] (λ is. omega (arith, is, le));
      within = omega (arith, long, inside);
      others = λ i ne. ap (λ (l : List Bool). is_marked l i) here ∙ get_or-set_other (level_at old 0) place i mark false ne;
    }

module _ (old now : List (List Bool)) (place : ℕ) (mark : Bool) (above at : ℕ) (are : AreLevels old) (h : IsUnderway old now place mark above at) (inside : above < length now) where
  abbrev below : List Bool
  below = level_at now (above - 1)

  abbrev level : List Bool
  level = level_at now above

  abbrev renewed : List Bool
  renewed = set level (at / 2) (has_below below (at / 2))

  abbrev next : List (List Bool)
  next = set now above renewed

  above_is : suc (above - 1) ≡ above
  above_is = let s = h.some in omega (arith, s)

  under : suc (above - 1) < length old
  under = let l = h.len in let s = h.some in omega (arith, l, s, inside)

  pub half_within : at / 2 < length level
  half_within =
      let halves = are.halves (above - 1) under in
      let a = h.lens (above - 1) in
      let b = h.lens above in
      let c = ap (λ (j : ℕ). length (level_at old j)) above_is in
      let lt = h.within in
      omega (arith, halves, a, b, c, lt)

  at_above : level_at next above ≡ renewed
  at_above = get_or-set_same now above renewed [] inside

  at_other : (j : ℕ) → (j ≡ above → ⊥) → level_at next j ≡ level_at now j
  at_other j ne = get_or-set_other now above j renewed [] ne

  -- the two marks below another mark are as before
  same_below : (i : ℕ) → (i ≡ at / 2 → ⊥) → has_below below i ≡ has_below (level_at old (above - 1)) i
  same_below i ne =
      let left = h.others (2 * i) (λ is. ne (omega (arith, is))) in
      let right = h.others (2 * i + 1) (λ is. ne (omega (arith, is))) in
      ap (λ (b : Bool). b || is_marked below (2 * i + 1)) left ∙ ap (λ (b : Bool). is_marked (level_at old (above - 1)) (2 * i) || b) right

  tells_now : TellsOf below renewed
  tells_now i = ⊎_elim
      (λ (is : i ≡ at / 2).
      ap (is_marked renewed) is ∙ get_or-set_same level (at / 2) (has_below below (at / 2)) false half_within ∙ ap (has_below below) (sym is))
      (λ (ne : i ≡ at / 2 → ⊥).
      get_or-set_other level (at / 2) i (has_below below (at / 2)) false ne
      ∙ ap (λ (l : List Bool). is_marked l i) (h.rest above (omega arith))
      ∙ ap (λ (j : ℕ). is_marked (level_at old j) i) (sym above_is)
      ∙ are.tell (above - 1) under i ∙ sym (same_below i ne))
      (cases_eq i (at / 2))

  pub underway_more : IsUnderway old next place mark (above + 1) (at / 2)
  underway_more =
      let back : (above + 1) - 1 ≡ above = omega arith in
      let s = h.some in
      record {
        len = length-set now above renewed ∙ h.len;
        some = omega arith;
        lens = λ j. ⊎_elim
            (λ (is : j ≡ above).
            ap (λ (k : ℕ). length (level_at next k)) is ∙ ap length at_above ∙ length-set level (at / 2) (has_below below (at / 2)) ∙ ap (λ (k : ℕ). length (level_at now k)) (sym is) ∙ h.lens j)
            (λ (ne : j ≡ above → ⊥). ap length (at_other j ne) ∙ h.lens j)
            (cases_eq j above);
        first = at_other 0 (λ is. omega (arith, is, s)) ∙ h.first;
        tell = λ j lt. ⊎_elim
            (λ (is : suc j ≡ above).
            let j_is : j ≡ above - 1 = omega (arith, is) in
            let there : level_at next j ≡ below = at_other j (λ same. omega (arith, same, is)) ∙ ap (level_at now) j_is in
            let here : level_at next (suc j) ≡ renewed = ap (level_at next) is ∙ at_above in
            subst (λ (l : List Bool). TellsOf l (level_at next (suc j))) (sym there) (subst (λ (l : List Bool). TellsOf below l) (sym here) tells_now))
            (λ (ne : suc j ≡ above → ⊥).
            let less : suc j < above = omega (arith, lt, ne) in
            subst (λ (l : List Bool). TellsOf l (level_at next (suc j))) (sym (at_other j (λ same. omega (arith, same, less))))
            (subst (λ (l : List Bool). TellsOf (level_at now j) l) (sym (at_other (suc j) ne)) (h.tell j less)))
            (cases_eq (suc j) above);
        rest = λ j le. at_other j (λ same. omega (arith, same, le)) ∙ h.rest j (omega (arith, le));
        within = subst (λ (j : ℕ). at / 2 < length (level_at next j)) (sym back) (subst (λ (l : List Bool). at / 2 < length l) (sym at_above) (subst (λ (n : ℕ). at / 2 < n) (sym (length-set level (at / 2) (has_below below (at / 2)))) half_within));
        others = λ i ne.
            ap (λ (j : ℕ). is_marked (level_at next j) i) back ∙ ap (λ (l : List Bool). is_marked l i) at_above
            ∙ get_or-set_other level (at / 2) i (has_below below (at / 2)) false ne
            ∙ ap (λ (l : List Bool). is_marked l i) (h.rest above (omega arith)) ∙ ap (λ (j : ℕ). is_marked (level_at old j) i) (sym back);
      }

-- all levels tell of it
pub underway_last : (old now : List (List Bool)) (place : ℕ) (mark : Bool) (above at : ℕ) → AreLevels old → IsUnderway old now place mark above at → length now ≤ above → AreLevels now
underway_last old now place mark above at are h le = record {
  some = let l = h.len in let s = are.some in omega (arith, l, s);
  tell = λ j lt. h.tell j (omega (arith, lt, le));
  halves = λ j lt.
      let a = h.lens j in
      let b = h.lens (suc j) in
      let l = h.len in
      let c = are.halves j (omega (arith, lt, l)) in
      omega (arith, a, b, c);
  top = λ j is.
      let a = h.lens j in
      let c = are.top j (is ∙ h.len) in
      omega (arith, a, c);
  few = λ j.
      let a = h.lens j in
      let c = are.few j in
      omega (arith, a, c);
}

-- the places of the two marks are small numbers
pub underway_small : (old now : List (List Bool)) (place : ℕ) (mark : Bool) (above at : ℕ) → AreLevels old → IsUnderway old now place mark above at → 2 * (at / 2) + 1 < 2 ^ 64
underway_small old now place mark above at are h =
    let within = h.within in
    let len = h.lens (above - 1) in
    let few = are.few (above - 1) in
    omega (arith, within, len, few)
