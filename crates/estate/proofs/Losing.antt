-- What the loss of parts does to a shelf in memory, and what a put does.
use Rattle.std.proofs.Common.{◌≡◌, ◌≢◌, ◌⊎◌, inl, inr, ⊎_elim, ℕ, zero, suc, ◌+◌, ◌<◌, ◌≤◌, Bool, true, false, cond, not, ◌&&◌, nat_le, All, Contains, List, [], ◌∷◌, ◌++◌, length, get_or, map, Option, Some, None, refl, sym, ◌∙◌, ap, subst, arith, length-append}
use Rattle.std.specs.List.{filter}
use Rattle.std.proofs.lemmas.List.{append-nil, map-append, length-map, get_or-map}
use Rattle.std.proofs.lemmas.List.Elements.{filter-append, Contains-append_cases, Contains-append_left, Contains-append_right, Contains-get_or, All-cons, All-head, All-tail, All-push}
use Rattle.std.proofs.lemmas.Bool.Decides.{nat_tests}
use Rattle.estate.specs.declared.part_name.PartName.{PartName}
use Rattle.estate.specs.declared.shelved.Shelved.{Shelved}
use Rattle.estate.specs.Holding.{StoredPart}
use Rattle.estate.specs.Shelf.{is_lost_by, stored, ever_at, held_at, held_in, HasHappened, Loses, LosesFrom}
use Rattle.estate.proofs.Keeping.{ShelfStep}
use Rattle.estate.proofs.Stepping.{ever_still, held_still}

held_split : (u : ℕ) (xs ys : List Shelved) → held_at u (xs ++ ys) ≡ held_at u xs ++ held_at u ys
held_split u xs ys = ap (λ (l : List Shelved). map (λ p. p.name) l) (filter-append _ xs ys) ∙ map-append _ _ _

ever_split : (u : ℕ) (xs ys : List Shelved) → ever_at u (xs ++ ys) ≡ ever_at u xs ++ ever_at u ys
ever_split u xs ys = ap (λ (l : List Shelved). map stored l) (filter-append _ xs ys) ∙ map-append _ _ _

held_in_split : (xs ys : List Shelved) → held_in (xs ++ ys) ≡ held_in xs ++ held_in ys
held_in_split xs ys = ap (λ (l : List Shelved). map (λ p. p.name) l) (filter-append _ xs ys) ∙ map-append _ _ _

abbrev shelved : ℕ → PartName → List (List (List ℕ)) → Option ℕ → Shelved
shelved since name edges lost = record { since = since; name = name; edges = edges; lost = lost }

abbrev IsBy : ℕ → Shelved → Type 0
IsBy now part = (part.since ≤ now) × ((s : ℕ) → part.lost ≡ Some s → s ≤ now)

module _ (since : ℕ) (name : PartName) (edges : List (List (List ℕ))) (t : ℕ) (front back : List Shelved) where
  abbrev held_part : Shelved
  held_part = shelved since name edges None

  abbrev lost_part : Shelved
  lost_part = shelved since name edges (Some t)

  names_by : (a b : Bool) (xs : List Shelved) → a ≡ b → map (λ p. p.name) (cond a (lost_part ∷ xs) xs) ≡ map (λ p. p.name) (cond b (held_part ∷ xs) xs)
  names_by true true xs is = refl
  names_by false false xs is = refl
  names_by true false xs is = absurd (cc)
  names_by false true xs is = absurd (cc)

  one_earlier : (u : ℕ) → u < t → held_at u (front ++ lost_part ∷ back) ≡ held_at u (front ++ held_part ∷ back)
  one_earlier u before =
      let test : (nat_le since u && not (nat_le t u)) ≡ (nat_le since u && not false) = grind (arith, nat_tests) in
      held_split u front (lost_part ∷ back)
      ∙ ap (λ (l : List PartName). held_at u front ++ l) (names_by (nat_le since u && not (nat_le t u)) (nat_le since u && not false) (filter (λ p. nat_le p.since u && not (is_lost_by u p.lost)) back) test)
      ∙ sym (held_split u front (held_part ∷ back))

  one_ever : (u : ℕ) → ever_at u (front ++ lost_part ∷ back) ≡ ever_at u (front ++ held_part ∷ back)
  one_ever u =
      ever_split u front (lost_part ∷ back)
      ∙ ap (λ (l : List StoredPart). ever_at u front ++ l) (same (nat_le since u) (filter (λ p. nat_le p.since u) back))
      ∙ sym (ever_split u front (held_part ∷ back))
    where
      same : (b : Bool) (xs : List Shelved) → map stored (cond b (lost_part ∷ xs) xs) ≡ map stored (cond b (held_part ∷ xs) xs)
      same true xs = refl
      same false xs = refl

  one_fewer : (u : ℕ) (q : PartName) → Contains (held_at u (front ++ lost_part ∷ back)) q → Contains (held_at u (front ++ held_part ∷ back)) q
  one_fewer u q has =
      subst (λ (l : List PartName). Contains l q) (sym (held_split u front (held_part ∷ back)))
      (⊎_elim
      (λ first. Contains-append_left (held_at u front) (held_at u (held_part ∷ back)) q first)
      (λ last. Contains-append_right (held_at u front) (held_at u (held_part ∷ back)) q (still (nat_le since u) (nat_le t u) (filter (λ p. nat_le p.since u && not (is_lost_by u p.lost)) back) last))
      (Contains-append_cases (held_at u front) (held_at u (lost_part ∷ back)) q (subst (λ (l : List PartName). Contains l q) (held_split u front (lost_part ∷ back)) has)))
    where
      still : (a b : Bool) (xs : List Shelved) → Contains (map (λ p. p.name) (cond (a && not b) (lost_part ∷ xs) xs)) q → Contains (map (λ p. p.name) (cond (a && not false) (held_part ∷ xs) xs)) q
      still true true xs inside = (suc inside.0, omega (arith, inside.1), inside.2)
      still true false xs inside = inside
      still false b xs inside = inside

  one_happened : (now : ℕ) → t ≤ now → HasHappened now (front ++ held_part ∷ back) → HasHappened now (front ++ lost_part ∷ back)
  one_happened now le happened = middle front happened
    where
      lost_when : IsBy now held_part → IsBy now lost_part
      lost_when was = (was.0, λ s is. let same : t ≡ s = cc in omega arith)

      middle : (xs : List Shelved) → All (IsBy now) (xs ++ held_part ∷ back) → All (IsBy now) (xs ++ lost_part ∷ back)
      middle [] all = All-cons (IsBy now) lost_part back (lost_when (All-head (IsBy now) held_part back all)) (All-tail (IsBy now) held_part back all)
      middle (x ∷ xs) all = All-cons (IsBy now) x (xs ++ lost_part ∷ back) (All-head (IsBy now) x (xs ++ held_part ∷ back) all) (middle xs (All-tail (IsBy now) x (xs ++ held_part ∷ back) all))

  one_names : map (λ p. p.name) (front ++ lost_part ∷ back) ≡ map (λ p. p.name) (front ++ held_part ∷ back)
  one_names = map-append (λ (p : Shelved). p.name) front (lost_part ∷ back) ∙ sym (map-append (λ (p : Shelved). p.name) front (held_part ∷ back))

  one_count : length (held_in (front ++ lost_part ∷ back)) + 1 ≡ length (held_in (front ++ held_part ∷ back))
  one_count =
      let before = ap (λ (l : List PartName). length l) (held_in_split front (held_part ∷ back)) in
      let after = ap (λ (l : List PartName). length l) (held_in_split front (lost_part ∷ back)) in
      omega (arith, before, after, length-append (held_in front) (held_in (held_part ∷ back)), length-append (held_in front) (held_in (lost_part ∷ back)))

  one_fewer_in : (q : PartName) → Contains (held_in (front ++ lost_part ∷ back)) q → Contains (held_in (front ++ held_part ∷ back)) q
  one_fewer_in q has =
      subst (λ (l : List PartName). Contains l q) (sym (held_in_split front (held_part ∷ back)))
      (⊎_elim
      (λ first. Contains-append_left (held_in front) (held_in (held_part ∷ back)) q first)
      (λ last. Contains-append_right (held_in front) (held_in (held_part ∷ back)) q (suc last.0, omega (arith, last.1), last.2))
      (Contains-append_cases (held_in front) (held_in (lost_part ∷ back)) q (subst (λ (l : List PartName). Contains l q) (held_in_split front (lost_part ∷ back)) has)))

  one_loses : LosesFrom t (front ++ held_part ∷ back) (front ++ lost_part ∷ back)
  one_loses = record {
    earlier = one_earlier;
    ever = one_ever;
    fewer = one_fewer;
    happened = one_happened;
    names = one_names;
    count = omega (arith, one_count);
  }

module _ (name : PartName) (since : ℕ) (old new : List Shelved) (loses : Loses name since old new) where
  was_held_part : old ≡ loses.front ++ shelved loses.part.since loses.part.name loses.part.edges None ∷ loses.back
  was_held_part = loses.was ∙ ap (λ (o : Option ℕ). loses.front ++ shelved loses.part.since loses.part.name loses.part.edges o ∷ loses.back) loses.held

  -- a part is lost
  pub loses_from : LosesFrom since old new
  loses_from =
      subst (λ (l : List Shelved). LosesFrom since l new) (sym was_held_part)
      (subst (λ (l : List Shelved). LosesFrom since (loses.front ++ shelved loses.part.since loses.part.name loses.part.edges None ∷ loses.back) l) (sym loses.is)
      (one_loses loses.part.since loses.part.name loses.part.edges since loses.front loses.back))

  pub loses_count : length (held_in new) + 1 ≡ length (held_in old)
  loses_count =
      let before = ap (λ (l : List Shelved). length (held_in l)) was_held_part in
      let after = ap (λ (l : List Shelved). length (held_in l)) loses.is in
      omega (arith, before, after, one_count loses.part.since loses.part.name loses.part.edges since loses.front loses.back)

  -- what is held was held
  pub loses_fewer : (q : PartName) → Contains (held_in new) q → Contains (held_in old) q
  loses_fewer q has =
      subst (λ (l : List Shelved). Contains (held_in l) q) (sym was_held_part)
      (one_fewer_in loses.part.since loses.part.name loses.part.edges since loses.front loses.back q (subst (λ (l : List Shelved). Contains (held_in l) q) loses.is has))

-- nothing is lost
pub loses_none : (since : ℕ) (old new : List Shelved) → new ≡ old → LosesFrom since old new
loses_none since old new is =
    subst (λ (l : List Shelved). LosesFrom since old l) (sym is) (record {
      earlier = λ u before. refl;
      ever = λ u. refl;
      fewer = λ u name has. has;
      happened = λ now le happened. happened;
      names = refl;
      count = omega arith;
    })

pub loses_then : (since : ℕ) (a b c : List Shelved) → LosesFrom since a b → LosesFrom since b c → LosesFrom since a c
loses_then since a b c first second = record {
  earlier = λ u before. second.earlier u before ∙ first.earlier u before;
  ever = λ u. second.ever u ∙ first.ever u;
  fewer = λ u name has. first.fewer u name (second.fewer u name has);
  happened = λ now le happened. second.happened now le (first.happened now le happened);
  names = second.names ∙ first.names;
  count = omega (arith, first.count, second.count);
}

-- a put, after which the part is held

abbrev put_part : ℕ → StoredPart → Shelved
put_part since part = record { since = since; name = part.name; edges = part.edges; lost = None }

module _ (part : StoredPart) (now since : ℕ) (old mid : List Shelved) (later : now < since) (happened : HasHappened now old) (loses : LosesFrom (now + 1) old mid) where
  ever_put : (u : ℕ) → ever_at u (mid ++ put_part since part ∷ []) ≡ ever_at u old ++ map stored (cond (nat_le since u) (put_part since part ∷ []) [])
  ever_put u = ever_split u mid (put_part since part ∷ []) ∙ ap (λ (l : List StoredPart). l ++ map stored (cond (nat_le since u) (put_part since part ∷ []) [])) (loses.ever u)

  held_put : (u : ℕ) → held_at u (mid ++ put_part since part ∷ []) ≡ held_at u mid ++ map (λ p. p.name) (cond (nat_le since u && not false) (put_part since part ∷ []) [])
  held_put u = held_split u mid (put_part since part ∷ [])

  puts : ShelfStep (Some part) now old (mid ++ put_part since part ∷ [])
  puts = record {
    before = λ u within.
        let not_yet : nat_le since u ≡ false = grind (arith, nat_tests) in
        ever_put u ∙ ap (λ (b : Bool). ever_at u old ++ map stored (cond b (put_part since part ∷ []) [])) not_yet ∙ append-nil (ever_at u old);
    before_held = λ u within.
        let not_yet : nat_le since u ≡ false = grind (arith, nat_tests) in
        held_put u ∙ ap (λ (b : Bool). held_at u mid ++ map (λ p. p.name) (cond (b && not false) (put_part since part ∷ []) [])) not_yet
        ∙ append-nil (held_at u mid) ∙ loses.earlier u (omega arith);
    ever = λ u le.
        gains (nat_le since u) (ever_at now old) (ever_at u (mid ++ put_part since part ∷ []))
        (ever_put u ∙ ap (λ (l : List StoredPart). l ++ map stored (cond (nat_le since u) (put_part since part ∷ []) [])) (ever_still now u old le happened));
    held = λ u log log' commits commits' name le has.
        ⊎_elim
        (λ before. inl (subst (λ (l : List PartName). Contains l name) (held_still now u old le happened) (loses.fewer u name before)))
        (λ last. inr (newest (nat_le since u) name (ever_at now old) (ever_at u (mid ++ put_part since part ∷ [])) (ever_put u ∙ ap (λ (l : List StoredPart). l ++ map stored (cond (nat_le since u) (put_part since part ∷ []) [])) (ever_still now u old le happened)) last))
        (Contains-append_cases (held_at u mid) (map (λ p. p.name) (cond (nat_le since u && not false) (put_part since part ∷ []) [])) name (subst (λ (l : List PartName). Contains l name) (held_put u) has));
  }
    where
      gains : (b : Bool) (xs ys : List StoredPart) → ys ≡ xs ++ map stored (cond b (put_part since part ∷ []) []) → (ys ≡ xs) ⊎ (ys ≡ xs ++ part ∷ [])
      gains true xs ys is = inr is
      gains false xs ys is = inl (is ∙ append-nil xs)

      newest : (b : Bool) (name : PartName) (xs ys : List StoredPart) → ys ≡ xs ++ map stored (cond b (put_part since part ∷ []) []) → Contains (map (λ p. p.name) (cond (b && not false) (put_part since part ∷ []) [])) name
          → (name ≡ part.name) × (ys ≡ xs ++ part ∷ [])
      newest true name xs ys is (zero, lt, named) = (sym named, is)
      newest true name xs ys is (suc k, lt, named) = absurd (omega arith)
      newest false name xs ys is has = absurd (omega (arith, has.1))

pub shelf_puts : (part : StoredPart) (now since : ℕ) (old mid new : List Shelved) → now < since → HasHappened now old → LosesFrom (now + 1) old mid
    → new ≡ mid ++ (record { since = since; name = part.name; edges = part.edges; lost = None }) ∷ [] → ShelfStep (Some part) now old new
shelf_puts part now since old mid new later happened loses is =
    subst (λ (l : List Shelved). ShelfStep (Some part) now old l) (sym is) (puts part now since old mid later happened loses)

-- what is held after a put

pub held_add : (parts new : List Shelved) (since : ℕ) (name : PartName) (edges : List (List (List ℕ))) → new ≡ parts ++ (record { since = since; name = name; edges = edges; lost = None }) ∷ [] → held_in new ≡ held_in parts ++ name ∷ []
held_add parts new since name edges is = ap held_in is ∙ held_in_split parts (shelved since name edges None ∷ [])

pub happened_add : (now : ℕ) (parts new : List Shelved) (since : ℕ) (name : PartName) (edges : List (List (List ℕ))) → new ≡ parts ++ (record { since = since; name = name; edges = edges; lost = None }) ∷ []
    → since ≤ now → HasHappened now parts → HasHappened now new
happened_add now parts new since name edges is le happened =
    subst (λ (l : List Shelved). HasHappened now l) (sym is)
    (All-push (λ (part : Shelved). (part.since ≤ now) × ((s : ℕ) → part.lost ≡ Some s → s ≤ now)) parts (shelved since name edges None) happened (le, λ s wrong. absurd (cc)))

-- a name that no part that was put has is no part's
pub fresh_by : (old new : List Shelved) (now : ℕ) (name : PartName) → ever_at now old ≡ map stored old → map (λ p. p.name) new ≡ map (λ p. p.name) old
    → ((part : StoredPart) → Contains (ever_at now old) part → part.name ≢ name) → All (λ other. other.name ≢ name) new
fresh_by old new now name all names fresh k d lt same =
    let size : length new ≡ length old = sym (length-map new (λ p. p.name)) ∙ ap (λ (l : List PartName). length l) names ∙ length-map old (λ p. p.name) in
    let within : k < length old = omega arith in
    let this = get_or old k d in
    let first = get_or-map (λ (p : Shelved). p.name) new k d name lt in
    let second = get_or-map (λ (p : Shelved). p.name) old k d name within in
    let named : this.name ≡ name = sym second ∙ ap (λ (l : List PartName). get_or l k name) (sym names) ∙ first ∙ same in
    let found = get_or-map stored old k d (stored d) within in
    let has = Contains-get_or (map stored old) k (stored d) (omega (arith, length-map old stored)) in
    fresh (stored this) (subst (λ (l : List StoredPart). Contains l (stored this)) (sym all) (subst (λ (x : StoredPart). Contains (map stored old) x) found has)) named
