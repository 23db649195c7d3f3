-- The parts of a shelf in memory, their places, and what is lost.
use Rattle.std.proofs.Common.{◌≡◌, ◌≢◌, ◌⊎◌, ◌↔◌, ⊎_elim, ℕ, zero, suc, ◌+◌, ◌<◌, ◌≤◌, Bool, true, false, cond, not, ◌&&◌, nat_le, All, AllPairs, Contains, List, [], ◌∷◌, ◌++◌, length, take, drop, get_or, set, map, Option, Some, None, IsSome, refl, sym, ◌∙◌, ap, subst, arith, length-append}
use Rattle.std.specs.List.{filter}
use Rattle.std.proofs.lemmas.List.{length-set, get_or-set_same, get_or-set_other, get_or-take, set_at, drop_more, take-append-drop, length-take-le}
use Rattle.std.proofs.lemmas.List.Elements.{All-map, All-filter}
use Rattle.std.proofs.lemmas.List.Quantifiers.{all_pairs_push}
use Rattle.std.proofs.lemmas.Bool.{cases_lt, cases_order}
use Rattle.std.proofs.lemmas.Bool.Decides.{nat_tests}
use Rattle.estate.specs.declared.part_name.PartName.{PartName}
use Rattle.estate.specs.declared.shelved.Shelved.{Shelved}
use Rattle.estate.specs.declared.places.Places.{Places}
use Rattle.estate.specs.Parts.{is_same_name, edges_of}
use Rattle.estate.specs.Places.{place_of}
use Rattle.estate.specs.Shelf.{is_lost, stored, held_in, recalled, IsPlaced, Loses}
use Rattle.estate.specs.PastLaws.{contains_cases, contains_later}

-- names

pub names_equal : (a b : PartName) → is_same_name a b ≡ true → a ≡ b
names_equal a b is =
    let vertex : a.vertex ≡ b.vertex = grind (arith, nat_tests) in
    let subtask : a.subtask ≡ b.subtask = grind (arith, nat_tests) in
    let epoch : a.epoch ≡ b.epoch = grind (arith, nat_tests) in
    let attempt : a.attempt ≡ b.attempt = grind (arith, nat_tests) in
    λ i. record { vertex = vertex i; subtask = subtask i; epoch = epoch i; attempt = attempt i }

pub name_itself : (a : PartName) → is_same_name a a ≡ true
name_itself a = grind (arith, nat_tests)

pub names_apart : (a b : PartName) → a ≢ b → is_same_name a b ≡ false
names_apart a b apart = elim (is_same_name a b) as (λ t. (t ≡ true → a ≡ b) → t ≡ false) [ true ↦ λ same. absurd (apart (same refl)) | false ↦ λ same. refl ] (names_equal a b)

-- the part at an index

get_left : (xs ys : List Shelved) (i : ℕ) (d : Shelved) → i < length xs → get_or (xs ++ ys) i d ≡ get_or xs i d
get_left [] ys i d lt = absurd (omega arith)
get_left (x ∷ xs) ys zero d lt = refl
get_left (x ∷ xs) ys (suc i) d lt = get_left xs ys i d (omega arith)

get_last : (xs : List Shelved) (x d : Shelved) (i : ℕ) → i ≡ length xs → get_or (xs ++ x ∷ []) i d ≡ x
get_last [] x d zero is = refl
get_last [] x d (suc i) is = absurd (omega arith)
get_last (y ∷ xs) x d zero is = absurd (omega arith)
get_last (y ∷ xs) x d (suc i) is = get_last xs x d i (omega arith)

not_lost : (lost : Option ℕ) → not (is_lost lost) ≡ true → lost ≡ None
not_lost None is = refl
not_lost (Some t) is = absurd (cc)

-- what is held stands somewhere

head_held : (p : Shelved) (xs : List Shelved) (name : PartName) (b : Bool) → Contains (map (λ q. q.name) xs) name → Contains (map (λ q. q.name) (cond b (p ∷ xs) xs)) name
head_held p xs name true has = contains_later p.name (map (λ q. q.name) xs) name has
head_held p xs name false has = has

pub held_from : (parts : List Shelved) (i : ℕ) (d : Shelved) → i < length parts → (get_or parts i d).lost ≡ None → Contains (held_in parts) (get_or parts i d).name
held_from [] i d lt none = absurd (omega arith)
held_from (p ∷ parts) zero d lt none =
    let rest = filter (λ part. not (is_lost part.lost)) parts in
    subst (λ (l : Option ℕ). Contains (map (λ q. q.name) (cond (not (is_lost l)) (p ∷ rest) rest)) p.name) (sym none) (zero, omega arith, refl)
held_from (p ∷ parts) (suc i) d lt none = head_held p (filter (λ part. not (is_lost part.lost)) parts) (get_or parts i d).name (not (is_lost p.lost)) (held_from parts i d (omega arith) none)

-- a part that is held
record StandsHeld (parts : List Shelved) (name : PartName) : Type 0 where
  place : ℕ
  within : place < length parts
  named : (d : Shelved) → (get_or parts place d).name ≡ name
  held : (d : Shelved) → (get_or parts place d).lost ≡ None

stands_later : (p : Shelved) (parts : List Shelved) (name : PartName) → StandsHeld parts name → StandsHeld (p ∷ parts) name
stands_later p parts name stands = record { place = suc stands.place; within = omega (arith, stands.within); named = stands.named; held = stands.held }

stands_head : (p : Shelved) (parts xs : List Shelved) (name : PartName) (lost : Option ℕ) → p.lost ≡ lost → (Contains (map (λ q. q.name) xs) name → StandsHeld parts name)
    → Contains (map (λ q. q.name) (cond (not (is_lost lost)) (p ∷ xs) xs)) name → StandsHeld (p ∷ parts) name
stands_head p parts xs name None is rest has =
    ⊎_elim
    (λ (here : p.name ≡ name). record { place = zero; within = omega arith; named = λ d. here; held = λ d. is })
    (λ later. stands_later p parts name (rest later))
    (contains_cases p.name (map (λ q. q.name) xs) name has)
stands_head p parts xs name (Some t) is rest has = stands_later p parts name (rest has)

held_stands : (parts : List Shelved) (name : PartName) → Contains (held_in parts) name → StandsHeld parts name
held_stands [] name has = absurd (omega (arith, has.1))
held_stands (p ∷ parts) name has = stands_head p parts (filter (λ part. not (is_lost part.lost)) parts) name p.lost refl (held_stands parts name) has

pub some_shelved : PartName → Shelved
some_shelved name = record { since = 0; name = name; edges = []; lost = None }

pub held_placed : (places : Places) (parts : List Shelved) (name : PartName) → IsPlaced places parts → Contains (held_in parts) name → (i : ℕ) × (place_of places name ≡ Some i)
held_placed places parts name placed has =
    let stands = held_stands parts name has in
    let d = some_shelved name in
    (stands.place, subst (λ (n : PartName). place_of places n ≡ Some stands.place) (stands.named d) (placed.place stands.place d stands.within (stands.held d)))

pub placed_held : (places : Places) (parts : List Shelved) (name : PartName) (i : ℕ) → IsPlaced places parts → place_of places name ≡ Some i → Contains (held_in parts) name
placed_held places parts name i placed is =
    let d = some_shelved name in
    let found = placed.found name i d is in
    subst (λ (n : PartName). Contains (held_in parts) n) found.1 (held_from parts i d found.0 found.2)

pub unplaced : (places : Places) (parts : List Shelved) (name : PartName) → IsPlaced places parts → place_of places name ≡ None → ¬ (Contains (held_in parts) name)
unplaced places parts name placed none has = let at = held_placed places parts name placed has in let wrong : Some at.0 ≡ None = sym at.1 ∙ none in absurd (cc)

some_is : (o : Option ℕ) → IsSome o → (i : ℕ) × (o ≡ Some i)
some_is None is = absurd (cc)
some_is (Some i) is = (i, refl)

pub placed_iff : (places : Places) (parts : List Shelved) (name : PartName) → IsPlaced places parts → IsSome (place_of places name) ↔ Contains (held_in parts) name
placed_iff places parts name placed = (
  λ is. let at = some_is (place_of places name) is in placed_held places parts name at.0 placed at.1,
  λ has. let at = held_placed places parts name placed has in subst (λ (o : Option ℕ). IsSome o) (sym at.1) refl,
)

-- the same places
pub placed_same : (places places' : Places) (parts parts' : List Shelved) → IsPlaced places parts → parts' ≡ parts → ((other : PartName) → place_of places' other ≡ place_of places other) → IsPlaced places' parts'
placed_same places places' parts parts' placed is same =
    subst (λ (l : List Shelved). IsPlaced places' l) (sym is) (record {
      found = λ name i d at. placed.found name i d (sym (same name) ∙ at);
      place = λ i d lt none. same (get_or parts i d).name ∙ placed.place i d lt none;
    })

-- one part more

pub placed_add : (places places' : Places) (parts parts' : List Shelved) (part : Shelved) (n : ℕ) → IsPlaced places parts → n ≡ length parts → parts' ≡ parts ++ part ∷ []
    → ((other : PartName) → place_of places' other ≡ cond (not (is_lost part.lost) && is_same_name part.name other) (Some n) (place_of places other))
    → All (λ other. other.name ≢ part.name) parts → IsPlaced places' parts'
placed_add places places' parts parts' part n placed size is after fresh =
    subst (λ (l : List Shelved). IsPlaced places' l) (sym is) (record { found = found; place = place })
  where
    found : (name : PartName) (i : ℕ) (d : Shelved) → place_of places' name ≡ Some i → (i < length (parts ++ part ∷ [])) × ((get_or (parts ++ part ∷ []) i d).name ≡ name) × ((get_or (parts ++ part ∷ []) i d).lost ≡ None)
    found name i d at =
        elim (not (is_lost part.lost)) as (λ a. (not (is_lost part.lost) ≡ a) → (place_of places' name ≡ cond (a && is_same_name part.name name) (Some n) (place_of places name)) → (i < length (parts ++ part ∷ [])) × ((get_or (parts ++ part ∷ []) i d).name ≡ name) × ((get_or (parts ++ part ∷ []) i d).lost ≡ None)) [
          | true ↦ λ held was. elim (is_same_name part.name name) as (λ b. (is_same_name part.name name ≡ b) → (place_of places' name ≡ cond b (Some n) (place_of places name)) → (i < length (parts ++ part ∷ [])) × ((get_or (parts ++ part ∷ []) i d).name ≡ name) × ((get_or (parts ++ part ∷ []) i d).lost ≡ None)) [
            | true ↦ λ same here. newest name i d held same (sym at ∙ here)
            | false ↦ λ apart here. older name i d (sym here ∙ at)
          ] refl was
          | false ↦ λ held was. older name i d (sym was ∙ at)
        ] refl (after name)
      where
        newest : (name : PartName) (i : ℕ) (d : Shelved) → not (is_lost part.lost) ≡ true → is_same_name part.name name ≡ true → Some i ≡ Some n → (i < length (parts ++ part ∷ [])) × ((get_or (parts ++ part ∷ []) i d).name ≡ name) × ((get_or (parts ++ part ∷ []) i d).lost ≡ None)
        newest name i d held same here =
            let at : i ≡ n = cc in
            let last = get_last parts part d i (at ∙ size) in
            (omega (arith, length-append parts (part ∷ [])), ap (λ (p : Shelved). p.name) last ∙ names_equal part.name name same, ap (λ (p : Shelved). p.lost) last ∙ not_lost part.lost held)

        older : (name : PartName) (i : ℕ) (d : Shelved) → place_of places name ≡ Some i → (i < length (parts ++ part ∷ [])) × ((get_or (parts ++ part ∷ []) i d).name ≡ name) × ((get_or (parts ++ part ∷ []) i d).lost ≡ None)
        older name i d here =
            let was = placed.found name i d here in
            let same = get_left parts (part ∷ []) i d was.0 in
            (omega (arith, was.0, length-append parts (part ∷ [])), ap (λ (p : Shelved). p.name) same ∙ was.1, ap (λ (p : Shelved). p.lost) same ∙ was.2)

    place : (i : ℕ) (d : Shelved) → i < length (parts ++ part ∷ []) → (get_or (parts ++ part ∷ []) i d).lost ≡ None → place_of places' (get_or (parts ++ part ∷ []) i d).name ≡ Some i
    place i d lt none =
        ⊎_elim
        (λ (before : i < length parts).
        let same = get_left parts (part ∷ []) i d before in
        let held : (get_or parts i d).lost ≡ None = sym (ap (λ (p : Shelved). p.lost) same) ∙ none in
        let was = placed.place i d before held in
        let apart : is_same_name part.name (get_or parts i d).name ≡ false = names_apart part.name (get_or parts i d).name (λ e. fresh i d before (sym e)) in
        ap (λ (p : Shelved). place_of places' p.name) same ∙ after (get_or parts i d).name ∙ kept (not (is_lost part.lost)) (is_same_name part.name (get_or parts i d).name) (Some n) (place_of places (get_or parts i d).name) apart ∙ was)
        (λ (last : length parts ≤ i).
        let at : i ≡ length parts = omega (arith, length-append parts (part ∷ [])) in
        let same = get_last parts part d i at in
        let held : part.lost ≡ None = sym (ap (λ (p : Shelved). p.lost) same) ∙ none in
        ap (λ (p : Shelved). place_of places' p.name) same ∙ after part.name ∙ here part.lost (is_same_name part.name part.name) held (name_itself part.name) ∙ ap (λ (k : ℕ). Some k) (size ∙ sym at))
        (cases_lt i (length parts))
      where
        kept : (a b : Bool) (x y : Option ℕ) → b ≡ false → cond (a && b) x y ≡ y
        kept true true x y is = absurd (cc)
        kept true false x y is = refl
        kept false b x y is = refl

        here : (lost : Option ℕ) (b : Bool) → lost ≡ None → b ≡ true → cond (not (is_lost lost) && b) (Some n) (place_of places part.name) ≡ Some n
        here None true none same = refl
        here None false none same = absurd (cc)
        here (Some t) b none same = absurd (cc)

pub distinct_add : (parts parts' : List Shelved) (part : Shelved) → parts' ≡ parts ++ part ∷ [] → AllPairs (λ p q. p.name ≢ q.name) parts → All (λ other. other.name ≢ part.name) parts → AllPairs (λ p q. p.name ≢ q.name) parts'
distinct_add parts parts' part is distinct fresh =
    subst (λ (l : List Shelved). AllPairs (λ p q. p.name ≢ q.name) l) (sym is) (all_pairs_push (λ (p : Shelved) (q : Shelved). p.name ≢ q.name) parts part distinct fresh)

-- one part is lost

abbrev lost_by : Shelved → ℕ → Shelved
lost_by part since = record { since = part.since; name = part.name; edges = part.edges; lost = Some since }

pub placed_lose : (places places' : Places) (parts parts' : List Shelved) (name : PartName) (i : ℕ) (part : Shelved) → IsPlaced places parts → place_of places name ≡ Some i → parts' ≡ set parts i part
    → (t : ℕ) → part.lost ≡ Some t
    → ((other : PartName) → place_of places' other ≡ cond (is_same_name name other) None (place_of places other))
    → IsPlaced places' parts'
placed_lose places places' parts parts' name i part placed at is t lost after =
    subst (λ (l : List Shelved). IsPlaced places' l) (sym is) (record { found = found; place = place })
  where
    found : (q : PartName) (j : ℕ) (d : Shelved) → place_of places' q ≡ Some j → (j < length (set parts i part)) × ((get_or (set parts i part) j d).name ≡ q) × ((get_or (set parts i part) j d).lost ≡ None)
    found q j d here =
        elim (is_same_name name q) as (λ b. (is_same_name name q ≡ b) → (place_of places' q ≡ cond b None (place_of places q)) → (j < length (set parts i part)) × ((get_or (set parts i part) j d).name ≡ q) × ((get_or (set parts i part) j d).lost ≡ None)) [
          | true ↦ λ same none. let wrong : Some j ≡ None = sym here ∙ none in absurd (cc)
          | false ↦ λ apart was.
              let old = placed.found q j d (sym was ∙ here) in
              let this = placed.found name i d at in
              let other : j ≢ i = λ e. (let named : name ≡ q = sym this.1 ∙ ap (λ (k : ℕ). (get_or parts k d).name) (sym e) ∙ old.1 in let same : is_same_name name q ≡ true = subst (λ (n : PartName). is_same_name name n ≡ true) named (name_itself name) in absurd (cc)) in
              let same = get_or-set_other parts i j part d other in
              (omega (arith, old.0, length-set parts i part), ap (λ (p : Shelved). p.name) same ∙ old.1, ap (λ (p : Shelved). p.lost) same ∙ old.2)
        ] refl (after q)

    place : (j : ℕ) (d : Shelved) → j < length (set parts i part) → (get_or (set parts i part) j d).lost ≡ None → place_of places' (get_or (set parts i part) j d).name ≡ Some j
    place j d lt none =
        let size = length-set parts i part in
        let within : j < length parts = omega arith in
        let apart : j ≢ i = λ e. (
        let here : get_or (set parts i part) j d ≡ part = ap (λ (k : ℕ). get_or (set parts i part) k d) e ∙ get_or-set_same parts i part d (omega (arith, e)) in
        let wrong : Some t ≡ None = sym lost ∙ sym (ap (λ (p : Shelved). p.lost) here) ∙ none in absurd (cc)) in
        let same = get_or-set_other parts i j part d apart in
        let held : (get_or parts j d).lost ≡ None = sym (ap (λ (p : Shelved). p.lost) same) ∙ none in
        let was = placed.place j d within held in
        let named : name ≢ (get_or parts j d).name = λ e. (let both : Some i ≡ Some j = sym at ∙ ap (λ (n : PartName). place_of places n) e ∙ was in let k : j ≡ i = cc in apart k) in
        ap (λ (p : Shelved). place_of places' p.name) same ∙ after (get_or parts j d).name
        ∙ ap (λ (b : Bool). cond b None (place_of places (get_or parts j d).name)) (names_apart name (get_or parts j d).name named) ∙ was

name_set : (parts : List Shelved) (i j : ℕ) (part d : Shelved) → j < length parts → part.name ≡ (get_or parts i d).name → (get_or (set parts i part) j d).name ≡ (get_or parts j d).name
name_set parts i j part d lt named =
    ⊎_elim
    (λ (e : j ≡ i).
    ap (λ (k : ℕ). (get_or (set parts i part) k d).name) e ∙ ap (λ (p : Shelved). p.name) (get_or-set_same parts i part d (omega (arith, e))) ∙ named ∙ ap (λ (k : ℕ). (get_or parts k d).name) (sym e))
    (λ (apart : (j < i) ⊎ (i < j)). ap (λ (p : Shelved). p.name) (get_or-set_other parts i j part d (⊎_elim (λ (lt : j < i). omega arith) (λ (gt : i < j). omega arith) apart)))
    (cases_order j i)

pub distinct_lose : (parts parts' : List Shelved) (i : ℕ) (part : Shelved) → i < length parts → parts' ≡ set parts i part → ((d : Shelved) → part.name ≡ (get_or parts i d).name)
    → AllPairs (λ p q. p.name ≢ q.name) parts → AllPairs (λ p q. p.name ≢ q.name) parts'
distinct_lose parts parts' i part within is named distinct =
    subst (λ (l : List Shelved). AllPairs (λ p q. p.name ≢ q.name) l) (sym is)
    (λ j k d below inside same.
    let size = length-set parts i part in
    distinct j k d below (omega arith) (sym (name_set parts i j part d (omega arith) (named d)) ∙ same ∙ name_set parts i k part d (omega arith) (named d)))

pub loses_set : (parts parts' : List Shelved) (i : ℕ) (name : PartName) (since : ℕ) (old : Shelved) → i < length parts → old ≡ get_or parts i old → parts' ≡ set parts i (record { since = old.since; name = old.name; edges = old.edges; lost = Some since })
    → old.name ≡ name → old.lost ≡ None → Loses name since parts parts'
loses_set parts parts' i name since old within at is named held =
    let split : parts ≡ take i parts ++ old ∷ drop (i + 1) parts =
    sym (take-append-drop i parts) ∙ ap (λ (l : List Shelved). take i parts ++ l) (drop_more parts i old within) ∙ ap (λ (p : Shelved). take i parts ++ p ∷ drop (i + 1) parts) (sym at) in
    let now = lost_by old since in
    let done : set parts i now ≡ take i parts ++ now ∷ drop (i + 1) parts =
    ap (λ (l : List Shelved). set l i now) split ∙ set_at (take i parts) old (drop (i + 1) parts) now i (length-take-le i parts (omega arith)) in
    record { front = take i parts; part = old; back = drop (i + 1) parts; was = split; is = is ∙ done; held = held; named = named }

-- the cells of a part

pub edges_found : (parts : List Shelved) (i : ℕ) (d : Shelved) → AllPairs (λ p q. p.name ≢ q.name) parts → i < length parts → edges_of (get_or parts i d).name (map stored parts) ≡ (get_or parts i d).edges
edges_found [] i d distinct lt = absurd (omega arith)
edges_found (p ∷ parts) zero d distinct lt = ap (λ (b : Bool). cond b p.edges (edges_of p.name (map stored parts))) (name_itself p.name)
edges_found (p ∷ parts) (suc i) d distinct lt =
    let apart : p.name ≢ (get_or parts i d).name = distinct zero (suc i) d (omega arith) lt in
    ap (λ (b : Bool). cond b p.edges (edges_of (get_or parts i d).name (map stored parts))) (names_apart p.name (get_or parts i d).name apart)
    ∙ edges_found parts i d (λ j k e below within. distinct (suc j) (suc k) e (omega arith) (omega arith)) (omega arith)

-- the parts before one have other names, also as they were
pub fresh_recalled : (u : ℕ) (parts made : List Shelved) (i : ℕ) (part : Shelved) → AllPairs (λ p q. p.name ≢ q.name) parts → i < length parts → part ≡ get_or parts i part
    → made ≡ map (recalled u) (filter (λ p. nat_le p.since u) (take i parts)) → All (λ other. other.name ≢ part.name) made
fresh_recalled u parts made i part distinct within at is =
    subst (λ (l : List Shelved). All (λ other. other.name ≢ part.name) l) (sym is)
    (All-map (λ other. other.name ≢ part.name) (recalled u) (filter (λ p. nat_le p.since u) (take i parts))
    (All-filter (λ p. nat_le p.since u) (λ other. other.name ≢ part.name) (take i parts) before))
  where
    before : All (λ other. other.name ≢ part.name) (take i parts)
    before k d lt same =
        let size : length (take i parts) ≡ i = length-take-le i parts (omega arith) in
        let here = get_or-take i parts k d (omega arith) in
        let last : get_or parts i d ≡ part = get_same parts i d part within ∙ sym at in
        distinct k i d (omega arith) within (sym (ap (λ (p : Shelved). p.name) here) ∙ same ∙ sym (ap (λ (p : Shelved). p.name) last))
      where
        get_same : (xs : List Shelved) (i : ℕ) (d e : Shelved) → i < length xs → get_or xs i d ≡ get_or xs i e
        get_same [] i d e lt = absurd (omega arith)
        get_same (x ∷ xs) zero d e lt = refl
        get_same (x ∷ xs) (suc i) d e lt = get_same xs i d e (omega arith)
