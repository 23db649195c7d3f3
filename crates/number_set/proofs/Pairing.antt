-- Which groups have pairs.
use Rattle.std.proofs.Common.{◌≡◌, ℕ, ◌<◌, ◌≤◌, Bool, true, false, List, [], ◌∷◌, ◌++◌, length, map, filter, get_or, set, All, refl, sym, ◌∙◌, ap, arith, cond, ⊎_elim}
use Rattle.std.specs.Prelude.{replicate, Option, Some, None, IfNone, IfSome}
use Rattle.std.specs.Option.{is_some}
use Rattle.std.specs.List.{flat_map, range_with_len}
use Rattle.std.proofs.lemmas.Bool.{cases_eq, cases_lt, false≢true}
use Rattle.std.proofs.lemmas.List.{length-replicate, length-set, get_or-replicate, get_or-set_same, get_or-set_other, get_or_past}
use Rattle.std.proofs.lemmas.List.Elements.{filter_passes}
use Rattle.number_set.specs.Members.{IsEmpty, IsFirst, is_marked, members}
use Rattle.number_set.specs.Pairs.{IsFirstPair, TellsGroups, group_at, pair_of, pairs, pairs_at}
use Rattle.number_set.proofs.Below.{marked_within}

-- what isn't true is false
is_false : (b : Bool) → (b ≡ true → ⊥) → b ≡ false
is_false true never = absurd (never refl)
is_false false never = refl

-- a group that isn't marked has no pair
pub empty_at : (groups : List (List Bool)) (filled : List Bool) → TellsGroups groups filled → (g : ℕ) → is_marked filled g ≡ false → IsEmpty (group_at groups g)
empty_at groups filled tells g none n = is_false (is_marked (group_at groups g) n) (λ is. false≢true (sym none ∙ tells.some g n is))

-- no group has a number
pub tells_none : (count : ℕ) → TellsGroups (replicate count []) (replicate count false)
tells_none count = record {
  len = length-replicate count false ∙ sym (length-replicate count []);
  some = λ g n is. absurd (false≢true (sym (none_at g n) ∙ is));
  none = λ g empty. unmarked g;
}
  where
    unmarked : (g : ℕ) → is_marked (replicate count false) g ≡ false
    unmarked g = ⊎_elim
        (λ (lt : g < count). get_or-replicate count g false false lt)
        (λ (le : count ≤ g). let long = length-replicate count false in get_or_past (replicate count false) g false (omega (arith, long, le)))
        (cases_lt g count)

    nothing : (g : ℕ) → group_at (replicate count []) g ≡ []
    nothing g = ⊎_elim
        (λ (lt : g < count). get_or-replicate count g [] [] lt)
        (λ (le : count ≤ g). let long : length {A = List Bool} (replicate count []) ≡ count = length-replicate count [] in get_or_past (replicate count []) g [] (omega (arith, long, le)))
        (cases_lt g count)

    none_at : (g n : ℕ) → is_marked (group_at (replicate count []) g) n ≡ false
    none_at g n = ap (λ (l : List Bool). is_marked l n) (nothing g) ∙ get_or_past [] n false (omega arith)

-- a group gets other numbers
pub tells_set : (groups : List (List Bool)) (filled marks : List Bool) (g : ℕ) (mark : Bool) → TellsGroups groups filled → g < length groups
    → ((n : ℕ) → is_marked marks n ≡ true → mark ≡ true) → (IsEmpty marks → mark ≡ false) → TellsGroups (set groups g marks) (set filled g mark)
tells_set groups filled marks g mark tells inside some none =
    let within : g < length filled = let len = tells.len in omega (arith, len, inside) in
    let here : group_at (set groups g marks) g ≡ marks = get_or-set_same groups g marks [] inside in
    let mark_here : is_marked (set filled g mark) g ≡ mark = get_or-set_same filled g mark false within in
    let there : (h : ℕ) → (h ≡ g → ⊥) → group_at (set groups g marks) h ≡ group_at groups h = λ h ne. get_or-set_other groups g h marks [] ne in
    let mark_there : (h : ℕ) → (h ≡ g → ⊥) → is_marked (set filled g mark) h ≡ is_marked filled h = λ h ne. get_or-set_other filled g h mark false ne in
    record {
      len = length-set filled g mark ∙ tells.len ∙ sym (length-set groups g marks);
      some = λ h n is. ⊎_elim
          (λ (same : h ≡ g).
          let mine : is_marked marks n ≡ true = ap (λ (l : List Bool). is_marked l n) (sym here) ∙ ap (λ (k : ℕ). is_marked (group_at (set groups g marks) k) n) (sym same) ∙ is in
          ap (is_marked (set filled g mark)) same ∙ mark_here ∙ some n mine)
          (λ (ne : h ≡ g → ⊥). mark_there h ne ∙ tells.some h n (ap (λ (l : List Bool). is_marked l n) (sym (there h ne)) ∙ is))
          (cases_eq h g);
      none = λ h empty. ⊎_elim
          (λ (same : h ≡ g).
          let mine : IsEmpty marks = λ n. ap (λ (l : List Bool). is_marked l n) (sym here) ∙ ap (λ (k : ℕ). is_marked (group_at (set groups g marks) k) n) (sym same) ∙ empty n in
          ap (is_marked (set filled g mark)) same ∙ mark_here ∙ none mine)
          (λ (ne : h ≡ g → ⊥). mark_there h ne ∙ tells.none h (λ n. ap (λ (l : List Bool). is_marked l n) (sym (there h ne)) ∙ empty n))
          (cases_eq h g);
    }

-- a group gets all numbers below a bound
pub tells_full : (groups : List (List Bool)) (filled : List Bool) (g bound : ℕ) (mark : Bool) → TellsGroups groups filled → g < length groups
    → (0 < bound → mark ≡ true) → (bound ≡ 0 → mark ≡ false) → TellsGroups (set groups g (replicate bound true)) (set filled g mark)
tells_full groups filled g bound mark tells inside some none = tells_set groups filled (replicate bound true) g mark tells inside
    (λ n is. some (let lt = marked_within (replicate bound true) n is in let long = length-replicate bound true in omega (arith, lt, long)))
    (λ empty. ⊎_elim
    (λ (lt : 0 < bound). absurd (false≢true (sym (empty 0) ∙ get_or-replicate bound 0 true false lt)))
    (λ (le : bound ≤ 0). none (omega (arith, le)))
    (cases_lt 0 bound))

-- ---- the first pair

pub first_pair : (groups : List (List Bool)) (filled : List Bool) (g n : ℕ) → TellsGroups groups filled → IsFirst filled g → IsFirst (group_at groups g) n → IsFirstPair groups (pair_of g n)
first_pair groups filled g n tells first inner = record {
  first = inner;
  before = λ h lt. empty_at groups filled tells h (first.before h lt);
}

-- a marked group has a number
pub not_empty : (groups : List (List Bool)) (filled : List Bool) (g : ℕ) → TellsGroups groups filled → is_marked filled g ≡ true → IsEmpty (group_at groups g) → ⊥
not_empty groups filled g tells is empty = false≢true (sym (tells.none g empty) ∙ is)

-- a group that has a number has a first one
pub some_first : (marks : List Bool) (first : Option ℕ) → IfNone first (IsEmpty marks) → (n : ℕ) → is_marked marks n ≡ true → is_some first ≡ true
some_first marks (Some k) none n is = refl
some_first marks None none n is = absurd (false≢true (sym (none n) ∙ is))

-- and one that has none has no first one
pub none_first : (marks : List Bool) (first : Option ℕ) → IfSome first (IsFirst marks) → IsEmpty marks → is_some first ≡ false
none_first marks (Some k) some empty = absurd (false≢true (sym (empty k) ∙ some.is))
none_first marks None some empty = refl

-- ---- all pairs

no_members : (p : ℕ → Bool) (xs : List ℕ) → ((n : ℕ) → p n ≡ false) → filter p xs ≡ []
no_members p [] none = refl
no_members p (x ∷ xs) none = ap (λ (b : Bool). cond b (x ∷ filter p xs) (filter p xs)) (none x) ∙ no_members p xs none

-- elements that give nothing may be left out
pub nothing_left : {X Y : Type 0} (f : X → List Y) (p : X → Bool) (xs : List X) → ((x : X) → p x ≡ false → f x ≡ []) → flat_map f (filter p xs) ≡ flat_map f xs
nothing_left f p [] none = refl
nothing_left {Y = Y} f p (x ∷ xs) none = by (nothing_left f p xs none) (p x) refl
  where
    by : flat_map f (filter p xs) ≡ flat_map f xs → (b : Bool) → p x ≡ b → flat_map f (cond b (x ∷ filter p xs) (filter p xs)) ≡ f x ++ flat_map f xs
    by rest true is = ap (λ (l : List Y). f x ++ l) rest
    by rest false is = rest ∙ ap (λ (l : List Y). l ++ flat_map f xs) (sym (none x is))

pub all_pairs : (groups : List (List Bool)) (filled : List Bool) → TellsGroups groups filled → flat_map (pairs_at groups) (members filled) ≡ pairs groups
all_pairs groups filled tells =
    nothing_left (pairs_at groups) (is_marked filled) (range_with_len 0 (length filled))
    (λ g is. ap (map (pair_of g)) (no_members (is_marked (group_at groups g)) (range_with_len 0 (length (group_at groups g))) (empty_at groups filled tells g is)))
    ∙ ap (λ (n : ℕ). flat_map (pairs_at groups) (range_with_len 0 n)) tells.len

-- marked groups are groups
pub members_within : (groups : List (List Bool)) (filled : List Bool) → TellsGroups groups filled → All (λ g. g < length groups) (members filled)
members_within groups filled tells i d lt =
    let is = filter_passes (is_marked filled) (range_with_len 0 (length filled)) i d lt in
    let within = marked_within filled (get_or (members filled) i d) is in
    let len = tells.len in
    omega (arith, within, len)
