-- What a search finds, number by number.
use Rattle.std.proofs.Common.{◌≡◌, ℕ, ◌+◌, ◌<◌, ◌≤◌, Bool, List, [], ◌∷◌, ◌++◌, length, take, get_or, refl, sym, ◌∙◌, subst, arith, true, false, inl, inr, nat_eq, if◌then◌else◌}
use Rattle.std.specs.Prelude.{◌⊎◌, ◌↔◌, ◌≢◌, All, AllPairs, Contains, Decides, HoldsAt}
use Rattle.std.specs.List.{IsDistinct, list_any}
use Rattle.std.proofs.lemmas.Cmp.{nat_eq_equiv}
use Rattle.std.proofs.lemmas.List.{length_push, get_or_append_left, take_more}
use Rattle.std.proofs.lemmas.List.Elements.{All-contains, Contains-append_left, Contains-get_or, Contains-push, Contains-push_cases, at_from_Contains}
use Rattle.std.proofs.lemmas.Map.Made.{AllPairs-from_IsDistinct, IsDistinct-from_AllPairs}
use Rattle.std.proofs.lemmas.Map.Steps.{length-le_from_distinct_below}
use Rattle.std.proofs.lemmas.Map.Views.{Contains-from_any, list_any-from_Contains}
use Rattle.indexmap.specs.IndexSet.{insert_key}
use Rattle.rerun_set.specs.Found.{Finds}
use Rattle.rerun_set.proofs.Items.{in_nothing, same_number, same_yes}

-- ---- numbers of a set

same_test : (m n : ℕ) → Decides (nat_eq m n) (m ≡ n)
same_test m n = (same_number m n, λ is. subst (λ (k : ℕ). nat_eq m k ≡ true) is (same_yes m))

pub any_contains : (found : List ℕ) (number : ℕ) → (list_any (nat_eq number) found ≡ true) ↔ Contains found number
any_contains found number = (Contains-from_any same_number number found, list_any-from_Contains nat_eq_equiv number found)

pub once_from_distinct : (found : List ℕ) → IsDistinct nat_eq found → AllPairs ◌≢◌ found
once_from_distinct found h = AllPairs-from_IsDistinct same_test found h

-- numbers below a bound, each once, are no more than the bound
pub few : (found : List ℕ) (count : ℕ) → AllPairs ◌≢◌ found → All (λ n. n < count) found → length found ≤ count
few found count once inside =
    length-le_from_distinct_below found count (IsDistinct-from_AllPairs same_test found once)
    (λ n is. All-contains (λ k. k < count) found n inside (Contains-from_any same_number n found is))

-- ---- one number more

same_visit : (found : List ℕ) (number : ℕ) → Contains found number → Finds found (λ n. n ≡ number) found
same_visit found number has = record { long = omega arith; kept = λ k lt. refl; has = λ n is. subst (λ (m : ℕ). Contains found m) (sym is) has; only = λ n h. inl h }

new_visit : (found : List ℕ) (number : ℕ) → Finds found (λ n. n ≡ number) (found ++ number ∷ [])
new_visit found number = record {
  long = let long = length_push found number in omega (arith, long);
  kept = λ k lt. get_or_append_left found (number ∷ []) 0 k lt;
  has = λ n is. subst (λ (m : ℕ). Contains (found ++ number ∷ []) m) (sym is) (Contains-push found number);
  only = λ n h. back n (Contains-push_cases found number n h);
}
  where
    back : (n : ℕ) → Contains found n ⊎ (number ≡ n) → Contains found n ⊎ (n ≡ number)
    back n (inl h) = inl h
    back n (inr e) = inr (sym e)

pub inserted : (found : List ℕ) (number : ℕ) → Finds found (λ n. n ≡ number) (insert_key nat_eq found number)
inserted found number = by (list_any (nat_eq number) found) ((any_contains found number).0)
  where
    by : (b : Bool) → (b ≡ true → Contains found number) → Finds found (λ n. n ≡ number) (if b then found else found ++ number ∷ [])
    by true there = same_visit found number (there refl)
    by false there = new_visit found number

-- ---- several

-- what was found stays found
pub stays : (old new : List ℕ) (these : ℕ → Type 0) → Finds old these new → (n : ℕ) → Contains old n → Contains new n
stays old new these finds n has = at (at_from_Contains old n has)
  where
    at : (k : ℕ) × (k < length old) × HoldsAt (λ (y : ℕ). y ≡ n) old k → Contains new n
    at (k, lt, holds) = subst (λ (m : ℕ). Contains new m) (finds.kept k lt ∙ holds 0) (Contains-get_or new k 0 (let x = finds.long in omega (arith, x, lt)))

pub finds_none : (found : List ℕ) (these : ℕ → Type 0) → ((n : ℕ) → these n → ⊥) → Finds found these found
finds_none found these none = record { long = omega arith; kept = λ k lt. refl; has = λ n h. absurd (none n h); only = λ n h. inl h }

-- those of a first part, and then those of the rest
pub finds_both : (old found new : List ℕ) (front back these : ℕ → Type 0) → Finds old front found → Finds found back new
    → ((n : ℕ) → these n → front n ⊎ back n) → ((n : ℕ) → front n → these n) → ((n : ℕ) → back n → these n) → Finds old these new
finds_both old found new front back these a b split from_front from_back = record {
  long = let x = a.long in let y = b.long in omega (arith, x, y);
  kept = λ k lt. b.kept k (let x = a.long in omega (arith, x, lt)) ∙ a.kept k lt;
  has = λ n h. has n (split n h);
  only = λ n h. only n (b.only n h);
}
  where
    has : (n : ℕ) → front n ⊎ back n → Contains new n
    has n (inl h) = stays found new back b n (a.has n h)
    has n (inr h) = b.has n h

    inner : (n : ℕ) → Contains old n ⊎ front n → Contains old n ⊎ these n
    inner n (inl h) = inl h
    inner n (inr h) = inr (from_front n h)

    only : (n : ℕ) → Contains found n ⊎ back n → Contains old n ⊎ these n
    only n (inl h) = inner n (a.only n h)
    only n (inr h) = inr (from_back n h)

-- ---- the numbers of a list

pub listed_none : (numbers : List ℕ) → Finds [] (Contains (take 0 numbers)) []
listed_none numbers = finds_none [] (Contains (take 0 numbers)) (λ n has. in_nothing n has)

pub listed_more : (numbers found new : List ℕ) (i : ℕ) → i < length numbers → Finds [] (Contains (take i numbers)) found → Finds found (λ n. n ≡ get_or numbers i 0) new → Finds [] (Contains (take (i + 1) numbers)) new
listed_more numbers found new i lt a b =
    subst (λ (l : List ℕ). Finds [] (Contains l) new) (sym (take_more numbers i 0 lt))
    (finds_both [] found new (Contains front) (λ n. n ≡ number) (Contains (front ++ number ∷ [])) a b
    (λ n has. turned n (Contains-push_cases front number n has))
    (λ n has. Contains-append_left front (number ∷ []) n has)
    (λ n is. subst (λ (m : ℕ). Contains (front ++ number ∷ []) m) (sym is) (Contains-push front number)))
  where
    front : List ℕ
    front = take i numbers

    number : ℕ
    number = get_or numbers i 0

    turned : (n : ℕ) → Contains front n ⊎ (number ≡ n) → Contains front n ⊎ (n ≡ number)
    turned n (inl h) = inl h
    turned n (inr e) = inr (sym e)
