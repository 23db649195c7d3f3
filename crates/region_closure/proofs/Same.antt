-- Only one list is the closure: both are ascending, and each has what the other has.
use Rattle.std.proofs.Common.{◌≡◌, ℕ, suc, ◌<◌, List, [], ◌∷◌, length, refl, sym, ◌∙◌, ap, subst, arith, ◌&&◌, eqb, inl, inr}
use Rattle.std.specs.Bool.{Decides}
use Rattle.std.specs.Prelude.{◌⊎◌, AllPairs, Contains, HoldsAt}
use Rattle.std.proofs.lemmas.Bool.Decides.{Decides-and, Decides-eqb}
use Rattle.std.proofs.lemmas.List.Elements.{All-contains, Contains-append_cases, Contains-append_right, Contains-get_or, at_from_Contains}
use Rattle.graph_model.specs.declared.sub.Sub.{Sub}
use Rattle.graph_model.specs.Closures.{IsBefore}
use Rattle.graph_model.proofs.Laws.{same_sub}
use Rattle.rerun_set.proofs.Laws.{in_nothing, in_one}
use Rattle.region_closure.specs.Closing.{SameLaw}

not_both : (a b : Sub) → IsBefore a b → IsBefore b a → ⊥
not_both a b (inl lt) (inl less) = absurd (omega (arith, lt, less))
not_both a b (inl lt) (inr (same, less)) = absurd (omega (arith, lt, same))
not_both a b (inr (same, lt)) (inl less) = absurd (omega (arith, same, less))
not_both a b (inr (same, lt)) (inr (e, less)) = absurd (omega (arith, lt, less))

-- the first stands before each of the others
first_before : (x : Sub) (xs : List Sub) → AllPairs IsBefore (x ∷ xs) → (z : Sub) → Contains xs z → IsBefore x z
first_before x xs ascending z has = at (at_from_Contains xs z has)
  where
    at : (k : ℕ) × (k < length xs) × HoldsAt (λ (y : Sub). y ≡ z) xs k → IsBefore x z
    at (k, lt, holds) = subst (λ (s : Sub). IsBefore x s) (holds x) (ascending 0 (suc k) x (omega arith) (omega (arith, lt)))

rest_ascends : (x : Sub) (xs : List Sub) → AllPairs IsBefore (x ∷ xs) → AllPairs IsBefore xs
rest_ascends x xs ascending i j d lt less = ascending (suc i) (suc j) d (omega (arith, lt)) (omega (arith, less))

abbrev HasAll : List Sub → List Sub → Type 0
HasAll ys xs = (z : Sub) → Contains xs z → Contains ys z

of_first : (x : Sub) (xs : List Sub) → Contains (x ∷ xs) x
of_first x xs = Contains-get_or (x ∷ xs) 0 x (omega arith)

-- what is one of the others is no first
rest_has : (x y : Sub) (xs ys : List Sub) → AllPairs IsBefore (x ∷ xs) → x ≡ y → HasAll (y ∷ ys) (x ∷ xs) → HasAll ys xs
rest_has x y xs ys ascending same all z has = by (Contains-append_cases (y ∷ []) ys z (all z (Contains-append_right (x ∷ []) xs z has)))
  where
    by : Contains (y ∷ []) z ⊎ Contains ys z → Contains ys z
    by (inl one) =
        let is : x ≡ z = same ∙ in_one y z one in
        let before : IsBefore x x = subst (λ (s : Sub). IsBefore x s) (sym is) (first_before x xs ascending z has) in
        absurd (not_both x x before before)
    by (inr more) = more

same_first : (x y : Sub) (xs ys : List Sub) → AllPairs IsBefore (x ∷ xs) → AllPairs IsBefore (y ∷ ys) → HasAll (y ∷ ys) (x ∷ xs) → HasAll (x ∷ xs) (y ∷ ys) → x ≡ y
same_first x y xs ys up rise all each =
    by (Contains-append_cases (y ∷ []) ys x (all x (of_first x xs))) (Contains-append_cases (x ∷ []) xs y (each y (of_first y ys)))
  where
    by : Contains (y ∷ []) x ⊎ Contains ys x → Contains (x ∷ []) y ⊎ Contains xs y → x ≡ y
    by (inl one) other = sym (in_one y x one)
    by (inr more) (inl one) = in_one x y one
    by (inr more) (inr also) = absurd (not_both x y (first_before x xs up y also) (first_before y ys rise x more))

same_lists : (xs ys : List Sub) → AllPairs IsBefore xs → AllPairs IsBefore ys → HasAll ys xs → HasAll xs ys → xs ≡ ys
same_lists [] [] up rise all each = refl
same_lists [] (y ∷ ys) up rise all each = absurd (in_nothing y (each y (of_first y ys)))
same_lists (x ∷ xs) [] up rise all each = absurd (in_nothing x (all x (of_first x xs)))
same_lists (x ∷ xs) (y ∷ ys) up rise all each =
    let same = same_first x y xs ys up rise all each in
    let rest : xs ≡ ys = same_lists xs ys (rest_ascends x xs up) (rest_ascends y ys rise) (rest_has x y xs ys up same all) (rest_has y x ys xs rise (sym same) each) in
    ap (λ (s : Sub). s ∷ xs) same ∙ ap (λ (l : List Sub). y ∷ l) rest

pub same_law : SameLaw
same_law vs gone set other a b =
    same_lists set other a.ascending b.ascending
    (λ z has. All-contains (λ (s : Sub). Contains other s) set z (a.least other b.closed) has)
    (λ z has. All-contains (λ (s : Sub). Contains set s) other z (b.least set a.closed) has)

-- ---- subtasks compared

pub subs_decide : (a b : Sub) → Decides (eqb a.vertex b.vertex && eqb a.subtask b.subtask) (a ≡ b)
subs_decide a b =
    let vertex = Decides-eqb a.vertex b.vertex in
    let subtask = Decides-eqb a.subtask b.subtask in
    let both = Decides-and (eqb a.vertex b.vertex) (eqb a.subtask b.subtask) vertex subtask in (
      λ yes. let (v, s) = both.0 yes in same_sub a b v s,
      λ same. both.1 (ap (λ (x : Sub). x.vertex) same, ap (λ (x : Sub). x.subtask) same),
    )
