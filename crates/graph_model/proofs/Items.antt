-- Items of lists.
use Rattle.std.proofs.Common.{◌≡◌, ℕ, zero, suc, ◌<◌, List, [], ◌∷◌, length, map, get_or, Option, Some, None, refl, sym, ap, subst, arith, All}
use Rattle.std.specs.Prelude.{⊤, Contains, HoldsAt}
use Rattle.std.specs.Option.{MatchOption}
use Rattle.std.proofs.lemmas.List.Elements.{All-contains, All-contains_itself, at_from_Contains}

pub none_is_some : {X : Type 0} (x : X) → None ≡ Some x → ⊥
none_is_some {X} x e = subst (λ (o : Option X). MatchOption o ⊤ (λ _. ⊥)) e tt

pub some_is : {X : Type 0} (x y : X) → Some x ≡ Some y → x ≡ y
some_is {X} x y e = subst (λ (o : Option X). MatchOption o ⊤ (λ z. x ≡ z)) e refl

pub get_or-map : {X Y : Type 0} (f : X → Y) (xs : List X) (k : ℕ) (d : X) → get_or (map f xs) k (f d) ≡ f (get_or xs k d)
get_or-map f [] k d = refl
get_or-map f (x ∷ xs) zero d = refl
get_or-map f (x ∷ xs) (suc k) d = get_or-map f xs k d

pub in_nothing : {X : Type 0} (x : X) → Contains {X = X} [] x → ⊥
in_nothing {X} x has = at_nothing (at_from_Contains [] x has)
  where
    at_nothing : (k : ℕ) × (k < length {A = X} []) × HoldsAt (λ (y : X). y ≡ x) [] k → ⊥
    at_nothing (k, lt, holds) = absurd (omega (arith, lt))

pub in_one : {X : Type 0} (y x : X) → Contains (y ∷ []) x → x ≡ y
in_one {X} y x has = only (at_from_Contains (y ∷ []) x has)
  where
    only : (k : ℕ) × (k < length (y ∷ [])) × HoldsAt (λ (z : X). z ≡ x) (y ∷ []) k → x ≡ y
    only (zero, lt, holds) = sym (holds y)
    only (suc k, lt, holds) = absurd (omega (arith, lt))

pub in_map : {X Y : Type 0} (f : X → Y) (xs : List X) (x : X) → Contains xs x → Contains (map f xs) (f x)
in_map {X = X} {Y = Y} f xs x has =
    All-contains (λ (y : X). Contains (map f xs) (f y)) xs x (each xs) has
  where
    each : (ys : List X) → All (λ (y : X). Contains (map f ys) (f y)) ys
    each ys k d lt = subst (λ (z : Y). Contains (map f ys) z) (get_or-map f ys k d) (All-contains_itself (map f ys) k (f d) (subst (λ (n : ℕ). k < n) (long ys) lt))
      where
        long : (ys : List X) → length ys ≡ length (map f ys)
        long [] = refl
        long (y ∷ ys) = ap (λ (n : ℕ). suc n) (long ys)
