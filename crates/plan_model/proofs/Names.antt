-- Names in a set of borrowed names.
use Rattle.std.proofs.Common.{◌≡◌, Bool, true, false, ◌||◌, List, [], ◌∷◌, ◌++◌, map, refl, sym, ◌∙◌, ap, if◌then◌else◌}
use Rattle.std.proofs.lemmas.List.{map-append}
use Rattle.std.specs.List.{list_any}
use Rattle.indexmap.specs.IndexSet.{insert_key}

module _ {X Y : Type 0} (f : X → Y) where
  -- a borrowed name stands among borrowed names where its bytes stand among theirs
  pub list_any-map : (p : Y → Bool) (xs : List X) → list_any p (map f xs) ≡ list_any (λ x. p (f x)) xs
  list_any-map p [] = refl
  list_any-map p (x ∷ xs) = ap (λ (rest : Bool). p (f x) || rest) (list_any-map p xs)

  chosen : (among : Bool) (xs : List X) (x : X) → map f (if among then xs else xs ++ x ∷ []) ≡ (if among then map f xs else map f xs ++ f x ∷ [])
  chosen true xs x = refl
  chosen false xs x = map-append f xs (x ∷ [])

  -- the names of a set behind one more
  pub insert_key-map : (eq : Y → Y → Bool) (xs : List X) (x : X) → map f (insert_key (λ a b. eq (f a) (f b)) xs x) ≡ insert_key eq (map f xs) (f x)
  insert_key-map eq xs x = chosen (list_any (λ b. eq (f x) (f b)) xs) xs x
      ∙ ap (λ (among : Bool). if among then map f xs else map f xs ++ f x ∷ []) (sym (list_any-map (eq (f x)) xs))
