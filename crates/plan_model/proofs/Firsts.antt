-- The first of the items of two lists.
use Rattle.std.proofs.Common.{◌≡◌, List, [], ◌∷◌, ◌++◌, Some, None, slice_get, refl, ◌∙◌}

module _ {X : Type 0} where
  pub first_here : (xs ys : List X) (x : X) → slice_get xs 0 ≡ Some x → slice_get (xs ++ ys) 0 ≡ Some x
  first_here [] ys x e = search e
  first_here (a ∷ rest) ys x e = e

  pub first_later : (xs ys : List X) → slice_get xs 0 ≡ None → slice_get (xs ++ ys) 0 ≡ slice_get ys 0
  first_later [] ys e = refl
  first_later (a ∷ rest) ys e = search e

  pub none_is_empty : (xs : List X) → slice_get xs 0 ≡ None → xs ≡ []
  none_is_empty [] e = refl
  none_is_empty (a ∷ rest) e = search e

  -- the first of four lists, by which of them is the first that has one
  pub in_first : (a b c d : List X) (x : X) → slice_get a 0 ≡ Some x → slice_get (a ++ b ++ c ++ d) 0 ≡ Some x
  in_first a b c d x e = first_here (a ++ b ++ c) d x (first_here (a ++ b) c x (first_here a b x e))

  pub in_second : (a b c d : List X) (x : X) → slice_get a 0 ≡ None → slice_get b 0 ≡ Some x → slice_get (a ++ b ++ c ++ d) 0 ≡ Some x
  in_second a b c d x none e = first_here (a ++ b ++ c) d x (first_here (a ++ b) c x (first_later a b none ∙ e))

  pub in_third : (a b c d : List X) (x : X) → slice_get a 0 ≡ None → slice_get b 0 ≡ None → slice_get c 0 ≡ Some x → slice_get (a ++ b ++ c ++ d) 0 ≡ Some x
  in_third a b c d x none none' e = first_here (a ++ b ++ c) d x (first_later (a ++ b) c (first_later a b none ∙ none') ∙ e)

  pub in_last : (a b c d : List X) → slice_get a 0 ≡ None → slice_get b 0 ≡ None → slice_get c 0 ≡ None → slice_get (a ++ b ++ c ++ d) 0 ≡ slice_get d 0
  in_last a b c d none none' none'' = first_later (a ++ b ++ c) d (first_later (a ++ b) c (first_later a b none ∙ none') ∙ none'')
